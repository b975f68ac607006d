-- What a framer keeps.
use Rattle.std.specs.Prelude.{◌≡◌, ◌≤◌, ◌<◌, true, length}
use Rattle.osdp_frame.specs.declared.framer.Framer.TheInside.{Inside}
use Rattle.osdp_frame.specs.Packet.{largest}
use Rattle.osdp_frame.specs.Held.{Held, decided}
use Rattle.osdp_frame.specs.First.{item_if, FirstFits}

abbrev pub held_of : Inside → Held
held_of f = record { bytes = f.held.bytes; ended = f.ended }

pub record IsFramer (f : Inside) : Type 0 where
  pub room : length f.held.bytes ≤ largest
  -- a run that has ended holds a byte
  pub some : f.ended ≡ true → 0 < length f.held.bytes
  -- the first item is decided, and lies within what is held
  pub first : item_if f.first f.held.bytes ≡ decided f.ended f.held.bytes
  pub fits : FirstFits f.held.bytes f.first
