-- The values of messages that hold a list: what a view of them means.
use Rattle.std.specs.Prelude.{ℕ, List}
use Rattle.arrayvec.specs.ArrayVec.{ArrayVec}
use Rattle.osdp_msg.specs.declared.nak.NakReason.{NakReason}
use Rattle.osdp_msg.specs.declared.capability.Capability.{Capability}

-- a list of bytes that a message holds
abbrev pub Held : Type 0
Held = ArrayVec ℕ

-- what a display shows
pub record TextValue : Type 0 where
  pub reader : ℕ
  pub command : ℕ
  pub time : ℕ
  pub row : ℕ
  pub column : ℕ
  pub characters : Held

-- a maker's three bytes, and what the maker likes
pub record MakerValue : Type 0 where
  pub vendor : List ℕ
  pub bytes : Held

-- why a command wasn't done
pub record NakValue : Type 0 where
  pub reason : NakReason
  pub detail : Held

-- what a device can do
pub record PdCapValue : Type 0 where
  pub capabilities : ArrayVec Capability

-- a card as the reader formatted it
pub record FormattedValue : Type 0 where
  pub reader : ℕ
  pub direction : ℕ
  pub digits : Held

-- pressed keys
pub record KeypadValue : Type 0 where
  pub reader : ℕ
  pub digits : Held
