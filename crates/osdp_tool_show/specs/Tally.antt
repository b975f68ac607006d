-- Where the text stands, and what has been counted.
use Rattle.std.specs.Prelude.{ℕ, ◌+◌, ◌==◌, Bool, if◌then◌else◌, List, [], ◌∷◌}
use Rattle.osdp_frame.specs.Packet.{packet_length}
use Rattle.osdp_frame.specs.Reading.{RunItem, PacketItem, SkippedItem, RefusedItem}
use Rattle.osdp_tool_show.specs.declared.tally.Tally.{Tally}
use Rattle.osdp_tool_show.specs.ItemText.{is_refusal}

-- nothing has come
abbrev pub no_tally : Tally
no_tally = record { runs = 0; place = 0; packets = 0; skipped = 0; refused = 0 }

-- one more, where the test holds
abbrev pub one_if : Bool → ℕ
one_if test = if test then 1 else 0

-- after an item
abbrev pub tally_after : Tally → RunItem → Tally
tally_after tally (PacketItem p) = record tally {
  place = tally.place + packet_length p;
  packets = tally.packets + 1;
  refused = tally.refused + one_if (is_refusal (PacketItem p));
}
tally_after tally (SkippedItem b) = record tally { place = tally.place + 1; skipped = tally.skipped + 1 }
tally_after tally (RefusedItem fault) = record tally { place = tally.place + 1; refused = tally.refused + 1 }

-- after items, one after the other
unfoldable pub tally_after_all : Tally → List RunItem → Tally
tally_after_all tally [] = tally
tally_after_all tally (part ∷ parts) = tally_after_all (tally_after tally part) parts

-- after the end of a run; a run without bytes isn't counted
abbrev pub after_run : Tally → Tally
after_run tally = if tally.place == 0 then tally else record tally { runs = tally.runs + 1; place = 0 }

-- all counts together
abbrev pub counted : Tally → ℕ
counted tally = tally.runs + (tally.place + (tally.packets + (tally.skipped + tally.refused)))
