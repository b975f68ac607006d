use Rattle.osdp_msg.proofs.Common.{◌≡◌, ◌≤◌, List, length, flat_map}
use Rattle.osdp_msg.proofs.RecordTexts.{Parsed}
use Rattle.osdp_msg.proofs.parsing.read_records.Given as goal

abbrev pub invariant-words : goal.invariant-words
invariant-words g l =
    (done : List g.row.R.Denot) × (l.place.items ≡ flat_map g.R.Record.spelled done)
    × Parsed g.R.Record.word g.R.Record.fits l.fn.fields l.fields done × (length done ≤ g.row.MOST)

abbrev pub decreases-words : goal.decreases-words
decreases-words g l = length l.fields
