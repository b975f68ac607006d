use Rattle.osdp_msg.proofs.Common.{◌≡◌, ◌++◌, ◌∷◌, List, length, flat_map, printed}
use Rattle.std.specs.Fmt.{HasWritten, IsPlainFormatter}
use Rattle.osdp_msg.proofs.printing.print_records.Given as goal

abbrev pub invariant-records : goal.invariant-records
invariant-records g l =
    (done : List g.row.R.Denot) × (l.fn.records ≡ done ++ l.left)
    × (IsPlainFormatter l.fn.f → HasWritten g.W.Write.write_str_gives l.fn.f (l.name ++ flat_map (λ r. 32 ∷ printed (g.R.Record.word r)) done) l.f)

abbrev pub decreases-records : goal.decreases-records
decreases-records g l = length l.left
