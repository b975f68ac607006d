use Rattle.osdp_c_values.proofs.Common.{◌≡◌, ◌++◌, List, codes, length, flat_map, printed, IsAt}
use Rattle.osdp_c_values.proofs.records.put_words.Given as goal

-- the records before those that are left have been put
abbrev pub invariant-records : goal.invariant-records
invariant-records g l =
    (done : List g.row.R.Denot) × (done ++ l.left ≡ l.fn.records)
    × IsAt l.initial.at l.initial.out l.end l.out (flat_map (λ r. codes " " ++ printed (g.R.Recorded.put_as r)) done)

abbrev pub decreases-records : goal.decreases-records
decreases-records g l = length l.left
