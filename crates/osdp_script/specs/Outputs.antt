-- What an OUT does to eight outputs.
use Rattle.std.specs.Prelude.{ℕ, ◌==◌, ◌||◌, nat_le, Bool, List, [], ◌∷◌, slice_set, if◌then◌else◌}
use Rattle.osdp_msg.specs.declared.outputs.OutputRecord.{OutputRecord}

-- 1, 3 and 6 switch off
abbrev pub switches_off : OutputRecord → Bool
switches_off r = r.control == 1 || r.control == 3 || r.control == 6

-- 2, 4 and 5 switch on
abbrev pub switches_on : OutputRecord → Bool
switches_on r = r.control == 2 || r.control == 4 || r.control == 5

-- a record of an output that isn't there switches none
abbrev pub switched : List ℕ → OutputRecord → List ℕ
switched outputs r =
    if nat_le 8 r.output then outputs
    else if switches_off r then slice_set outputs r.output 0
    else if switches_on r then slice_set outputs r.output 1
    else outputs

-- the records are done in their order
abbrev pub outputs_after : List ℕ → List OutputRecord → List ℕ
outputs_after outputs [] = outputs
outputs_after outputs (r ∷ rs) = outputs_after (switched outputs r) rs
