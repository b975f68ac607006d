-- Which records an OUT may have, for eight outputs.
use Rattle.std.specs.Prelude.{◌&&◌, nat_le, nat_lt, Bool, true, List, [], ◌∷◌}
use Rattle.osdp_msg.specs.declared.outputs.OutputRecord.{OutputRecord}

-- there are eight outputs, and controls 0 to 6
abbrev pub is_known : OutputRecord → Bool
is_known r = nat_lt r.output 8 && nat_le r.control 6

abbrev pub all_known : List OutputRecord → Bool
all_known [] = true
all_known (r ∷ rs) = is_known r && all_known rs
