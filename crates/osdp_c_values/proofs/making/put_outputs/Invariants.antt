use Rattle.osdp_c_values.proofs.Common.{◌≡◌, ◌++◌, drop, map, output_record}
use Rattle.osdp_c_values.proofs.making.put_outputs.Given as goal

abbrev pub invariant-loop-one : goal.invariant-loop-one
invariant-loop-one l = l.records.items ++ map output_record (drop l.one-index l.given) ≡ map output_record l.given
