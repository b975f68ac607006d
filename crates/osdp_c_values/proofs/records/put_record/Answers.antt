use Rattle.std.proofs.Common.{refl}
use Rattle.osdp_c_values.proofs.Putting.{put_after_two}
use Rattle.osdp_c_values.proofs.records.put_record.Goals as goal

pub returns : goal.returns
returns c = put_after_two _ c.put_numbers.result c.put_numbers.new.out _ _ c.in_ok-number.ensures c.in_ok-rest.ensures (rw c.from.ensures refl) c.put_numbers.ensures
