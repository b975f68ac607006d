use Rattle.std.proofs.Common.{arith}
use Rattle.osdp_c_values.proofs.Putting.{listed, put_then}
use Rattle.osdp_c_values.proofs.pieces.put_list.Goals as goal

pub returns : goal.returns
returns c = put_then _ c.put_digits.result c.put_digits.new.out _ _ c.in_ok-first.ensures (listed c.args.list.now (λ e. grind (arith, e, c.is_empty.ensures, c.if-is_empty.false, c.if-is_empty.ensures))) c.put_digits.ensures
