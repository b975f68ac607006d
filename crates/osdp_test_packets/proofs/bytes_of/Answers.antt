use Rattle.std.proofs.Common.{arith, sym, ◌∙◌}
use Rattle.std.proofs.lemmas.Grind.{common_steps}
use Rattle.osdp_test_packets.proofs.Spelling.{refused, taken, too_many}
use Rattle.osdp_test_packets.proofs.bytes_of.Goals as goal

pub returns-then-count-gt32-clause-spelled : goal.returns-then-count-gt32-clause-spelled
returns-then-count-gt32-clause-spelled c = too_many c.args.digits.now _ c.digits_of-digits.ensures c.if-count-gt32.true

pub returns-then-is_err-clause-spelled : goal.returns-then-is_err-clause-spelled
returns-then-is_err-clause-spelled c =
    refused c.args.digits.now _ _ _ _ c.digits_of-digits.ensures (grind (arith, common_steps)) c.decode_to_slice.ensures.value (sym c.is_err.ensures.value ∙ c.if-is_err.true)

pub returns-clause-room : goal.returns-clause-room
returns-clause-room c = (taken c.args.digits.now _ _ _ _ c.digits_of-digits.ensures (grind (arith, common_steps)) c.decode_to_slice.ensures.value (sym c.is_err.ensures.value ∙ c.if-is_err.false)).1

pub returns-clause-spelled : goal.returns-clause-spelled
returns-clause-spelled c = taken c.args.digits.now _ _ _ _ c.digits_of-digits.ensures (grind (arith, common_steps)) c.decode_to_slice.ensures.value (sym c.is_err.ensures.value ∙ c.if-is_err.false)
