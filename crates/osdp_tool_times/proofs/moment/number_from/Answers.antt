use Rattle.std.proofs.Common.{sym, ◌∙◌}
use Rattle.osdp_tool_times.proofs.Numbers.{number_end, number_goes, number_stops}
use Rattle.osdp_tool_times.proofs.moment.number_from.Goals as goal

pub returns-in-None : goal.returns-in-None
returns-in-None c =
    number_stops c.digits.number c.digits.byte-index c.args.digits.now _ c.digits.invariant c.digits-test.true (sym c.next_number.ensures ∙ c.in-None.is)

pub digits-preserved : goal.digits-preserved
digits-preserved c =
    number_goes c.digits.number c.digits.byte-index c.args.digits.now _ c.digits.invariant c.digits-test.true c.in-Some.next (sym c.next_number.ensures ∙ c.in-Some.is)

pub returns : goal.returns
returns c = number_end c.digits.number c.digits.byte-index c.args.digits.now _ c.digits.invariant c.digits-test.false
