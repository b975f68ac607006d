use Rattle.osdp_tool_inputs.proofs.Common.{◌≡◌, ◌<◌, ◌+◌, get_or, length, refl, rules, sym, ltb-true, None, Some}
use Rattle.osdp_tool_inputs.proofs.RunPlaces.{finds_it, finds_other, finds_past}
use Rattle.osdp_tool_inputs.proofs.places.find_late.Goals as goal

pub returns-then-answer-run : goal.returns-then-answer-run
returns-then-answer-run c =
    let answer = c.in-Some.answer.now in
    let below : c.args.at < length c.args.late.now = ltb-true c.args.at (length c.args.late.now) (sym c.in-Some.ensures.lookup.0) in
    let is : answer ≡ get_or c.args.late.now c.args.at answer = search rules in
    finds_it c.args.late.now c.args.at c.args.run answer below is (record { told = Some answer.times; at = c.args.at + 1 }) c.if-answer-run.true refl refl

pub returns-else-answer-run : goal.returns-else-answer-run
returns-else-answer-run c =
    let answer = c.in-Some.answer.now in
    let below : c.args.at < length c.args.late.now = ltb-true c.args.at (length c.args.late.now) (sym c.in-Some.ensures.lookup.0) in
    let is : answer ≡ get_or c.args.late.now c.args.at answer = search rules in
    finds_other c.args.late.now c.args.at c.args.run answer below is (record { told = None; at = c.args.at }) c.if-answer-run.false refl refl

pub returns-in_default : goal.returns-in_default
returns-in_default c =
    finds_past c.args.late.now c.args.at c.args.run (record { told = None; at = c.args.at })
    c.in_default.ensures.lookup.3 refl refl
