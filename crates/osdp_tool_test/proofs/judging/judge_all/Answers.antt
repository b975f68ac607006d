use Rattle.osdp_tool_test.proofs.Judged.{judged_all, judged_stop}
use Rattle.osdp_tool_test.proofs.judging.judge_all.Goals as goal

pub returns-in-Ok-Some : goal.returns-in-Ok-Some
returns-in-Ok-Some g c =
    judged_stop g.T.LineTest.takes g.T.LineTest.refuses g.T.LineTest.found c.args.test c.take_lines.new.test _ _ _ c.as_slice.result.now c.in_ok-whole.whole.bytes.items
    c.in_ok-whole.whole.fault c.in-Ok-Some.field-0 c.in-Ok-Some.number c.in_default.is c.in_ok-whole.ensures.read c.as_slice.ensures.value c.in-Ok-Some.field-0-is c.in-Ok-Some.ensures

pub returns-in-Ok : goal.returns-in-Ok
returns-in-Ok g c =
    judged_all g.T.LineTest.takes g.T.LineTest.refuses g.T.LineTest.found c.args.test c.take_lines.new.test _ _ _ c.as_slice.result.now c.in_ok-whole.whole.bytes.items
    c.in_ok-whole.whole.fault c.in-Ok-None.field-0 _ c.in_default.is c.in_ok-whole.ensures.read c.as_slice.ensures.value c.in-Ok-None.field-0-is c.in-Ok-None.ensures c.in-Ok.ensures
