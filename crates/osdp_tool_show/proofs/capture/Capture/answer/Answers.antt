use Rattle.osdp_tool_show.proofs.Common.{inner_of, has_failed, written_or_held}
use Rattle.osdp_tool_show.proofs.Works.{still_step, stopped_at_end}
use Rattle.osdp_tool_show.proofs.Stopping.{stops_ended}
use Rattle.osdp_tool_show.proofs.capture.Capture.answer.Goals as goal

pub returns-in_err-good : goal.returns-in_err-good
returns-in_err-good g c =
    stopped_at_end c.from_residual.result c.in_err-good.field-0.0 c.args.self.now _ _ _ _ c.from_residual.ensures.1
    c.in_err-good.ensures.step c.in_err-good.ensures.stops

pub returns-in_err-close : goal.returns-in_err-close
returns-in_err-close g c =
    let middle = written_or_held (g.W.Write.contents (inner_of c.end_last_line.new.output)) c.end_last_line.new.self.report in
    stopped_at_end c.from_residual-in_err-close.result c.in_err-close.field-0.0 c.args.self.now _ _ _ _ c.from_residual-in_err-close.ensures.1
    (still_step c.in_err-close.field-0.0 _ (has_failed c.end_last_line.new.output) _ c.in_ok-good.ensures.step c.in_err-close.ensures.step)
    (stops_ended c.in_ok-good.good c.args.self.now c.end_last_line.new.self _ middle _ c.in_ok-good.ensures.ends c.in_err-close.ensures.stops)
