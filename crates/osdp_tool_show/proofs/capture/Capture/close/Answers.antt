use Rattle.osdp_tool_show.proofs.Common.{refl, inner_of, Capture, written_or_held}
use Rattle.osdp_tool_show.proofs.Reports.{on_ok_both}
use Rattle.osdp_tool_show.proofs.Works.{closed_by}
use Rattle.osdp_tool_show.proofs.Beginnings.{on_err, on_err_map}
use Rattle.osdp_tool_show.proofs.Stopping.{stops_closing_run, stops_counting}
use Rattle.osdp_tool_show.proofs.capture.Capture.close.Goals as goal

pub returns-clause-closed : goal.returns-clause-closed
returns-clause-closed g c =
    let last : Capture = record c.args.self.now { framer = c.end_run.new.framer; report = c.end.new.self } in
    on_ok_both c.end.result
    (λ kept written. closed_by c.args.self.now last c.end_run.new.framer c.end_run.new.report _ _ _ c.in_ok-end_run.ensures.ended kept.tally refl written)
    c.end.ensures.same c.end.ensures.written

pub returns-in_err-end_run-clause-stops : goal.returns-in_err-end_run-clause-stops
returns-in_err-end_run-clause-stops g c =
    on_err c.from_residual.result (stops_closing_run c.args.self.now (written_or_held (g.W.Write.contents (inner_of c.args.output.now)) c.args.self.now.report)
    (g.W.Write.contents (inner_of c.end_run.new.output)) c.in_err-end_run.ensures.stops)

pub returns-clause-stops : goal.returns-clause-stops
returns-clause-stops g c =
    on_err_map c.end.result (stops_counting c.args.self.now c.end_run.new.framer c.end_run.new.report
    (written_or_held (g.W.Write.contents (inner_of c.args.output.now)) c.args.self.now.report) (written_or_held (g.W.Write.contents (inner_of c.end_run.new.output)) c.end_run.new.report)
    (g.W.Write.contents (inner_of c.end.new.output)) c.in_ok-end_run.ensures.ended) c.end.ensures.stops
