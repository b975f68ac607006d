use Rattle.osdp_line_calls.proofs.Common.{inr, Runs}
use Rattle.osdp_tool_streams.proofs.Answered.{on_err}
use Rattle.osdp_line_calls.proofs.Running.{unset}
use Rattle.osdp_line_calls.proofs.run.run_lines.Goals as goal

pub returns-in_err-machine-clause-run : goal.returns-in_err-machine-clause-run
returns-in_err-machine-clause-run g c =
    let is_set_by = g.P.LineCommand.is_set_by in
    let answers = g.P.LineAnswerer.answers in
    let remaining = g.R.Read.remaining in
    let contents = g.W.Write.contents in
    let run = c.args.run.now in
    let fault = c.in_err-machine.field-0.0 in
    on_err (λ r. Runs is_set_by answers remaining contents run run r) c.from_residual.result fault c.from_residual.ensures.1
    (unset is_set_by answers remaining contents run fault c.in_err-machine.ensures.none c.requires.unfailed)

pub returns-clause-run : goal.returns-clause-run
returns-clause-run g c = inr (record {
  first = c.in_ok-machine.machine;
  set = c.in_ok-machine.ensures.set;
  last = c.answer_lines.new.machine;
  ends = c.answer_lines.ensures;
})
