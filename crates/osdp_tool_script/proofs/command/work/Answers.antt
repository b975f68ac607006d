use Rattle.std.proofs.Common.{Err, Ok, subst}
use Rattle.osdp_line_answers.specs.Ending.{Ends as LinesEnd}
use Rattle.osdp_tool_streams.proofs.Answered.{on_err}
use Rattle.osdp_tool_streams.specs.Watched.{has_failed, inner_of}
use Rattle.osdp_tool_script.specs.Answers.{Tells}
use Rattle.osdp_tool_script.specs.Ending.{Ends}
use Rattle.osdp_tool_script.specs.declared.telling.Script.{Script}
use Rattle.osdp_tool_script.proofs.Running.{counted, stopped}
use Rattle.osdp_tool_script.proofs.command.work.Goals as goal

pub returns-in_err-answer_lines : goal.returns-in_err-answer_lines
returns-in_err-answer_lines g c =
    let ib = g.R.Read.remaining (inner_of c.args.input.now) in
    let ia = g.R.Read.remaining (inner_of c.answer_lines.new.input) in
    let before = g.W.Write.contents (inner_of c.args.output.now) in
    let after = g.W.Write.contents (inner_of c.answer_lines.new.output) in
    let input_failed = has_failed c.answer_lines.new.input in
    let failed = has_failed c.answer_lines.new.output in
    let fault = c.in_err-answer_lines.field-0.0 in
    on_err (λ r. Ends ib ia before after input_failed failed r) c.from_residual.result fault c.from_residual.ensures.1
    (stopped c.answer_lines.new.machine ib ia before input_failed after failed fault
    (subst (λ (first : Script). LinesEnd Tells first c.answer_lines.new.machine ib ia input_failed before after failed (Err fault)) c.new-script.ensures c.in_err-answer_lines.ensures))

pub returns : goal.returns
returns g c =
    let ib = g.R.Read.remaining (inner_of c.args.input.now) in
    let ia = g.R.Read.remaining (inner_of c.answer_lines.new.input) in
    let before = g.W.Write.contents (inner_of c.args.output.now) in
    let mid = g.W.Write.contents (inner_of c.answer_lines.new.output) in
    let input_failed = has_failed c.answer_lines.new.input in
    counted c.answer_lines.new.machine ib ia before input_failed mid (g.W.Write.contents (inner_of c.end.new.output)) (has_failed c.answer_lines.new.output)
    (has_failed c.end.new.output) c.end.result
    (subst (λ (first : Script). LinesEnd Tells first c.answer_lines.new.machine ib ia input_failed before mid (has_failed c.answer_lines.new.output) (Ok tt)) c.new-script.ensures c.in_ok-answer_lines.ensures)
    c.end.ensures
