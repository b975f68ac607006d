use Rattle.osdp_tool_sim.proofs.Common.{subst, sym, ap, ◌∙◌, final_answer_of, inner_of, has_failed, Ends}
use Rattle.osdp_tool_sim.proofs.Finishing.{ends_final, ends_whole}
use Rattle.osdp_tool_sim.proofs.command.sim.Goals as goal

pub returns-clause-ends : goal.returns-clause-ends
returns-clause-ends g c =
    let ib = g.R.Read.remaining (inner_of c.args.input.now) in
    let ia = g.R.Read.remaining (inner_of c.work-answer.new.input) in
    let before = g.W.Write.contents (inner_of c.args.output.now) in
    let middle = g.W.Write.contents (inner_of c.work-answer.new.output) in
    let after = g.W.Write.contents (inner_of c.finish.new.output) in
    let input = has_failed c.work-answer.new.input in
    let failed = has_failed c.finish.new.output in
    subst (λ r. Ends _ ib ia input before after failed r)
    (sym (c.finish.ensures.answer ∙ ap (λ f. final_answer_of f failed c.work-answer.result) c.failed-3.ensures))
    (ends_final _ ib ia before middle after input (has_failed c.work-answer.new.output) failed c.work-answer.result
    c.work-answer.ensures.says c.work-answer.ensures.failed c.finish.ensures.bytes (λ ill. ap has_failed (c.finish.ensures.kept ill) ∙ ill))

pub returns-clause-whole : goal.returns-clause-whole
returns-clause-whole g c = ends_whole _ _ _ _ _ _ _ _ (returns-clause-ends g c)
