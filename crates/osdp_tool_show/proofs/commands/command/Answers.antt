use Rattle.osdp_tool_show.proofs.Common.{sym, ap, ◌∙◌, final_answer_of, inner_of, has_failed, watched, Works}
use Rattle.osdp_tool_show.proofs.Whole.{ends_whole}
use Rattle.osdp_tool_show.proofs.Finishing.{ends_finished}
use Rattle.osdp_tool_show.proofs.Works.{ends_at_once, part_at_once}
use Rattle.osdp_tool_show.proofs.commands.command.Goals as goal
use Rattle.osdp_tool_show.proofs.commands.command.Goals.{in-Ok, in-Err}

pub returns-then-failed-clause-ends : goal.returns-then-failed-clause-ends
returns-then-failed-clause-ends g c =
    ends_at_once c.args.detail c.args.form c.args.limit (g.R.Read.remaining (inner_of c.args.input.now)) (g.W.Write.contents (inner_of c.args.output.now))
    (has_failed c.args.input.now) (has_failed c.args.output.now) (sym c.failed.ensures ∙ c.if-failed.true)

pub returns-clause-ends : goal.returns-clause-ends
returns-clause-ends g c =
    let ib = g.R.Read.remaining (inner_of c.args.input.now) in
    let start = g.W.Write.contents (inner_of c.args.output.now) in
    let works : Works c.args.detail c.args.form c.args.limit (watched g.R.Read.remaining c.args.input.now c.match-new.input)
    (watched g.W.Write.contents c.args.output.now c.match-new.output) c.match-new.answer =
    elim c.match-new.branch [
      | in-Ok w ↦ rw w.input-is (rw w.output-is (rw w.answer-is (w.read-answer.ensures c.args.detail c.args.form start (w.in-Ok.ensures.follows start))))
      | in-Err w ↦ rw w.input-is (rw w.output-is (rw w.answer-is (rw w.in-Err.ensures.fault (
        sym c.failed.ensures ∙ c.if-failed.false,
        part_at_once c.args.detail c.args.form c.args.limit ib start (has_failed c.args.input.now) (has_failed c.args.output.now),
      ))))
    ] in
    ends_finished c.args.detail c.args.form c.args.limit _ _ _ _ _ _ (has_failed c.match-new.output) _ c.match-new.answer c.finish.result
    (c.finish.ensures.answer ∙ ap (λ f. final_answer_of f (has_failed c.finish.new.output) c.match-new.answer) c.failed-3.ensures)
    works c.finish.ensures.bytes (λ ill. ap has_failed (c.finish.ensures.kept ill) ∙ ill)

pub returns-clause-whole : goal.returns-clause-whole
returns-clause-whole g c = ends_whole _ _ _ _ _ _ _ _ (returns-clause-ends g c)

pub returns-then-failed-2-clause-ends : goal.returns-then-failed-2-clause-ends
returns-then-failed-2-clause-ends g c = (
  sym c.failed.ensures ∙ c.if-failed.false,
  sym c.failed-2.ensures ∙ c.if-failed-2.true,
  part_at_once c.args.detail c.args.form c.args.limit (g.R.Read.remaining (inner_of c.args.input.now)) (g.W.Write.contents (inner_of c.args.output.now))
      (has_failed c.args.input.now) (has_failed c.args.output.now),
)
