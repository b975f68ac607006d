use Rattle.osdp_tool_plan.proofs.Common.{◌≡◌, ◌∙◌, false, ap, sym, has_failed, inner_of, texts}
use Rattle.osdp_tool_plan.proofs.InTurn.{flushed}
use Rattle.osdp_tool_plan.proofs.command.plan.Goals as goal

pub returns : goal.returns
returns g c =
    let well : has_failed c.args.output.now ≡ false = sym c.failed.ensures ∙ c.if-failed.false in
    flushed (texts c.args.words.now) (g.W.Write.contents (inner_of c.args.output.now)) (g.W.Write.contents (inner_of c.print-answer.new.output))
    (g.W.Write.contents (inner_of c.finish.new.output)) c.finish.ensures.bytes (has_failed c.print-answer.new.output) (has_failed c.finish.new.output)
    c.print-answer.result c.finish.result (c.print-answer.ensures well) (λ did. ap has_failed (c.finish.ensures.kept did) ∙ did) c.finish.ensures.answer
