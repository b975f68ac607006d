use Rattle.osdp_tool_plan.proofs.Common.{◌∙◌, has_failed, inner_of, texts}
use Rattle.osdp_tool_plan.proofs.InTurn.{figures_written, unchanged}
use Rattle.osdp_tool_plan.proofs.Ranges.{planned_in_range}
use Rattle.osdp_tool_plan.proofs.Refused.{no_plan}
use Rattle.osdp_tool_plan.proofs.command.print.Goals as goal

pub plan_text-requires : goal.plan_text-requires
plan_text-requires g c = planned_in_range (texts c.args.words.now) c.in-Ok.plan c.in-Ok.ensures.planned

pub returns-in_default : goal.returns-in_default
returns-in_default g c = λ well. (no_plan (texts c.args.words.now) _ _ c.in_default.is c.planned.ensures.refused, unchanged (g.W.Write.contents (inner_of c.args.output.now)), well)

pub returns-in-Ok-plan_text : goal.returns-in-Ok-plan_text
returns-in-Ok-plan_text g c = λ well.
    figures_written (texts c.args.words.now) c.in-Ok.plan (g.W.Write.contents (inner_of c.args.output.now)) (g.W.Write.contents (inner_of c.write_out.new.output))
    c.as_bytes.result.now (has_failed c.args.output.now) (has_failed c.write_out.new.output) c.write_out.result c.in-Ok.ensures.planned
    (c.as_bytes.ensures.value ∙ c.in-Ok-plan_text.ensures) c.write_out.ensures.fault c.write_out.ensures.failed c.write_out.ensures.ok c.write_out.ensures.err well
