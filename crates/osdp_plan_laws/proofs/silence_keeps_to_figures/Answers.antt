use Rattle.osdp_plan_laws.proofs.Common.{new_bus, after_calls, always_well}
use Rattle.osdp_plan_laws.proofs.Figures.{silence_by_plan}
use Rattle.osdp_plan_laws.proofs.Passed.{silence_lasts_within}
use Rattle.osdp_plan_laws.proofs.Instances.{silence_figure_is_reached}
use Rattle.osdp_plan_laws.proofs.silence_keeps_to_figures.Goals as goal

pub returns : goal.returns
returns c = record {
  told = λ p config calls is. silence_by_plan p (after_calls calls (new_bus config)) (always_well config calls is);
  reached = silence_figure_is_reached;
  waits = silence_lasts_within;
}
