use Rattle.osdp_plan_laws.proofs.Common.{new_bus, after_calls, always_well}
use Rattle.osdp_plan_laws.proofs.Figures.{rounds_by_plan}
use Rattle.osdp_plan_laws.proofs.Passed.{standing_is_under_way, turns_wait_within}
use Rattle.osdp_plan_laws.proofs.rounds_keep_to_figures.Goals as goal

pub returns : goal.returns
returns c = record {
  rounds = λ p config calls is. rounds_by_plan p (after_calls calls (new_bus config)) (always_well config calls is);
  waits = turns_wait_within;
  standing = standing_is_under_way;
}
