use Rattle.osdp_plan_laws.proofs.Common.{new_bus, after_calls, always_well}
use Rattle.osdp_bus_order_laws.proofs.Flags.{always_flagged}
use Rattle.osdp_plan_laws.proofs.Figures.{cards_by_plan}
use Rattle.osdp_plan_laws.proofs.Passed.{cards_wait_within}
use Rattle.osdp_plan_laws.proofs.Instances.{card_before_another}
use Rattle.osdp_plan_laws.proofs.cards_keep_to_figures.Goals as goal

pub returns : goal.returns
returns c = record {
  each = λ p config calls is. cards_by_plan p (after_calls calls (new_bus config)) (always_well config calls is) (always_flagged config calls is);
  beside = card_before_another;
  waits = cards_wait_within;
}
