use Rattle.osdp_plan_laws.proofs.Common.{new_bus, after_calls, always_well}
use Rattle.osdp_plan_laws.proofs.Hostile.{hostile_turns_hold}
use Rattle.osdp_plan_laws.proofs.hostile_turns_hold.Goals as goal

pub returns : goal.returns
returns c = λ p config calls is. hostile_turns_hold p (after_calls calls (new_bus config)) (always_well config calls is)
