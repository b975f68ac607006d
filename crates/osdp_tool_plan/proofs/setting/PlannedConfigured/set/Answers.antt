use Rattle.osdp_tool_plan.proofs.Common.{subst, some_same, AreInRange}
use Rattle.osdp_tool_plan.proofs.Ranges.{set_in_range}
use Rattle.osdp_tool_plan.proofs.setting.PlannedConfigured.set.Goals as goal

pub returns-clause-range : goal.returns-clause-range
returns-clause-range c = λ next fits is h. subst AreInRange (some_same _ next is) (rw c.set.ensures (set_in_range c.args.setting c.args.self.plan fits h))
