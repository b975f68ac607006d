use Rattle.osdp_tool_plan.proofs.Common.{subst, sym, IsPlan}
use Rattle.osdp_tool_plan.proofs.Ranges.{default_in_range}
use Rattle.osdp_tool_plan.proofs.setting.PlannedConfigured.default_settings.Goals as goal

pub returns-clause-range : goal.returns-clause-range
returns-clause-range c = subst IsPlan (sym c.new.ensures) default_in_range
