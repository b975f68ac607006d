use Rattle.osdp_line_calls.proofs.Common.{subst, some_same}
use Rattle.osdp_line_calls.proofs.Ranges.{set_in_range}
use Rattle.osdp_line_calls.specs.PanelSettings.{AreInRange}
use Rattle.osdp_line_calls.proofs.panel_command.PanelSettingsConfigured.set.Goals as goal

pub returns-clause-range : goal.returns-clause-range
returns-clause-range c = λ next fits is h. subst AreInRange (some_same _ next is) (rw c.set.ensures (set_in_range c.args.setting c.args.self.config fits h))
