use Rattle.osdp_panel_rules_laws.proofs.Telling.{finds}
use Rattle.osdp_panel_rules_laws.proofs.finds.Goals as goal

pub returns : goal.returns
returns c = finds
