use Rattle.osdp_panel_rules_laws.proofs.Telling.{never_accuses}
use Rattle.osdp_panel_rules_laws.proofs.never_accuses.Goals as goal

pub returns : goal.returns
returns c = never_accuses
