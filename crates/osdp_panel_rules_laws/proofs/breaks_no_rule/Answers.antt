use Rattle.osdp_panel_rules_laws.proofs.Running.{breaks_no_rule}
use Rattle.osdp_panel_rules_laws.proofs.breaks_no_rule.Goals as goal

pub returns : goal.returns
returns c = breaks_no_rule
