use Rattle.osdp_monitor_laws.proofs.AnyPanels.{accuses_no_panel_by_the_rules}
use Rattle.osdp_monitor_laws.proofs.accuses_no_panel_by_the_rules.Goals as goal

pub returns : goal.returns
returns c = accuses_no_panel_by_the_rules
