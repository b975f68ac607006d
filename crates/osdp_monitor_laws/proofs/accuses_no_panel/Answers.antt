use Rattle.osdp_monitor_laws.proofs.PanelLines.{accuses_no_panel}
use Rattle.osdp_monitor_laws.proofs.accuses_no_panel.Goals as goal

pub returns : goal.returns
returns c = accuses_no_panel
