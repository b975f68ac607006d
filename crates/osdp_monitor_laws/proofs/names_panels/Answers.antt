use Rattle.osdp_monitor_laws.proofs.Accusing.{names_panels}
use Rattle.osdp_monitor_laws.proofs.names_panels.Goals as goal

pub returns : goal.returns
returns c = names_panels
