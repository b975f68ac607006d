use Rattle.osdp_monitor_laws.proofs.Noticing.{tells_unheard}
use Rattle.osdp_monitor_laws.proofs.tells_unheard.Goals as goal

pub returns : goal.returns
returns c = tells_unheard
