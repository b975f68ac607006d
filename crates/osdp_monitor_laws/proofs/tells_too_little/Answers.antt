use Rattle.osdp_monitor_laws.proofs.Noticing.{tells_too_little}
use Rattle.osdp_monitor_laws.proofs.tells_too_little.Goals as goal

pub returns : goal.returns
returns c = tells_too_little
