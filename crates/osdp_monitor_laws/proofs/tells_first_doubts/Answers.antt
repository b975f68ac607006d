use Rattle.osdp_monitor_laws.proofs.Accusing.{tells_first_doubts}
use Rattle.osdp_monitor_laws.proofs.tells_first_doubts.Goals as goal

pub returns : goal.returns
returns c = tells_first_doubts
