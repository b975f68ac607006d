use Rattle.osdp_monitor_laws.proofs.Noticing.{tells_no_answered}
use Rattle.osdp_monitor_laws.proofs.tells_no_answered.Goals as goal

pub returns : goal.returns
returns c = tells_no_answered
