use Rattle.osdp_monitor_laws.proofs.Noticing.{tells_unanswered}
use Rattle.osdp_monitor_laws.proofs.tells_unanswered.Goals as goal

pub returns : goal.returns
returns c = tells_unanswered
