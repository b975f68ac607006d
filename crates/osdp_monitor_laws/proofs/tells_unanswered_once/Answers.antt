use Rattle.osdp_monitor_laws.proofs.Noticing.{tells_unanswered_once}
use Rattle.osdp_monitor_laws.proofs.tells_unanswered_once.Goals as goal

pub returns : goal.returns
returns c = tells_unanswered_once
