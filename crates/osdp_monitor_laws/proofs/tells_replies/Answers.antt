use Rattle.osdp_monitor_laws.proofs.Noticing.{tells_replies}
use Rattle.osdp_monitor_laws.proofs.tells_replies.Goals as goal

pub returns : goal.returns
returns c = tells_replies
