use Rattle.osdp_monitor_laws.proofs.Seconds.{names_second_replies}
use Rattle.osdp_monitor_laws.proofs.names_second_replies.Goals as goal

pub returns : goal.returns
returns c = names_second_replies
