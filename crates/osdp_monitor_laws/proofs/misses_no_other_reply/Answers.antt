use Rattle.osdp_monitor_laws.proofs.Missing.{misses_no_other_reply}
use Rattle.osdp_monitor_laws.proofs.misses_no_other_reply.Goals as goal

pub returns : goal.returns
returns c = misses_no_other_reply
