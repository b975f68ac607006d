use Rattle.osdp_monitor_laws.proofs.Missing.{misses_no_unanswered}
use Rattle.osdp_monitor_laws.proofs.misses_no_unanswered.Goals as goal

pub returns : goal.returns
returns c = misses_no_unanswered
