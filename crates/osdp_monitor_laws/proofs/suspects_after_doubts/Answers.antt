use Rattle.osdp_monitor_laws.proofs.Suspecting.{suspects_after_doubts}
use Rattle.osdp_monitor_laws.proofs.suspects_after_doubts.Goals as goal

pub returns : goal.returns
returns c = suspects_after_doubts
