use Rattle.osdp_monitor_laws.proofs.Suspecting.{suspects_for_a_while}
use Rattle.osdp_monitor_laws.proofs.suspects_for_a_while.Goals as goal

pub returns : goal.returns
returns c = suspects_for_a_while
