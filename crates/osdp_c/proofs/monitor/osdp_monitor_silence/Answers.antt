use Rattle.osdp_c.proofs.Common.{[], RunEnds}
use Rattle.osdp_c.proofs.Heard.{heard_in}
use Rattle.osdp_c.proofs.monitor.osdp_monitor_silence.Goals as goal

pub returns-in-Some : goal.returns-in-Some
returns-in-Some c =
    heard_in (RunEnds []) _ _ c.end_run-status.result _ _ _ (rw c.in-Some.is at c.take.ensures.machine) (rw c.deref_mut.ensures.value at c.end_run-status.ensures) c.number.ensures c.put.ensures
