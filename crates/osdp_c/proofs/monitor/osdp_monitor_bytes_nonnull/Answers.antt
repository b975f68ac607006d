use Rattle.osdp_c.proofs.Common.{◌≡◌, Come}
use Rattle.osdp_c.proofs.Heard.{heard_in}
use Rattle.osdp_c.proofs.monitor.osdp_monitor_bytes_nonnull.Goals as goal

pub returns-in-Some : goal.returns-in-Some
returns-in-Some c =
    heard_in (Come c.args.bytes.now) _ _ c.hear-status.result _ _ _ (rw c.in-Some.is at c.take.ensures.machine) (rw c.deref_mut.ensures.value at c.hear-status.ensures) c.number.ensures c.put.ensures
