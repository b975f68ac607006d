use Rattle.osdp_c.proofs.Common.{◌≡◌, TableDue}
use Rattle.osdp_c.proofs.Heard.{heard_in}
use Rattle.osdp_c.proofs.monitor.osdp_monitor_table.Goals as goal

pub returns-in-Some : goal.returns-in-Some
returns-in-Some c =
    heard_in TableDue _ _ c.tell_table-status.result _ _ _ (rw c.in-Some.is at c.take.ensures.machine) (rw c.deref_mut.ensures.value at c.tell_table-status.ensures) c.number.ensures c.put.ensures
