use Rattle.osdp_monitor_laws.proofs.Telling.{leaves_stray_busy}
use Rattle.osdp_monitor_laws.proofs.leaves_stray_busy.Goals as goal

pub returns : goal.returns
returns c = leaves_stray_busy
