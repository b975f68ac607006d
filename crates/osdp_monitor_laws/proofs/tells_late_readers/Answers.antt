use Rattle.osdp_monitor_laws.proofs.LateAnswers.{tells_late_readers}
use Rattle.osdp_monitor_laws.proofs.tells_late_readers.Goals as goal

pub returns : goal.returns
returns c = tells_late_readers
