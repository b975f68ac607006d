use Rattle.osdp_monitor_laws.proofs.LateAnswers.{accuses_no_late_reader}
use Rattle.osdp_monitor_laws.proofs.accuses_no_late_reader.Goals as goal

pub returns : goal.returns
returns c = accuses_no_late_reader
