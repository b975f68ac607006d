use Rattle.osdp_monitor_laws.proofs.Accusing.{accuses_the_sender}
use Rattle.osdp_monitor_laws.proofs.accuses_the_sender.Goals as goal

pub returns : goal.returns
returns c = accuses_the_sender
