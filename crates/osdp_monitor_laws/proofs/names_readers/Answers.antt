use Rattle.osdp_monitor_laws.proofs.Breaking.{names_readers}
use Rattle.osdp_monitor_laws.proofs.names_readers.Goals as goal

pub returns : goal.returns
returns c = names_readers
