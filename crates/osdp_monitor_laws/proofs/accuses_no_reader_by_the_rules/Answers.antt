use Rattle.osdp_monitor_laws.proofs.AnyReaders.{accuses_no_reader_by_the_rules}
use Rattle.osdp_monitor_laws.proofs.accuses_no_reader_by_the_rules.Goals as goal

pub returns : goal.returns
returns c = accuses_no_reader_by_the_rules
