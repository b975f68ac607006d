use Rattle.osdp_check.proofs.Entries.{entry}
use Rattle.osdp_check.proofs.laws.table_entries.Goals as goal

pub returns-clause-entries : goal.returns-clause-entries
returns-clause-entries c = entry
