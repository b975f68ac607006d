use Rattle.osdp_ledger_laws.proofs.Beginning.{reports_are_a_beginning}
use Rattle.osdp_ledger_laws.proofs.reports_are_a_beginning.Goals as goal

pub returns : goal.returns
returns c = reports_are_a_beginning
