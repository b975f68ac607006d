use Rattle.osdp_ledger_laws.proofs.Sessions.{orders_are_a_beginning}
use Rattle.osdp_ledger_laws.proofs.orders_are_a_beginning.Goals as goal

pub returns : goal.returns
returns c = orders_are_a_beginning
