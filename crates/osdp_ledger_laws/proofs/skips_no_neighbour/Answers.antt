use Rattle.osdp_ledger_laws.proofs.Laws.{neighbour}
use Rattle.osdp_ledger_laws.proofs.skips_no_neighbour.Goals as goal

pub returns : goal.returns
returns c = neighbour c.skips_none.ensures
