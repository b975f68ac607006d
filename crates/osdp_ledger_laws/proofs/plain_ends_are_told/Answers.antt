use Rattle.osdp_ledger_laws.proofs.Laws.{plain_ends}
use Rattle.osdp_ledger_laws.proofs.plain_ends_are_told.Goals as goal

pub returns : goal.returns
returns c = plain_ends c.plain_steps_end_told.ensures
