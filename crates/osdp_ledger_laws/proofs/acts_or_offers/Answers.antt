use Rattle.osdp_ledger_laws.proofs.Laws.{acts_or}
use Rattle.osdp_ledger_laws.proofs.acts_or_offers.Goals as goal

pub returns : goal.returns
returns c = acts_or c.tells_in_turn.ensures
