use Rattle.osdp_ledger_laws.proofs.Laws.{once}
use Rattle.osdp_ledger_laws.proofs.reports_once_a_session.Goals as goal

pub returns : goal.returns
returns c = once c.keeps_events.ensures
