use Rattle.osdp_ledger_laws.proofs.OneSession.{one_session_holds}
use Rattle.osdp_ledger_laws.proofs.one_session_holds.Goals as goal

pub returns : goal.returns
returns c = one_session_holds
