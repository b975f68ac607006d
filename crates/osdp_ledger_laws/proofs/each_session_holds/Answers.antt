use Rattle.osdp_ledger_laws.proofs.Sessions.{each_session_holds}
use Rattle.osdp_ledger_laws.proofs.each_session_holds.Goals as goal

pub returns : goal.returns
returns c = each_session_holds
