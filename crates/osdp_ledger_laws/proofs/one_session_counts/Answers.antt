use Rattle.osdp_ledger_laws.proofs.Counting.{counts}
use Rattle.osdp_ledger_laws.proofs.one_session_counts.Goals as goal

pub returns : goal.returns
returns c = counts c.one_session_holds.ensures
