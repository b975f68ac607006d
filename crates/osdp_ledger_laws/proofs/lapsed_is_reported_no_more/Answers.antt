use Rattle.osdp_ledger_laws.proofs.Lapses.{no_more}
use Rattle.osdp_ledger_laws.proofs.lapsed_is_reported_no_more.Goals as goal

pub returns : goal.returns
returns c = no_more
