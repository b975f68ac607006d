use Rattle.osdp_ledger_laws.proofs.Reports.{each_session_reports}
use Rattle.osdp_ledger_laws.proofs.each_session_reports.Goals as goal

pub returns : goal.returns
returns c = each_session_reports
