use Rattle.osdp_calls_ledger.proofs.Reporting.{tells_reports}
use Rattle.osdp_calls_ledger.proofs.reports_are_told.Goals as goal

pub returns : goal.returns
returns g c = tells_reports g.H.Handler.answer_of g.H.Handler.after
