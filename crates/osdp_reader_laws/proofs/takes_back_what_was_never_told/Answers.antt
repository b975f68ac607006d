use Rattle.osdp_reader_laws.proofs.Withdrawing.{never_tells, withdraws_one}
use Rattle.osdp_reader_laws.proofs.takes_back_what_was_never_told.Goals as goal

pub returns-clause-one : goal.returns-clause-one
returns-clause-one g c = withdraws_one g.row.H.Denot

pub returns-clause-untold : goal.returns-clause-untold
returns-clause-untold g c = never_tells g.H.Handler.answer_of g.H.Handler.after
