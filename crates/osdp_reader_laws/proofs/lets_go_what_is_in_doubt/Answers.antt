use Rattle.osdp_reader_laws.proofs.Withdrawing.{doubts_what_it_told, tells_no_more, told_what_is_in_doubt}
use Rattle.osdp_reader_laws.proofs.lets_go_what_is_in_doubt.Goals as goal

pub returns-clause-waits : goal.returns-clause-waits
returns-clause-waits g c = doubts_what_it_told g.H.Handler.answer_of g.H.Handler.after

pub returns-clause-told : goal.returns-clause-told
returns-clause-told g c = told_what_is_in_doubt g.H.Handler.answer_of g.H.Handler.after

pub returns-clause-gone : goal.returns-clause-gone
returns-clause-gone g c = tells_no_more g.H.Handler.answer_of g.H.Handler.after
