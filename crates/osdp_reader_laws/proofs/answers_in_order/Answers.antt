use Rattle.std.proofs.Common.{add-one}
use Rattle.osdp_reader_laws.proofs.Sequences.{answers-append, answers_anywhere, answer_by_what_came}
use Rattle.osdp_reader_laws.proofs.answers_in_order.Goals as goal

pub returns-clause-order : goal.returns-clause-order
returns-clause-order g c config handler first more =
    answers-append g.H.Handler.answer_of g.H.Handler.after config handler first more

pub returns-clause-before : goal.returns-clause-before
returns-clause-before g c config handler k commands others same =
    answer_by_what_came g.H.Handler.answer_of g.H.Handler.after config handler k commands others (rw add-one at same)

pub returns-clause-anywhere : goal.returns-clause-anywhere
returns-clause-anywhere g c config other handler commands id caps =
    answers_anywhere g.H.Handler.answer_of g.H.Handler.after config other handler commands id caps
