use Rattle.osdp_link_ledger.proofs.Answered.{acts_have_answers}
use Rattle.osdp_link_ledger.proofs.acts_have_answers_of_one_handler.Goals as goal

pub returns : goal.returns
returns g c = acts_have_answers g.H.Handler.answer_of g.H.Handler.after
