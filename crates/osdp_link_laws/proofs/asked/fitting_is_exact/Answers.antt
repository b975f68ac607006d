use Rattle.osdp_link_laws.proofs.MovesFitting.{fitting_exact}
use Rattle.osdp_link_laws.proofs.asked.fitting_is_exact.Goals as goal

pub returns : goal.returns
returns g c = fitting_exact g.H.Handler.answer_of g.H.Handler.after
