use Rattle.osdp_link_laws.proofs.AskedMoves.{each_is_asked}
use Rattle.osdp_link_laws.proofs.asked.each_is_asked.Goals as goal

pub returns : goal.returns
returns g c = each_is_asked g.H.Handler.answer_of g.H.Handler.after
