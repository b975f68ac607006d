use Rattle.osdp_link_laws.proofs.Counting.{counts_restarts}
use Rattle.osdp_link_laws.proofs.Doing.{each_move_does}
use Rattle.osdp_link_laws.proofs.effects.each_move_does.Goals as goal

pub returns : goal.returns
returns g c = each_move_does g.H.Handler.answer_of g.H.Handler.after (counts_restarts g.H.Handler.answer_of g.H.Handler.after)
