use Rattle.osdp_link_laws.proofs.Clean.{goes_in_turn}
use Rattle.osdp_link_laws.proofs.goes_in_turn.Goals as goal

pub returns : goal.returns
returns g c = goes_in_turn g.H.Handler.answer_of g.H.Handler.after c.read_each_other.ensures
