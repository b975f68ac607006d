use Rattle.osdp_link_laws.proofs.Lapsing.{lapses_are_unheard}
use Rattle.osdp_link_laws.proofs.lapses.nobody_hears_a_lapse.Goals as goal

pub returns : goal.returns
returns g c = lapses_are_unheard g.H.Handler.answer_of g.H.Handler.after
