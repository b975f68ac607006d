use Rattle.osdp_premises.proofs.SharedAddress.{shared_breaks}
use Rattle.osdp_premises.proofs.a_shared_address_breaks_order.Goals as goal

pub returns : goal.returns
returns g c = shared_breaks g.H.Handler.answer_of g.H.Handler.after
