use Rattle.osdp_calls_time_laws.proofs.OwnOrder.{own_open_quietly}
use Rattle.osdp_calls_time_laws.proofs.own_order_opens_quietly.Goals as goal

pub returns : goal.returns
returns g c = own_open_quietly g.H.Handler.answer_of g.H.Handler.after c.reads_what_is_asked.ensures
