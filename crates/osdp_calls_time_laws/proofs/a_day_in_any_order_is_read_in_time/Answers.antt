use Rattle.osdp_calls_time_laws.proofs.OwnOrder.{own_day_timely}
use Rattle.osdp_calls_time_laws.proofs.a_day_in_any_order_is_read_in_time.Goals as goal

pub returns : goal.returns
returns g c = own_day_timely g.H.Handler.answer_of g.H.Handler.after
