use Rattle.osdp_calls_time_laws.proofs.Instance.{long_day_timely}
use Rattle.osdp_calls_time_laws.proofs.a_long_day_is_read_in_time.Goals as goal

pub returns : goal.returns
returns g c = long_day_timely g.H.Handler.answer_of g.H.Handler.after
