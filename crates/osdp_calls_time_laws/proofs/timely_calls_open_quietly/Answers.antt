use Rattle.osdp_calls_time_laws.proofs.Holding.{open_quietly}
use Rattle.osdp_calls_time_laws.proofs.timely_calls_open_quietly.Goals as goal

pub returns : goal.returns
returns g c = open_quietly g.H.Handler.answer_of g.H.Handler.after c.reads_what_is_asked.ensures
