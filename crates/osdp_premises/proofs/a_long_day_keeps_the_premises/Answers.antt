use Rattle.osdp_premises.proofs.LongDay.{day_keeps, restarts_happen}
use Rattle.osdp_premises.proofs.a_long_day_keeps_the_premises.Goals as goal

pub returns : goal.returns
returns g c = record {
  keeps = day_keeps g.H.Handler.answer_of g.H.Handler.after;
  restarts = restarts_happen g.H.Handler.answer_of g.H.Handler.after;
}
