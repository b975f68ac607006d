use Rattle.osdp_sim_laws.proofs.Answered.{answer_recovers}
use Rattle.osdp_sim_laws.proofs.Coming.{comes, recovers}
use Rattle.osdp_sim_laws.proofs.schedule_comes_through.Goals as goal

pub returns : goal.returns
returns g c =
    let stands = c.stands_on_one_link.ensures in
    let in_time = c.comes_through.ensures.in_time in
    let forgets = c.comes_through.ensures.none_forgotten in
    let after_losses = recovers g.H.Handler.answer_of g.H.Handler.after stands in_time forgets c.stays_in_range.ensures c.stay_where_they_are.ensures in
    record {
      onward = comes g.H.Handler.answer_of g.H.Handler.after stands in_time forgets c.stays_in_range.ensures;
      recovers = after_losses;
      answer = answer_recovers g.H.Handler.answer_of g.H.Handler.after after_losses c.schedule_holds_once.ensures.once;
    }
