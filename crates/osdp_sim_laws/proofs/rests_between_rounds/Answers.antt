use Rattle.osdp_sim_laws.proofs.Resting.{clears_the_line, each_round_brings_one_more, each_round_rests}
use Rattle.osdp_sim_laws.proofs.rests_between_rounds.Goals as goal

pub returns : goal.returns
returns g c =
    let stands = c.stands_on_one_link.ensures in
    let rests = c.comes_through.ensures.rest in
    let ranges = c.stays_in_range.ensures in
    let comes = c.ticks_come_due.ensures in
    record {
      cleared = clears_the_line g.H.Handler.answer_of g.H.Handler.after stands;
      rest = each_round_rests g.H.Handler.answer_of g.H.Handler.after stands rests ranges comes;
      more = each_round_brings_one_more g.H.Handler.answer_of g.H.Handler.after stands rests ranges comes c.comes_through.ensures.none_forgotten c.comes_through.ensures.from_rest;
    }
