use Rattle.osdp_sim_laws.proofs.Begun.{sessions_counted}
use Rattle.osdp_sim_laws.proofs.Holding.{all_end, all_once}
use Rattle.osdp_sim_laws.proofs.schedule_holds_once.Goals as goal

pub returns-clause-ends : goal.returns-clause-ends
returns-clause-ends g c = all_end g.H.Handler.answer_of g.H.Handler.after c.stands_on_one_link.ensures

pub returns-clause-once : goal.returns-clause-once
returns-clause-once g c =
    let answer_of = g.H.Handler.answer_of in
    let after = g.H.Handler.after in
    all_once answer_of after c.stands_on_one_link.ensures (sessions_counted answer_of after)
