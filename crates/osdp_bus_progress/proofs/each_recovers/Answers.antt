use Rattle.osdp_bus_progress.proofs.Answered.{answer_recovers}
use Rattle.osdp_bus_progress.proofs.Clearing.{each_recovers}
use Rattle.osdp_bus_progress.proofs.each_recovers.Goals as goal

pub returns-clause-state : goal.returns-clause-state
returns-clause-state g c =
    each_recovers g.H.Handler.answer_of g.H.Handler.after c.each_comes_through.ensures c.rests_between_rounds.ensures.cleared

pub returns-clause-answer : goal.returns-clause-answer
returns-clause-answer g c =
    answer_recovers g.H.Handler.answer_of g.H.Handler.after (returns-clause-state g c) c.each_account_holds_once.ensures.once c.has_an_account_each.ensures
