use Rattle.std.proofs.Common.{ap, sym, ℕ, ◌+◌, ◌-◌}
use Rattle.osdp_plan.specs.Plans.{config_of}
use Rattle.osdp_time_laws.specs.Bounds.{round_time}
use Rattle.osdp_plan.proofs.Turns.{turns_alike}
use Rattle.osdp_plan.proofs.plan.Plan.turns.Goals as goal

pub returns-in-Answer-clause-time : goal.returns-in-Answer-clause-time
returns-in-Answer-clause-time c =
    rw (c.in-Answer.is, c.times.ensures.product, c.answered.ensures.time, c.from-late.ensures)
    (sym (turns_alike c.args.self.now.late c.args.count _))

pub returns-in-OneSilent-clause-time : goal.returns-in-OneSilent-clause-time
returns-in-OneSilent-clause-time c =
    rw (c.in-OneSilent.is, c.times-in-OneSilent.ensures.product, c.silent.ensures.time, c.answered-in-OneSilent.ensures.time, c.from-late.ensures, c.saturating_sub.ensures)
    (ap (λ (n : ℕ). (round_time (config_of c.args.self.now) c.args.self.now.late + c.args.self.now.late) + n) (sym (turns_alike c.args.self.now.late (c.args.count - 1) _)))

pub returns-in-Hostile-clause-time : goal.returns-in-Hostile-clause-time
returns-in-Hostile-clause-time c =
    rw (c.in-Hostile.is, c.times-in-Hostile.ensures.product, c.longest_exchange.ensures.time, c.from-late.ensures)
    (sym (turns_alike c.args.self.now.late c.args.count _))
