use Rattle.std.proofs.Common.{true, false, sym, ◌∙◌}
use Rattle.osdp_bus.proofs.Waiting.{due_from}
use Rattle.osdp_bus.proofs.entry.Entry.deadline.Goals as goal

pub returns-then-is_due : goal.returns-then-is_due
returns-then-is_due c =
    due_from c.args.self.now.controller c.args.now c.in_ok-deadline.deadline true c.in_ok-deadline.ensures (sym c.is_due.ensures ∙ c.if-is_due.true)

pub returns-else-is_due : goal.returns-else-is_due
returns-else-is_due c =
    due_from c.args.self.now.controller c.args.now c.in_ok-deadline.deadline false c.in_ok-deadline.ensures (sym c.is_due.ensures ∙ c.if-is_due.false)
