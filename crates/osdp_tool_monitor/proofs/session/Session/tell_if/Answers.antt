use Rattle.osdp_tool_monitor.proofs.Common.{◌+◌, ◌*◌, ap, length, ℕ, on_ok}
use Rattle.osdp_tool_monitor.proofs.OpenRuns.{on_both}
use Rattle.osdp_tool_monitor.proofs.Sessions.{table_none, table_tells}
use Rattle.osdp_tool_monitor.proofs.session.Session.tell_if.Goals as goal

pub returns-then-not-due-clause-goes : goal.returns-then-not-due-clause-goes
returns-then-not-due-clause-goes c = table_none c.args.due c.args.self.now _ c.if-not-due.true c.requires.ready

pub returns-clause-goes : goal.returns-clause-goes
returns-clause-goes c =
    on_both c.end_table.result (table_tells c.args.due c.args.self.now c.end_table.new.self _ _ c.if-not-due.false c.requires.ready c.in_ok-push_table.ensures.hears)
    c.end_table.ensures.none c.end_table.ensures.hears

pub returns-clause-weighs : goal.returns-clause-weighs
returns-clause-weighs c =
    on_ok c.end_table.result (ap (λ (n : ℕ). n + (5 * length c.args.self.now.characters.items + 5 * c.args.self.now.ended))) c.end_table.ensures.load
