use Rattle.osdp_tool_monitor.proofs.Common.{Some, ap, ◌∙◌, tabled_after}
use Rattle.osdp_tool_monitor.proofs.Sessions.{table_went}
use Rattle.osdp_tool_monitor.proofs.session.Session.tell_table.Goals as goal

pub returns-clause-goes : goal.returns-clause-goes
returns-clause-goes c =
    table_went c.is_due-due.result _ (Some c.args.now) c.tabled_after-tabled.result _ c.args.self.now c.tell_if.new.self _ _ c.is_due-due.ensures
    (c.tabled_after-tabled.ensures ∙ ap (λ due. tabled_after due c.args.self.now.tabled c.args.now) c.is_due-due.ensures)
    c.in_ok-tell_if.ensures.goes
