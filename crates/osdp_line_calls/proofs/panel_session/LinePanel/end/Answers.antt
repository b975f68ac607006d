use Rattle.osdp_line_calls.proofs.Common.{◌≡◌, ap, string_bytes, subst, IsDeadline, Session}
use Rattle.osdp_panel.specs.Orders.{PanelState}
use Rattle.osdp_line_calls.proofs.PanelCalls.{due_written}
use Rattle.osdp_line_calls.proofs.panel_session.LinePanel.end.Goals as goal

pub returns : goal.returns
returns c before done =
    let same : c.self.inside.panel ≡ c.args.self.now.panel = cc (ap (λ (x : Session). x.panel) c.self.view_is) in
    due_written _ before (string_bytes c.args.text.now) (string_bytes c.push_due.new.text) c.args.self.now done c.next_deadline-due.result
    c.push_due.ensures.text (subst (λ (p : PanelState). IsDeadline p c.next_deadline-due.result) same c.next_deadline-due.ensures) c.push_due.ensures.range
