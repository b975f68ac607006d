use Rattle.osdp_tool_monitor.proofs.Common.{subst, [], ◌∷◌, List, ℕ, string_bytes, inner_of, has_failed, Hears, TableDue, Wrote}
use Rattle.osdp_tool_monitor.proofs.Writing.{events_wrote}
use Rattle.osdp_tool_monitor.proofs.session.Session.break_off.Goals as goal

pub returns : goal.returns
returns g c =
    let text = string_bytes c.push_table.new.text in
    events_wrote (TableDue ∷ []) c.args.self.now c.args.self.now text _ _ _ c.tell.result
    (subst (λ (t : List ℕ). Hears (TableDue ∷ []) c.args.self.now.line c.args.self.now.line t text) c.clear.ensures.bytes c.in_ok-push_table.ensures.hears)
    (subst (λ (t : List ℕ). Wrote t (g.W.Write.contents (inner_of c.args.output.now)) (g.W.Write.contents (inner_of c.tell.new.output)) (has_failed c.tell.new.output) c.tell.result) c.deref.ensures c.tell.ensures)
