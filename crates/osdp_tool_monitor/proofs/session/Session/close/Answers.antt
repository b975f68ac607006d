use Rattle.osdp_tool_monitor.proofs.Common.{subst, Bool, Err, List, ℕ, string_bytes, inner_of, has_failed, Hears, on_err, end_events, TellsEvents, Wrote, cut_of}
use Rattle.osdp_tool_monitor.proofs.Writing.{events_part}
use Rattle.osdp_tool_monitor.proofs.session.Session.close.Goals as goal

pub returns-in_err-tell-clause-told : goal.returns-in_err-tell-clause-told
returns-in_err-tell-clause-told g c =
    let text = string_bytes c.end.new.text in
    let events = end_events c.args.self.now.mode.hex (cut_of c.args.self.now) in
    let before = g.W.Write.contents (inner_of c.args.output.now) in
    let after = g.W.Write.contents (inner_of c.tell.new.output) in
    on_err (λ r. TellsEvents events c.args.self.now c.end.new.self before after (has_failed c.tell.new.output) r) c.from_residual.result c.in_err-tell.field-0.0 c.from_residual.ensures.1
    (events_part Bool events c.args.self.now c.end.new.self c.end.new.self text before after (has_failed c.tell.new.output) c.in_err-tell.field-0.0
    (subst (λ (t : List ℕ). Hears events c.args.self.now.line c.end.new.self.line t text) c.clear.ensures.bytes c.in-Ok.ensures.ends.hears)
    (subst (λ (t : List ℕ). Wrote t before after (has_failed c.tell.new.output) (Err c.in_err-tell.field-0.0)) c.deref.ensures c.in_err-tell.ensures))
