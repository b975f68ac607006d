use Rattle.std.proofs.Common.{string_bytes, subst}
use Rattle.osdp_line_calls.specs.PanelSessions.{Comes, Session, answered, does, overhears}
use Rattle.osdp_line_calls.proofs.PanelCalls.{all_told, heard_first, on_this}
use Rattle.osdp_line_calls.proofs.panel_session.LinePanel.answer.Goals as goal

pub returns : goal.returns
returns c =
    let t0 = string_bytes c.args.text.now in
    let t1 = string_bytes c.listen.new.text in
    let t2 = string_bytes c.call.new.text in
    let t3 = string_bytes c.tell.new.text in
    let call = c.args.call in
    let s = c.args.self.now in
    let heard = overhears call s in
    let done : Comes t1 t2 c.call.new.self (does call (record s { listening = heard.after })) =
    subst (λ (x : Session). Comes t1 t2 c.call.new.self (does call x)) c.in_ok-listen.ensures.session c.in_ok-call.ensures in
    let told = all_told t1 t2 t3 c.call.new.self c.tell.new.self (does call (record s { listening = heard.after })) done c.in_ok-tell.ensures.text c.in_ok-tell.ensures.session in
    on_this _ _ _ (c.end.ensures t0 (answered call s)) (heard_first t0 t1 t3 c.tell.new.self heard.text _ c.in_ok-listen.ensures.text told)
