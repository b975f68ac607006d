use Rattle.osdp_controller.proofs.Common.{◌≡◌, ◌∙◌, ℕ, List, [], Some, None, false, ap, refl, sym, option_copied, Session, on_its_way, is_outstanding, frame_if, is_over, next_in, is_poll_next, Ticked, ticks_in, first_of, session_of}
use Rattle.osdp_controller.proofs.OnItsWay.{ticks_ask}
use Rattle.osdp_controller.proofs.Waiting.{keeps_beginning, keeps_ticking, machine_ticked, session_ticked, ticks_leave}
use Rattle.osdp_controller.proofs.controller.Controller.begin_or_repeat.Goals as goal

pub invariant_of-self : goal.invariant_of-self
invariant_of-self c =
    let r = c.self.inside in
    let bytes = c.in-Some.command.now in
    let start = c.with-session.ensures ∙ ap (λ (b : List ℕ). session_of r.kept b) c.first_of.ensures.first in
    let next : next_in c.with-session.result.state (is_poll_next c.with-session.result) r.queue.items ≡ Some bytes = sym c.next_command.ensures ∙ ap option_copied c.in-Some.is in
    keeps_beginning r.kept c.keep-self-inside.result c.begin_command.new.self r.queue r.room bytes (is_poll_next (session_of r.kept (first_of r.queue.items)))
    (sym (ap (λ (s : Session). next_in s.state (is_poll_next s) r.queue.items) start) ∙ next) (ap (λ (s : Session). on_its_way s.state) c.begin_command.ensures.session)
    c.keep-self-inside.ensures c.begin_command.ensures.kept c.self.invariant

pub invariant_of-self-in-None : goal.invariant_of-self-in-None
invariant_of-self-in-None c =
    let r = c.self.inside in
    let s = c.with-session.result in
    let start = c.with-session.ensures ∙ ap (λ (b : List ℕ). session_of r.kept b) c.first_of.ensures.first in
    let before = rw (← c.self.view_is) at c.requires in
    let going : is_over s.state s ≡ false = ap (λ (x : Session). is_over x.state x) start ∙ before in
    let asks = ap (λ (x : Session). on_its_way x.state) c.tick-sends.ensures.session ∙ ticks_ask s.state s going refl ∙ ap (λ (x : Session). on_its_way x.state) start in
    keeps_ticking r.kept c.keep-self-inside-in-None.result c.tick-sends.new.self r.queue asks c.keep-self-inside-in-None.ensures r.room c.tick-sends.ensures.kept c.self.invariant

pub returns-in-None-clause-frame : goal.returns-in-None-clause-frame
returns-in-None-clause-frame c =
    let r = c.self.inside in
    let s = c.with-session.result in
    let first = session_of r.kept (first_of r.queue.items) in
    let start = c.with-session.ensures ∙ ap (λ (b : List ℕ). session_of r.kept b) c.first_of.ensures.first in
    let before = rw (← c.self.view_is) at c.requires in
    let going : is_over s.state s ≡ false = ap (λ (x : Session). is_over x.state x) start ∙ before in
    let asks = ap (λ (x : Session). on_its_way x.state) c.tick-sends.ensures.session ∙ ticks_ask s.state s going refl ∙ ap (λ (x : Session). on_its_way x.state) start in
    let none : next_in first.state (is_poll_next first) r.queue.items ≡ None = sym (ap (λ (x : Session). next_in x.state (is_poll_next x) r.queue.items) start) ∙ sym c.next_command.ensures ∙ ap option_copied c.in-None.is in
    let same = session_ticked r.kept c.keep-self-inside-in-None.result c.tick-sends.new.self r.queue asks c.keep-self-inside-in-None.ensures in
    rw (← c.self.view_is) (ap (λ (t : Ticked). t.step.frame) (ticks_leave first.state first r.queue.items none)
    ∙ ap (λ (x : Session). (ticks_in x.state x []).step.frame) (sym start) ∙ c.tick-sends.ensures.frame ∙ ap (λ (x : Session). frame_if c.tick-sends.result x) (sym same))

pub returns-in-None-clause-machine : goal.returns-in-None-clause-machine
returns-in-None-clause-machine c =
    let r = c.self.inside in
    let s = c.with-session.result in
    let first = session_of r.kept (first_of r.queue.items) in
    let start = c.with-session.ensures ∙ ap (λ (b : List ℕ). session_of r.kept b) c.first_of.ensures.first in
    let before = rw (← c.self.view_is) at c.requires in
    let going : is_over s.state s ≡ false = ap (λ (x : Session). is_over x.state x) start ∙ before in
    let asks = ap (λ (x : Session). on_its_way x.state) c.tick-sends.ensures.session ∙ ticks_ask s.state s going refl ∙ ap (λ (x : Session). on_its_way x.state) start in
    let none : next_in first.state (is_poll_next first) r.queue.items ≡ None = sym (ap (λ (x : Session). next_in x.state (is_poll_next x) r.queue.items) start) ∙ sym c.next_command.ensures ∙ ap option_copied c.in-None.is in
    rw (← c.self.view_is) (machine_ticked r.kept c.keep-self-inside-in-None.result c.tick-sends.new.self r.queue asks c.keep-self-inside-in-None.ensures r.room none
    (c.tick-sends.ensures.session ∙ ap (λ (x : Session). (ticks_in x.state x []).session) start))

pub returns-in-None-clause-held : goal.returns-in-None-clause-held
returns-in-None-clause-held c =
    let r = c.self.inside in
    let s = c.with-session.result in
    let start = c.with-session.ensures ∙ ap (λ (b : List ℕ). session_of r.kept b) c.first_of.ensures.first in
    let before = rw (← c.self.view_is) at c.requires in
    let going : is_over s.state s ≡ false = ap (λ (x : Session). is_over x.state x) start ∙ before in
    let asks = ap (λ (x : Session). on_its_way x.state) c.tick-sends.ensures.session ∙ ticks_ask s.state s going refl ∙ ap (λ (x : Session). on_its_way x.state) start in
    let same = session_ticked r.kept c.keep-self-inside-in-None.result c.tick-sends.new.self r.queue asks c.keep-self-inside-in-None.ensures in
    λ sends. ap (λ (x : Session). is_outstanding x.state) same ∙ c.tick-sends.ensures.held sends
