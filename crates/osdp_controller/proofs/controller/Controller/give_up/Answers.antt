use Rattle.osdp_controller.proofs.Common.{◌∙◌, ℕ, List, ap, subst, sym, Session, IsSession, session_of}
use Rattle.osdp_controller.proofs.OnItsWay.{Follows}
use Rattle.osdp_controller.proofs.Waiting.{after_settling}
use Rattle.osdp_controller.proofs.controller.Controller.give_up.Goals as goal

pub invariant_of-self : goal.invariant_of-self
invariant_of-self c =
    let r = c.self.inside in
    let first = c.with-session.result in
    let start = c.with-session.ensures ∙ ap (λ (bytes : List ℕ). session_of r.kept bytes) c.first_of.ensures.first in
    let was = subst IsSession (sym start) c.self.invariant.machine.session in
    let follows = subst (λ (s : Session). Follows first.state s.state) (sym c.give_up.ensures.session) tt in
    let session = subst IsSession (sym c.give_up.ensures.session) (record { config = was.config; state = tt; opening = tt }) in
    after_settling r.kept c.keep-self-inside.result first c.give_up.new.self r.queue c.pop_if.new.queue c.asks_command-asked.result c.has_settled-settled.result start
    c.asks_command-asked.ensures c.has_settled-settled.ensures c.pop_if.ensures follows c.keep-self-inside.ensures r.room session c.self.invariant
