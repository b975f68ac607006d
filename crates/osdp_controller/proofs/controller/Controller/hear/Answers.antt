use Rattle.osdp_controller.proofs.Common.{◌∙◌, ℕ, List, ap, subst, sym, Session, hears, first_of, machine_of, session_of}
use Rattle.osdp_controller.proofs.OnItsWay.{Follows, hears_follows}
use Rattle.osdp_controller.proofs.Waiting.{after_settling, machine_settled}
use Rattle.osdp_controller.proofs.controller.Controller.hear.Goals as goal

pub invariant_of-self : goal.invariant_of-self
invariant_of-self c =
    let r = c.self.inside in
    let first = c.with-session.result in
    let start = c.with-session.ensures ∙ ap (λ (bytes : List ℕ). session_of r.kept bytes) c.first_of.ensures.first in
    let follows = subst (λ (s : Session). Follows first.state s.state) (sym c.hear.ensures.session) (hears_follows c.args.frame.now c.args.now first) in
    after_settling r.kept c.keep-self-inside.result first c.hear.new.self r.queue c.pop_if.new.queue c.asks_command-asked.result c.has_settled-settled.result start
    c.asks_command-asked.ensures c.has_settled-settled.ensures c.pop_if.ensures follows c.keep-self-inside.ensures r.room c.hear.ensures.kept c.self.invariant

pub returns-clause-machine : goal.returns-clause-machine
returns-clause-machine c =
    let r = c.self.inside in
    let first = c.with-session.result in
    let start = c.with-session.ensures ∙ ap (λ (bytes : List ℕ). session_of r.kept bytes) c.first_of.ensures.first in
    let follows = subst (λ (s : Session). Follows first.state s.state) (sym c.hear.ensures.session) (hears_follows c.args.frame.now c.args.now first) in
    let settled = machine_settled r.kept c.keep-self-inside.result first c.hear.new.self r.queue c.pop_if.new.queue c.asks_command-asked.result c.has_settled-settled.result start
    c.asks_command-asked.ensures c.has_settled-settled.ensures c.pop_if.ensures follows c.keep-self-inside.ensures r.room in
    rw (← c.self.view_is) (settled ∙ ap (λ (s : Session). record (machine_of (session_of r.kept (first_of r.queue.items)) r.queue r.room) { session = s })
    (c.hear.ensures.session ∙ ap (λ (s : Session). (hears c.args.frame.now c.args.now s).session) start))
