use Rattle.osdp_controller.proofs.Common.{◌≡◌, ◌∙◌, false, sym, is_some, on_its_way, state_in, first_of}
use Rattle.osdp_controller.proofs.Waiting.{keeps_withdrawn, withdrawn_machine}
use Rattle.osdp_controller.proofs.controller.Controller.withdraw.Goals as goal

pub invariant_of-self : goal.invariant_of-self
invariant_of-self c =
    let r = c.self.inside in
    let asked = rw (c.session.ensures, ← c.self.view_is) at c.asks_command.ensures in
    let none : is_some (on_its_way (state_in r.kept.at (first_of r.queue.items))) ≡ false = sym asked ∙ c.if-asks_command.false in
    rw c.pop.ensures (keeps_withdrawn r.kept r.queue r.room none c.self.invariant)
