use Rattle.osdp_controller.proofs.Common.{◌≡◌, ◌+◌, ◌∙◌, ℕ, ap, rules, AreSettings, empty_ring}
use Rattle.osdp_controller.proofs.Waiting.{new_is}
use Rattle.osdp_controller.proofs.controller.Controller.new.Goals as goal

pub invariant_of-result : goal.invariant_of-result
invariant_of-result c =
    let settings : AreSettings c.args.config c.args.room.messages c.args.room.bytes = search rules in
    let same : c.in-Ok.queue ≡ empty_ring (c.args.room.messages + 1) c.bytes_for.result = search rules in
    new_is c.new-in-Ok.result c.args.config c.in-Ok.queue c.args.room c.new-in-Ok.ensures settings (same ∙ ap (λ (n : ℕ). empty_ring (c.args.room.messages + 1) n) c.bytes_for.ensures)
