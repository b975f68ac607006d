use Rattle.osdp_controller.proofs.Common.{◌≡◌, ◌∙◌, true, false, sym, is_some, on_its_way, state_in, first_of}
use Rattle.osdp_controller.proofs.Waiting.{comsets_after, comsets_of_all}
use Rattle.osdp_controller.proofs.controller.Controller.has_waiting_comset.Goals as goal

pub returns-then-asks_command : goal.returns-then-asks_command
returns-then-asks_command c =
    let r = c.self.inside in
    let state = state_in r.kept.at (first_of r.queue.items) in
    let asked = rw (c.session.ensures, ← c.self.view_is) at c.asks_command.ensures in
    let asks : is_some (on_its_way state) ≡ true = sym asked ∙ c.if-asks_command.true in
    rw (← c.self.view_is) (c.has_first_after_front.ensures ∙ comsets_after state r.queue.items asks c.self.invariant.commands)

pub returns-else-asks_command : goal.returns-else-asks_command
returns-else-asks_command c =
    let r = c.self.inside in
    let state = state_in r.kept.at (first_of r.queue.items) in
    let asked = rw (c.session.ensures, ← c.self.view_is) at c.asks_command.ensures in
    let asks : is_some (on_its_way state) ≡ false = sym asked ∙ c.if-asks_command.false in
    rw (← c.self.view_is) (c.has_first.ensures ∙ comsets_of_all state r.queue.items asks c.self.invariant.commands)
