use Rattle.std.proofs.Common.{◌≡◌, ◌++◌, OnOk, refl, string_bytes, subst, sym, true}
use Rattle.osdp_frame.specs.Held.{decided}
use Rattle.osdp_line_calls.proofs.Common.{items, IsAllRead, Listening, passed_item, passed_items}
use Rattle.osdp_line_calls.proofs.Listening.{end_after, end_text}
use Rattle.osdp_line_calls.proofs.listener.Listener.hear_end.Goals as goal

pub invariant_of-self : goal.invariant_of-self
unfolding decided
invariant_of-self c = subst IsAllRead (sym c.clear.ensures) (record { goes_on = refl; undecided = refl })

pub returns-else-is_err-clause-text : goal.returns-else-is_err-clause-text
returns-else-is_err-clause-text c =
    let entries = c.args.bus.now.devices.entries in
    let told = string_bytes c.read_items-told.new.text in
    subst (λ (l : Listening). OnOk c.read_items-told.result (told ≡ string_bytes c.args.text.now ++ passed_items entries l.opened (items true l.held))) c.self.view_is
    (end_text (passed_item entries c.self.inside.opened) c.read_items-told.result (string_bytes c.args.text.now) told c.self.inside.receiver c.end_run.new.self c.end_run.ensures
    c.read_items-told.ensures.text)

pub returns-else-is_err-clause-after : goal.returns-else-is_err-clause-after
returns-else-is_err-clause-after c =
    end_after c.read_items-told.result c.self.inside.receiver c.end_run.new.self c.read_items-told.new.receiver c.self.inside.opened c.args.self.now c.end_run.ensures
    c.read_items-told.ensures.line c.self.view_is c.read_items-told.ensures.left
