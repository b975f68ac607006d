use Rattle.osdp_bus.proofs.Common.{◌≡◌, ◌∙◌, ◌<◌, Some, ap, length, rules, sym, slice_get, slice_get-get_or, is_told_maybe_again, memories_of}
use Rattle.osdp_bus.proofs.Remembering.{judged_there}
use Rattle.osdp_bus.proofs.line.Line.is_maybe_again.Goals as goal

pub returns-then-entry-len : goal.returns-then-entry-len
returns-then-entry-len c =
    let ms = c.args.self.now.memories.items in
    let report = c.in-Some.report in
    let within : c.in-Some.entry < length ms = search rules in
    let there : slice_get ms c.in-Some.entry ≡ Some c.index.result.now =
    slice_get-get_or ms c.in-Some.entry c.index.result.now within ∙ sym (ap Some c.index.ensures) in
    let waits : c.args.self.now.devices.report ≡ Some (c.in-Some.entry, report) = search rules in
    c.may_be_again.ensures ∙ judged_there report ms c.in-Some.entry c.index.result.now there
    ∙ sym (ap (λ o. is_told_maybe_again o (memories_of ms)) waits)
