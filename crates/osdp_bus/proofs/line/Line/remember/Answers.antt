use Rattle.std.proofs.Common.{◌≡◌, ◌∙◌, ◌<◌, ◌≤◌, Some, ap, arith, length, rules, slice_set, sym}
use Rattle.osdp_bus.proofs.Common.{slice_get, slice_get-get_or, memories_of, state_of}
use Rattle.osdp_bus.specs.Machine.{remembered_after}
use Rattle.osdp_bus.proofs.Remembering.{nowhere_remembered, remembered_there}
use Rattle.osdp_bus.proofs.line.Line.remember.Goals as goal

pub returns-then-entry-len-clause-line : goal.returns-then-entry-len-clause-line
returns-then-entry-len-clause-line c =
    let line = c.args.self.now in
    let ms = line.memories.items in
    let entry = c.in-Some.entry in
    let report = c.in-Some.report in
    let within : entry < length ms = search rules in
    let inside : entry < length line.devices.entries.items = omega (arith, within, c.requires.memories) in
    let there : slice_get ms entry ≡ Some c.index_mut.result.now =
    slice_get-get_or ms entry c.index_mut.result.now within ∙ sym (ap Some c.index_mut.ensures.value) in
    let waits : line.devices.report ≡ Some (entry, report) = search rules in
    let same : memories_of (slice_set ms entry c.remember.new.self) ≡ remembered_after line.devices.report (state_of line) =
    ap (λ m. memories_of (slice_set ms entry m)) c.remember.ensures
    ∙ remembered_there ms line.devices.entries.items entry c.index_mut.result.now report there inside
    ∙ sym (ap (λ o. remembered_after o (state_of line)) waits) in
    (λ i. record (state_of line) { remembered = same i })

pub returns-else-entry-len-clause-line : goal.returns-else-entry-len-clause-line
returns-else-entry-len-clause-line c =
    let line = c.args.self.now in
    let ms = line.memories.items in
    let entry = c.in-Some.entry in
    let report = c.in-Some.report in
    let beyond : length line.devices.entries.items ≤ entry = omega (arith, c.if-entry-len.false, c.requires.memories, c.len.ensures) in
    let waits : line.devices.report ≡ Some (entry, report) = search rules in
    let same : memories_of ms ≡ remembered_after line.devices.report (state_of line) =
    nowhere_remembered ms line.devices.entries.items entry report beyond
    ∙ sym (ap (λ o. remembered_after o (state_of line)) waits) in
    (λ i. record (state_of line) { remembered = same i })
