use Rattle.osdp_tool_objects.proofs.Common.{◌≡◌, ◌++◌, ◌∙◌, false, Option, None, Some, length, refl, sym, subst, arith, is_some, Appends, take_all, has_failed, inner_of, lines_taken, output_of, start_of, is_written, noted, taken_so}
use Rattle.osdp_tool_objects.proofs.Outputs.{took_all, took_part}
use Rattle.osdp_tool_objects.proofs.stream.ObjectsWrite.write.Goals as goal

is_none : {T : Type 0} (x : Option T) → is_some x ≡ false → x ≡ None
is_none None e = refl
is_none (Some y) e = absurd cc

pub returns-in-Ok-clause-bytes : goal.returns-in-Ok-clause-bytes
returns-in-Ok-clause-bytes g c =
    let contents = g.W.Write.contents in
    let old = c.args.self.now in
    let start = start_of contents old in
    let was = contents (inner_of (output_of old)) in
    let output = c.write_objects.new.output in
    let held = c.write_objects.new.held.items in
    let taken = noted c.note.new.notes.items in
    let lost = noted old.lost.items in
    let bytes = c.args.buf.now in
    let none = is_none old.fault (sym c.is_some.ensures ∙ c.if-is_some.false) in
    subst (λ l. Appends (lines_taken contents old) (taken_so (is_written old.fault (has_failed output) start (contents (inner_of output)) held taken lost) start (taken ++ lost)) l)
    (sym (take_all (length bytes) bytes (omega arith)))
    (subst (λ f. Appends (taken_so (is_written f (has_failed (output_of old)) start was old.held.items (noted old.taken.items) lost) start (noted old.taken.items ++ lost))
    (taken_so (is_written f (has_failed output) start (contents (inner_of output)) held taken lost) start (taken ++ lost)) bytes) (sym none)
    (took_all (has_failed (output_of old)) (has_failed output) start was (contents (inner_of output)) old.held.items held (noted old.taken.items) lost bytes taken
    c.in-Ok.ensures.written c.in-Ok.ensures.held c.in-Ok.ensures.well c.note.ensures))

pub returns-in-Err-clause-bytes : goal.returns-in-Err-clause-bytes
returns-in-Err-clause-bytes g c =
    let contents = g.W.Write.contents in
    let old = c.args.self.now in
    let start = start_of contents old in
    let was = contents (inner_of (output_of old)) in
    let output = c.write_objects.new.output in
    let held = c.write_objects.new.held.items in
    let taken = noted old.taken.items in
    let lost = noted c.note-in-Err.new.notes.items in
    let bytes = c.args.buf.now in
    let none = is_none old.fault (sym c.is_some.ensures ∙ c.if-is_some.false) in
    let new = taken_so (is_written (Some c.in-Err.fault) (has_failed output) start (contents (inner_of output)) held taken lost) start (taken ++ lost) in
    subst (λ l. Appends (lines_taken contents old) new l) (sym (take_all (length bytes) bytes (omega arith)))
    (subst (λ f. Appends (taken_so (is_written f (has_failed (output_of old)) start was old.held.items taken (noted old.lost.items)) start (taken ++ noted old.lost.items)) new bytes) (sym none)
    (took_part (has_failed (output_of old)) (has_failed output) start was (contents (inner_of output)) old.held.items held taken (noted old.lost.items) bytes lost c.in-Err.fault
    c.in-Err.ensures.stops c.note-in-Err.ensures))
