-- Lines that are told to an output of objects.
use Rattle.osdp_tool_inputs.proofs.Common.{◌≡◌, ◌&&◌, inl, inr, ℕ, Bool, true, false, not, List, [], ◌++◌, Option, None, Some, Result, Ok, Err, take, refl, sym, subst, ap, ◌∙◌, append-nil, Format, input_report, Broken, End, MonitorMode, IsNew, fault_of, lines_taken, output_of, Stream, streamed, watched, inner_of, ToolFault, NoMemory, NotHex, ReadFailed, TooLong, WriteFailed, has_lines, Does, DoesInput, DoesObjects, EndsHeard, Listens, Read, Unread, has_objects, is_whole, text_of, unless_failed, Task, Listen, Print, Time}
use Rattle.std.specs.Io.KnownBytes.{Appends, Keeps}
use Rattle.osdp_tool_objects.specs.Streams.{marked}
use Rattle.osdp_tool_objects.specs.declared.stream.Objects.{Objects}
use Rattle.osdp_tool_objects.proofs.Outputs.{new_front, objects_written}
use Rattle.osdp_tool_inputs.specs.declared.asked.Asked.{Asked}
use Rattle.osdp_tool_inputs.specs.declared.tasks.TheConstants.{LONGEST}
use Rattle.osdp_tool_inputs.specs.declared.told.Told.{Told}

-- whatever comes of it, lines are told
abbrev Lines : Stream → Type 0
Lines output = (lines : List ℕ) × Appends output.before output.after lines

heard_lines : (mode : MonitorMode) (result : Result Bool ToolFault) (input output : Stream) → EndsHeard mode result input output → Lines output
heard_lines mode (Ok wrong) input output heard = let all = heard.ends.0 in (input_report End mode all.pieces, all.written)
heard_lines mode (Err (NotHex number)) input output heard =
    elim heard.ends.0 [
      | inl at_end ↦ (input_report End mode at_end.0.pieces, at_end.0.written)
      | inr broken ↦ (input_report Broken mode broken.0.pieces, broken.0.written)
    ]
heard_lines mode (Err ReadFailed) input output heard =
    elim heard.ends.0 [
      | inl told ↦ (input_report Broken mode told.0.pieces, told.0.written)
      | inr part ↦ (take part.0.count (input_report part.0.following mode (part.0.earlier ++ part.0.later)), part.0.written)
    ]
heard_lines mode (Err TooLong) input output heard =
    let part = heard.ends.0.part in
    (take part.count (input_report part.following mode (part.earlier ++ part.later)), part.written)
heard_lines mode (Err NoMemory) input output heard =
    let part = heard.ends.0 in
    (take part.count (input_report part.following mode (part.earlier ++ part.later)), part.written)
heard_lines mode (Err WriteFailed) input output heard =
    let part = heard.ends.0 in
    (take part.count (input_report part.following mode (part.earlier ++ part.later)), part.written)
heard_lines mode (Err fault) input output heard = absurd heard.ends

untimed : (json timed : Bool) → (json && not timed) ≡ true → timed ≡ false
untimed true true e = absurd cc
untimed true false e = refl
untimed false timed e = absurd cc

done_lines : (task : Task) (format : Format) (limit : ℕ) (bytes : List ℕ) (input output : Stream) (result : Result Bool ToolFault) → has_objects task format ≡ true
    → Does task format limit bytes input output result → Lines output
done_lines (Print detail join) format limit bytes input output result e done = absurd cc
done_lines (Time detail join) format limit bytes input output result e done = absurd cc
done_lines (Listen mode) format limit bytes input output result e done =
    heard_lines mode result input output
    (subst (λ timed. Listens timed mode bytes result input output) (untimed mode.json (mode.times && has_lines format) e) done)

kept_lines : (a b : Option (List ℕ)) → Keeps a b → Appends a b []
kept_lines None b kept = tt
kept_lines (Some x) None kept = absurd kept
kept_lines (Some x) (Some y) kept = kept ∙ sym (append-nil x)

input_lines : (whole : Bool) (asked : Asked) (limit : ℕ) (input output : Stream) (result : Result Told ToolFault) → has_objects asked.task asked.format ≡ true
    → DoesInput whole asked limit input output result → Lines output
input_lines true asked limit input output result e (Read done) = done_lines asked.task asked.format LONGEST (text_of asked.format done.bytes) done.text output done.answer e done.done
input_lines true asked limit input output result e (Unread none kept) = ([], kept_lines output.before output.after kept)
input_lines false asked limit input output result e done = done_lines asked.task asked.format limit [] input output done.answer e done.done

after_front : (front lines : List ℕ) (after : Option (List ℕ)) → Appends (Some front) after lines → after ≡ Some (front ++ lines)
after_front front lines None appends = absurd appends
after_front front lines (Some x) appends = ap Some appends

module _ (asked : Asked) (limit : ℕ) (input : Stream) {W : Type 0} (contents : W → Option (List ℕ)) (old new : Objects W) (failed : Bool) where
  pub does_objects : (answer result : Result Told ToolFault) → has_objects asked.task asked.format ≡ true → IsNew contents old
      → DoesInput (is_whole asked.format asked.task) asked limit input (streamed (lines_taken contents old) (lines_taken contents new) failed) answer
      → result ≡ unless_failed (fault_of new) answer
      → DoesObjects asked limit input (watched contents (output_of old) (output_of new)) result
  does_objects answer result e is done told =
      let between = streamed (lines_taken contents old) (lines_taken contents new) failed in
      let told_lines = input_lines (is_whole asked.format asked.task) asked limit input between answer e done in
      let front = new_front contents old new is in
      record {
        between = between;
        front = marked (contents (inner_of (output_of old)));
        lines = told_lines.0;
        before = front;
        after =
            after_front (marked (contents (inner_of (output_of old)))) told_lines.0 (lines_taken contents new)
            (subst (λ f. Appends f (lines_taken contents new) told_lines.0) front told_lines.1);
        answer = answer;
        done = done;
        fault = fault_of new;
        written = objects_written contents old new told_lines.0 is told_lines.1;
        told = told;
      }
