-- Items that need no framer, and pieces of a run one after the other.
use Rattle.osdp_tool_show.proofs.Common.{◌≡◌, ℕ, ◌+◌, ◌≤◌, ◌==◌, not, false, List, [], ◌∷◌, ◌++◌, length, take, drop, take-append-drop, Option, Some, None, refl, sym, subst, ap, ◌∙◌, arith, append_assoc, append-nil, length-append, take-add, AreBytes, RunItem, item_size, Held, decided, by_itself, new_run, after_push, after_gap, after_advance, after_first, taken_count, AreBytes-append, AreBytes-drop, AreBytes-nil, AreBytes-take, decided_nothing, item_size-decided, item_size-positive, Report, tally_after, shown_lines, append_known, Tells, Drained, IsSettled, Stands, Took, StopsIn, StopsWithin}
use Rattle.std.proofs.lemmas.List.{drop_all, length-take, nil_from_length, take-take}
use Rattle.osdp_frame.proofs.FirstItems.{decided_by_itself}
use Rattle.osdp_frame.proofs.Receipt.{gap_some}
use Rattle.osdp_tool_show.proofs.Lines.{tally_after_all-nil, tally_after_all-cons}
use Rattle.osdp_tool_show.proofs.Beginnings.{known_appends, stops_by}
use Rattle.osdp_tool_show.proofs.Drains.{draining_start, draining_step, draining_end}
use Rattle.osdp_tool_show.proofs.Standing.{drained_settled, stands_more, stops_longer_run, took_start, took_step}

-- a new run is settled
pub settled_new : IsSettled new_run
settled_new = record {
  bytes = AreBytes-nil;
  goes_on = refl;
  none = decided_nothing false;
}

-- one piece after another
pub took_more : (xs ys : List ℕ) (start held next : Held) (first old new : Report) (a b c : Option (List ℕ))
    → Took xs start held first old a b → Took ys held next old new b c → Took (xs ++ ys) start next first new a c
took_more xs ys start held next first old new a b c s t = record {
  stands = λ detail begin ended open_bytes h.
      subst (λ l. Stands detail begin ended l next new c) (append_assoc open_bytes xs ys) (t.stands detail begin ended (open_bytes ++ xs) (s.stands detail begin ended open_bytes h));
  settled = t.settled;
  counts = omega (arith, s.counts, t.counts, length-append xs ys);
}

pub took_after : (bytes : List ℕ) (at n m : ℕ) (start held next : Held) (first old new : Report) (a b c : Option (List ℕ)) → n ≤ length (take m (drop at bytes))
    → Took (take at bytes) start held first old a b → Took (take n (take m (drop at bytes))) held next old new b c
    → Took (take (at + n) bytes) start next first new a c
took_after bytes at n m start held next first old new a b c there s t =
    subst (λ l. Took l start next first new a c) (sym (take-add at n bytes))
    (took_more (take at bytes) (take n (drop at bytes)) start held next first old new a b c s
    (subst (λ l. Took l held next old new b c) (take-take n m (drop at bytes) (omega (arith, there, length-take m (drop at bytes)))) t))

-- bytes after those held, of which the items that they decide are told
pub took_drained : (given : List ℕ) (held next : Held) (old new : Report) (b c : Option (List ℕ)) → AreBytes given → IsSettled held
    → Drained (record { bytes = held.bytes ++ given; ended = false }) next old new b c → Took given held next old new b c
took_drained given held next old new b c fits settled d =
    let counts = d.counts in
    record {
      stands = λ detail begin ended open_bytes s. stands_more detail begin b c ended open_bytes given held next old new fits s d;
      settled = drained_settled (record { bytes = held.bytes ++ given; ended = false }) next old new b c (AreBytes-append held.bytes given settled.bytes fits) d;
      counts = omega (arith, length-append held.bytes given);
    }

-- bytes that a framer took and that it was drained of
pub took_pushed : (given : List ℕ) (held pushed next : Held) (old new : Report) (b c : Option (List ℕ)) → AreBytes given → IsSettled held
    → pushed ≡ after_push held given → Drained pushed next old new b c → Took (take (taken_count held given) given) held next old new b c
took_pushed given held pushed next old new b c fits settled is d =
    let n = taken_count held given in
    let front : 0 + n ≡ n = omega arith in
    subst (λ k. Took (take k given) held next old new b c) front
    (took_step given 0 held held pushed next old old new b b c fits (omega arith) (took_start held old b settled) is d)

-- an item that its own bytes decide, where nothing is held
one_drained : (given : List ℕ) (part : RunItem) (old new : Report) (b c : Option (List ℕ)) → AreBytes given → length given ≡ item_size part
    → decided false given ≡ Some part → Tells old new b c (part ∷ []) → Drained (record { bytes = given; ended = false }) new_run old new b c
one_drained given part old new b c fits size is tells =
    let whole : Held = record { bytes = given; ended = false } in
    let none : drop (item_size part) given ≡ [] = drop_all (item_size part) given (omega arith) in
    let next : new_run ≡ after_advance whole =
    sym (ap (after_first whole) is ∙ ap (λ (l : List ℕ). record { bytes = l; ended = false }) none) in
    draining_end whole new_run old new b c
    (draining_step whole whole new_run old old new b b c part (draining_start whole old b fits (λ e. absurd cc)) is next tells)
    (decided_nothing false)

pub took_item : (bytes : List ℕ) (at : ℕ) (first old new : Report) (a b c : Option (List ℕ)) (part : RunItem) → AreBytes bytes → at ≤ length bytes
    → Took (take at bytes) new_run new_run first old a b → by_itself (decided false (drop at bytes)) ≡ Some part → Tells old new b c (part ∷ [])
    → Took (take (at + item_size part) bytes) new_run new_run first new a c
took_item bytes at first old new a b c part fits within t is tells =
    let n = item_size part in
    let rest = drop at bytes in
    let given = take n rest in
    let rest_fits = AreBytes-drop at bytes fits in
    let given_fits = AreBytes-take n rest rest_fits in
    let own : decided false given ≡ Some part = decided_by_itself rest part rest_fits is in
    let size : length given ≡ n = omega (arith, item_size-decided false given part given_fits own, length-take n rest) in
    let some = item_size-positive part in
    let step = took_drained given new_run new_run old new b c given_fits settled_new (one_drained given part old new b c given_fits size own tells) in
    subst (λ l. Took l new_run new_run first new a c) (sym (take-add at n bytes))
    (took_more (take at bytes) given new_run new_run new_run first old new a b c t step)

-- it lies within the bytes
pub item_within : (bytes : List ℕ) (at : ℕ) (part : RunItem) → AreBytes bytes → by_itself (decided false (drop at bytes)) ≡ Some part → item_size part ≤ length (drop at bytes)
item_within bytes at part fits is =
    let rest = drop at bytes in
    let rest_fits = AreBytes-drop at bytes fits in
    omega (arith, item_size-decided false (take (item_size part) rest) part (AreBytes-take (item_size part) rest rest_fits) (decided_by_itself rest part rest_fits is), length-take (item_size part) rest)

-- ---- the end of a run of which nothing is held

pub drained_none : (held : Held) (old : Report) (before : Option (List ℕ)) → IsSettled held → length held.bytes ≡ 0
    → Drained (after_gap held) held old old before before
drained_none held old before settled none =
    let start = after_gap held in
    let nothing : decided start.ended start.bytes ≡ None =
    ap (decided start.ended) (nil_from_length held.bytes none) ∙ decided_nothing start.ended in
    let open_still : start.ended ≡ held.ended = ap (λ n. not (n == 0)) none ∙ sym settled.goes_on in
    let same : start ≡ held = λ i. record { bytes = held.bytes; ended = open_still i } in
    subst (λ (h : Held). Drained start h old old before before) same
    (draining_end start start old old before before (draining_start start old before settled.bytes (gap_some held.bytes)) nothing)

-- ---- where a call stopped

-- at an item that its own bytes decide
pub item_stops : (bytes : List ℕ) (at : ℕ) (first old : Report) (a b written : Option (List ℕ)) (part : RunItem) → AreBytes bytes → at ≤ length bytes
    → Took (take at bytes) new_run new_run first old a b → by_itself (decided false (drop at bytes)) ≡ Some part
    → StopsWithin b written (shown_lines old.detail old.tally (part ∷ [])) → StopsIn bytes new_run first a written
item_stops bytes at first old a b written part fits within t is h =
    let text = shown_lines old.detail old.tally (part ∷ []) in
    let whole = append_known b text in
    let told : Report = record { detail = old.detail; tally = tally_after old.tally part; text = old.text } in
    let tells : Tells old told b whole (part ∷ []) = record {
      detail = refl;
      tally = sym (tally_after_all-cons old.tally part [] ∙ tally_after_all-nil (tally_after old.tally part));
      lines = known_appends b text;
    } in
    let n = at + item_size part in
    let next = took_item bytes at first old told a b whole part fits within t is tells in
    subst (λ l. StopsIn l new_run first a written) (take-append-drop n bytes)
    (stops_longer_run (take n bytes) (drop n bytes) new_run first a written (AreBytes-take n bytes fits) (AreBytes-drop n bytes fits)
    (λ detail start ended open_bytes s.
    stops_by start whole written _ _ [] ((next.stands detail start ended open_bytes s).lines) h (sym (append-nil _))))
