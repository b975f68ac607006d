-- Runs that go on and end, and what has been told of them.
use Rattle.osdp_tool_show.proofs.Common.{◌≡◌, ℕ, ◌+◌, ◌≤◌, ◌==◌, not, Bool, true, false, cond, List, [], ◌∷◌, ◌++◌, length, take, drop, Option, None, refl, sym, subst, ap, ◌∙◌, arith, append_assoc, append-nil, length-append, take-append-drop, take-add, drop_all, ne_eqb, Appends, Appends-trans, AreBytes, total_size, Held, decided, after_gap, after_push, taken_count, items, left_over, AreBytes-front, AreBytes-append, AreBytes-drop, AreBytes-nil, AreBytes-take, gap_items, items_nothing, left_bytes, left_is, left_nothing, left_over-append, reading_split, items-append, left_undecided, sizes_reading, is_reading, closed_runs, with_bytes, Detail, no_tally, tally_after_all, after_run, counted, shown_lines, after_runs, runs_lines, tally_so_far, lines_so_far, Report, Drained, IsSettled, Stands, Took, EndedRun, StopsIn, StopsAtRunEnd, StopsWithin}
use Rattle.osdp_tool_show.proofs.Lines.{tally_after_all-nil, tally_after_all-append, shown_lines-nil, shown_lines-append, after_runs-append, after_runs-one, runs_lines-append, runs_lines-one, after_run-none, after_runs-place, counted-after_run}
use Rattle.osdp_tool_show.proofs.Beginnings.{stops_after, stops_longer}

-- ---- a run that goes on

-- nothing that it holds is decided
pub stands_settled : (detail : Detail) (start now : Option (List ℕ)) (ended : List (List ℕ)) (bytes : List ℕ) (held : Held) (report : Report)
    → Stands detail start ended bytes held report now → IsSettled held
stands_settled detail start now ended bytes held report s = record {
  bytes = subst (λ (h : Held). AreBytes h.bytes) (sym s.held_is) (left_bytes bytes s.bytes);
  goes_on = ap (λ (h : Held). h.ended) s.held_is;
  none = subst (λ (h : Held). decided false h.bytes ≡ None) (sym s.held_is) (left_undecided bytes s.bytes);
}

-- the lines of a run that goes on by more bytes
pub lines_more : (detail : Detail) (ended : List (List ℕ)) (bytes xs : List ℕ) → AreBytes (bytes ++ xs)
    → lines_so_far detail ended (bytes ++ xs) ≡ lines_so_far detail ended bytes ++ shown_lines detail (tally_so_far ended bytes) (items false (left_over bytes ++ xs))
lines_more detail ended bytes xs all =
    let whole = items-append false bytes xs all in
    ap (λ l. runs_lines detail no_tally ended ++ shown_lines detail (after_runs no_tally ended) l) whole
    ∙ ap (λ l. runs_lines detail no_tally ended ++ l) (shown_lines-append detail (after_runs no_tally ended) (items false bytes) (items false (left_over bytes ++ xs)))
    ∙ sym (append_assoc (runs_lines detail no_tally ended) (shown_lines detail (after_runs no_tally ended) (items false bytes)) (shown_lines detail (tally_so_far ended bytes) (items false (left_over bytes ++ xs))))

pub stands_more : (detail : Detail) (start before after : Option (List ℕ)) (ended : List (List ℕ)) (bytes xs : List ℕ) (held next : Held) (old new : Report)
    → AreBytes xs → Stands detail start ended bytes held old before
    → Drained (record { bytes = held.bytes ++ xs; ended = false }) next old new before after
    → Stands detail start ended (bytes ++ xs) next new after
stands_more detail start before after ended bytes xs held next old new fits s d =
    let all = AreBytes-append bytes xs s.bytes fits in
    let held_bytes : held.bytes ≡ left_over bytes = ap (λ (h : Held). h.bytes) s.held_is in
    let parts : items false (held.bytes ++ xs) ≡ items false (left_over bytes ++ xs) = ap (λ l. items false (l ++ xs)) held_bytes in
    let whole = items-append false bytes xs all in
    let tally_is : new.tally ≡ tally_after_all (tally_so_far ended bytes) (items false (left_over bytes ++ xs)) =
    d.tells.tally ∙ ap (λ t. tally_after_all t (items false (held.bytes ++ xs))) s.tally ∙ ap (tally_after_all (tally_so_far ended bytes)) parts in
    let lines_are : shown_lines old.detail old.tally (items false (held.bytes ++ xs)) ≡ shown_lines detail (tally_so_far ended bytes) (items false (left_over bytes ++ xs)) =
    ap (λ f. shown_lines f old.tally (items false (held.bytes ++ xs))) s.detail_is
    ∙ ap (λ t. shown_lines detail t (items false (held.bytes ++ xs))) s.tally
    ∙ ap (shown_lines detail (tally_so_far ended bytes)) parts in
    let grown = lines_more detail ended bytes xs all in
    record {
      detail_is = d.tells.detail ∙ s.detail_is;
      tally = tally_is ∙ sym (ap (tally_after_all (after_runs no_tally ended)) whole ∙ tally_after_all-append (after_runs no_tally ended) (items false bytes) (items false (left_over bytes ++ xs)));
      held_is = d.held ∙ ap (λ (l : List ℕ). record { bytes = l; ended = false })
          (left_is (held.bytes ++ xs) ∙ ap (λ l. left_over (l ++ xs)) held_bytes ∙ sym (left_over-append bytes xs all));
      bytes = all;
      lines = subst (Appends start after) (sym grown)
          (Appends-trans start before after (lines_so_far detail ended bytes) _ s.lines (subst (Appends before after) lines_are d.tells.lines));
    }

-- ---- a run that ends

with_bytes-some : (b : ℕ) (bytes : List ℕ) → with_bytes ((b ∷ bytes) ∷ []) ≡ (b ∷ bytes) ∷ []
with_bytes-some b bytes = ap (λ t. cond (not t) ((b ∷ bytes) ∷ []) []) (ne_eqb (length (b ∷ bytes)) 0 (λ h. omega arith))

closed_tally : (ended : List (List ℕ)) (bytes : List ℕ) → AreBytes bytes
    → tally_so_far (closed_runs ended bytes) [] ≡ after_run (tally_after_all (tally_so_far ended bytes) (items true (left_over bytes)))
closed_tally ended [] fits =
    let none = items_nothing false in
    let t = after_runs no_tally ended in
    let same : tally_so_far ended [] ≡ t = ap (tally_after_all t) none ∙ tally_after_all-nil t in
    let left : items true (left_over []) ≡ [] = ap (items true) left_nothing ∙ items_nothing true in
    ap (λ r. tally_so_far r []) (append-nil ended) ∙ same
    ∙ sym (ap (λ l. after_run (tally_after_all (tally_so_far ended []) l)) left ∙ ap after_run (tally_after_all-nil (tally_so_far ended []) ∙ same)
    ∙ after_run-none t (after_runs-place no_tally ended refl))
closed_tally ended (b ∷ bytes) fits =
    let t = after_runs no_tally ended in
    let run = b ∷ bytes in
    ap (tally_after_all (after_runs no_tally (closed_runs ended run))) (items_nothing false) ∙ tally_after_all-nil (after_runs no_tally (closed_runs ended run))
    ∙ ap (λ l. after_runs no_tally (ended ++ l)) (with_bytes-some b bytes)
    ∙ after_runs-append no_tally ended (run ∷ []) ∙ after_runs-one t run ∙ ap (λ l. after_run (tally_after_all t l)) (reading_split run fits)
    ∙ ap after_run (tally_after_all-append t (items false run) (items true (left_over run)))

pub closed_lines : (detail : Detail) (ended : List (List ℕ)) (bytes : List ℕ) → AreBytes bytes
    → lines_so_far detail (closed_runs ended bytes) [] ≡ lines_so_far detail ended bytes ++ shown_lines detail (tally_so_far ended bytes) (items true (left_over bytes))
closed_lines detail ended [] fits =
    let left : items true (left_over []) ≡ [] = ap (items true) left_nothing ∙ items_nothing true in
    ap (λ r. lines_so_far detail r []) (append-nil ended) ∙ sym (append-nil (lines_so_far detail ended []))
    ∙ ap (λ l. lines_so_far detail ended [] ++ l) (sym (ap (shown_lines detail (tally_so_far ended [])) left ∙ shown_lines-nil detail (tally_so_far ended [])))
closed_lines detail ended (b ∷ bytes) fits =
    let t = after_runs no_tally ended in
    let run = b ∷ bytes in
    let closed = closed_runs ended run in
    ap (λ l. runs_lines detail no_tally closed ++ l) (ap (shown_lines detail (after_runs no_tally closed)) (items_nothing false) ∙ shown_lines-nil detail (after_runs no_tally closed))
    ∙ append-nil (runs_lines detail no_tally closed)
    ∙ ap (λ l. runs_lines detail no_tally (ended ++ l)) (with_bytes-some b bytes)
    ∙ runs_lines-append detail no_tally ended (run ∷ [])
    ∙ ap (λ l. runs_lines detail no_tally ended ++ l)
    (runs_lines-one detail t run ∙ ap (shown_lines detail t) (reading_split run fits) ∙ shown_lines-append detail t (items false run) (items true (left_over run)))
    ∙ sym (append_assoc (runs_lines detail no_tally ended) (shown_lines detail t (items false run)) (shown_lines detail (tally_so_far ended run) (items true (left_over run))))

nothing_left : (bytes : List ℕ) → AreBytes bytes → drop (total_size (items (not (length bytes == 0)) bytes)) bytes ≡ []
nothing_left bytes fits =
    let sizes = sizes_reading bytes (items true bytes) (is_reading bytes fits) in
    ap (λ l. drop (total_size l) bytes) (gap_items bytes) ∙ drop_all (total_size (items true bytes)) bytes (omega arith)

pub stands_end : (detail : Detail) (start before after : Option (List ℕ)) (ended : List (List ℕ)) (bytes : List ℕ) (held next : Held) (old mid new : Report)
    → Stands detail start ended bytes held old before
    → Drained (after_gap held) next old mid before after
    → new.detail ≡ mid.detail → new.tally ≡ after_run mid.tally
    → Stands detail start (closed_runs ended bytes) [] next new after
stands_end detail start before after ended bytes held next old mid new s d same tally =
    let settled = stands_settled detail start before ended bytes held old s in
    let held_bytes : held.bytes ≡ left_over bytes = ap (λ (h : Held). h.bytes) s.held_is in
    let parts : items (not (length held.bytes == 0)) held.bytes ≡ items true (left_over bytes) = gap_items held.bytes ∙ ap (items true) held_bytes in
    let so_far = tally_so_far ended bytes in
    let mid_is : mid.tally ≡ tally_after_all so_far (items true (left_over bytes)) =
    d.tells.tally ∙ ap (λ t. tally_after_all t (items (not (length held.bytes == 0)) held.bytes)) s.tally ∙ ap (tally_after_all so_far) parts in
    let lines_are : shown_lines old.detail old.tally (items (not (length held.bytes == 0)) held.bytes) ≡ shown_lines detail so_far (items true (left_over bytes)) =
    ap (λ f. shown_lines f old.tally (items (not (length held.bytes == 0)) held.bytes)) s.detail_is
    ∙ ap (λ t. shown_lines detail t (items (not (length held.bytes == 0)) held.bytes)) s.tally
    ∙ ap (shown_lines detail so_far) parts in
    record {
      detail_is = same ∙ d.tells.detail ∙ s.detail_is;
      tally = tally ∙ ap after_run mid_is ∙ sym (closed_tally ended bytes s.bytes);
      held_is = d.held ∙ ap (λ (l : List ℕ). record { bytes = l; ended = false }) (nothing_left held.bytes settled.bytes ∙ sym left_nothing);
      bytes = AreBytes-nil;
      lines = subst (Appends start after) (sym (closed_lines detail ended bytes s.bytes))
          (Appends-trans start before after (lines_so_far detail ended bytes) _ s.lines (subst (Appends before after) lines_are d.tells.lines));
    }

-- ---- piece by piece

pub took_start : (held : Held) (old : Report) (before : Option (List ℕ)) → IsSettled held → Took [] held held old old before before
took_start held old before settled = record {
  stands = λ detail start ended bytes s. subst (λ l. Stands detail start ended l held old before) (sym (append-nil bytes)) s;
  settled = settled;
  counts = omega arith;
}

pub drained_settled : (given next : Held) (old new : Report) (before after : Option (List ℕ)) → AreBytes given.bytes → Drained given next old new before after → IsSettled next
drained_settled given next old new before after fits d = record {
  bytes = subst (λ (h : Held). AreBytes h.bytes) (sym d.held) (AreBytes-drop (total_size (items given.ended given.bytes)) given.bytes fits);
  goes_on = ap (λ (h : Held). h.ended) d.held;
  none = d.settled;
}

pub took_step : (bytes : List ℕ) (at : ℕ) (start held pushed next : Held) (first old new : Report) (a b c : Option (List ℕ))
    → AreBytes bytes → at ≤ length bytes
    → Took (take at bytes) start held first old a b
    → pushed ≡ after_push held (drop at bytes)
    → Drained pushed next old new b c
    → Took (take (at + taken_count held (drop at bytes)) bytes) start next first new a c
took_step bytes at start held pushed next first old new a b c fits within t pushes d =
    let n = taken_count held (drop at bytes) in
    let given = take n (drop at bytes) in
    let piece = take-add at n bytes in
    let given_fits = AreBytes-take n (drop at bytes) (AreBytes-drop at bytes fits) in
    let pushed_is : pushed ≡ record { bytes = held.bytes ++ given; ended = false } =
    pushes ∙ ap (λ (e : Bool). record { bytes = held.bytes ++ given; ended = e }) t.settled.goes_on in
    let drained = subst (λ (h : Held). Drained h next old new b c) pushed_is d in
    let grow : length (held.bytes ++ given) ≡ length held.bytes + length given = length-append held.bytes given in
    let front : length (take (at + n) bytes) ≡ length (take at bytes) + length given = ap length piece ∙ length-append (take at bytes) given in
    let last = t.counts in
    let now = drained.counts in
    record {
      stands = λ detail begin ended open_bytes s.
          subst (λ l. Stands detail begin ended l next new c) (append_assoc open_bytes (take at bytes) given ∙ ap (λ l. open_bytes ++ l) (sym piece))
          (stands_more detail begin b c ended (open_bytes ++ take at bytes) given held next old new given_fits (t.stands detail begin ended open_bytes s) drained);
      settled = drained_settled (record { bytes = held.bytes ++ given; ended = false }) next old new b c (AreBytes-append held.bytes given t.settled.bytes given_fits) drained;
      counts = omega arith;
    }

pub ended_run : (held next : Held) (old mid new : Report) (before after : Option (List ℕ)) → IsSettled held
    → Drained (after_gap held) next old mid before after → new.detail ≡ mid.detail → new.tally ≡ after_run mid.tally
    → EndedRun held next old new before after
ended_run held next old mid new before after settled d same tally =
    let counts_of : counted new.tally ≡ counted (after_run mid.tally) = ap counted tally in
    let less = counted-after_run mid.tally in
    let last = d.counts in
    record {
      stands = λ detail start ended bytes s. stands_end detail start before after ended bytes held next old mid new s d same tally;
      settled = drained_settled (after_gap held) next old mid before after settled.bytes d;
      counts = omega arith;
    }

-- ---- where a call stopped

-- a longer piece of a run
pub stops_longer_run : (bytes more : List ℕ) (held : Held) (old : Report) (before written : Option (List ℕ)) → AreBytes bytes → AreBytes more
    → StopsIn bytes held old before written → StopsIn (bytes ++ more) held old before written
stops_longer_run bytes more held old before written fits fits_too h = λ detail start ended open_bytes s.
    let there = open_bytes ++ bytes in
    let all = AreBytes-append there more (AreBytes-append open_bytes bytes s.bytes fits) fits_too in
    let text = lines_more detail ended there more all in
    let regrouped : open_bytes ++ (bytes ++ more) ≡ there ++ more = sym (append_assoc open_bytes bytes more) in
    stops_longer start written (lines_so_far detail ended there) (lines_so_far detail ended (open_bytes ++ (bytes ++ more)))
    (shown_lines detail (tally_so_far ended there) (items false (left_over there ++ more))) (h detail start ended open_bytes s)
    (ap (lines_so_far detail ended) regrouped ∙ text)

-- after a front that was told
pub stops_after_both : (xs ys : List ℕ) (start held : Held) (first old : Report) (a b written : Option (List ℕ))
    → Took xs start held first old a b → StopsIn ys held old b written → StopsIn (xs ++ ys) start first a written
stops_after_both xs ys start held first old a b written t h = λ detail begin ended open_bytes s.
    subst (λ l. StopsWithin begin written (lines_so_far detail ended l)) (append_assoc open_bytes xs ys)
    (h detail begin ended (open_bytes ++ xs) (t.stands detail begin ended open_bytes s))

-- within the items that held bytes decide, once these were given
pub held_stops : (given : List ℕ) (held : Held) (old : Report) (before written : Option (List ℕ)) → AreBytes given → IsSettled held
    → StopsWithin before written (shown_lines old.detail old.tally (items false (held.bytes ++ given))) → StopsIn given held old before written
held_stops given held old before written fits settled h = λ detail start ended open_bytes s.
    let all = AreBytes-append open_bytes given s.bytes fits in
    let held_bytes : held.bytes ≡ left_over open_bytes = ap (λ (x : Held). x.bytes) s.held_is in
    let parts : items false (held.bytes ++ given) ≡ items false (left_over open_bytes ++ given) = ap (λ l. items false (l ++ given)) held_bytes in
    let here : shown_lines old.detail old.tally (items false (held.bytes ++ given)) ≡ shown_lines detail (tally_so_far ended open_bytes) (items false (left_over open_bytes ++ given)) =
    ap (λ f. shown_lines f old.tally (items false (held.bytes ++ given))) s.detail_is
    ∙ ap (λ t. shown_lines detail t (items false (held.bytes ++ given))) s.tally
    ∙ ap (shown_lines detail (tally_so_far ended open_bytes)) parts in
    stops_after start before written (lines_so_far detail ended open_bytes) (shown_lines detail (tally_so_far ended open_bytes) (items false (left_over open_bytes ++ given)))
    (lines_so_far detail ended (open_bytes ++ given)) [] s.lines (subst (StopsWithin before written) here h)
    (lines_more detail ended open_bytes given all ∙ sym (append-nil _))

-- .. of the bytes that a framer took
pub pushed_stops : (given : List ℕ) (held pushed : Held) (old : Report) (before written : Option (List ℕ)) → AreBytes given → IsSettled held
    → pushed ≡ after_push held given → StopsWithin before written (shown_lines old.detail old.tally (items pushed.ended pushed.bytes))
    → StopsIn given held old before written
pushed_stops given held pushed old before written fits settled pushes h =
    let n = taken_count held given in
    let front = take n given in
    let front_fits = AreBytes-front front (drop n given) (subst AreBytes (sym (take-append-drop n given)) fits) in
    let back_fits = AreBytes-drop n given fits in
    let pushed_is : pushed ≡ record { bytes = held.bytes ++ front; ended = false } =
    pushes ∙ ap (λ (e : Bool). record { bytes = held.bytes ++ front; ended = e }) settled.goes_on in
    subst (λ l. StopsIn l held old before written) (take-append-drop n given)
    (stops_longer_run front (drop n given) held old before written front_fits back_fits
    (held_stops front held old before written front_fits settled
    (subst (λ (x : Held). StopsWithin before written (shown_lines old.detail old.tally (items x.ended x.bytes))) pushed_is h)))

-- at the end of a run
pub run_end_stops : (held : Held) (old : Report) (before written : Option (List ℕ))
    → StopsWithin before written (shown_lines old.detail old.tally (items (after_gap held).ended (after_gap held).bytes)) → StopsAtRunEnd held old before written
run_end_stops held old before written h = λ detail start ended bytes s.
    let held_bytes : held.bytes ≡ left_over bytes = ap (λ (x : Held). x.bytes) s.held_is in
    let parts : items (not (length held.bytes == 0)) held.bytes ≡ items true (left_over bytes) = gap_items held.bytes ∙ ap (items true) held_bytes in
    let so_far = tally_so_far ended bytes in
    let here : shown_lines old.detail old.tally (items (not (length held.bytes == 0)) held.bytes) ≡ shown_lines detail so_far (items true (left_over bytes)) =
    ap (λ f. shown_lines f old.tally (items (not (length held.bytes == 0)) held.bytes)) s.detail_is
    ∙ ap (λ t. shown_lines detail t (items (not (length held.bytes == 0)) held.bytes)) s.tally
    ∙ ap (shown_lines detail so_far) parts in
    stops_after start before written (lines_so_far detail ended bytes) (shown_lines detail so_far (items true (left_over bytes)))
    (lines_so_far detail (closed_runs ended bytes) []) [] s.lines (subst (StopsWithin before written) here h)
    (closed_lines detail ended bytes s.bytes ∙ sym (append-nil _))

-- after a front that was told, within a part of the rest
pub stops_in_rest : (bytes : List ℕ) (at count : ℕ) (start held : Held) (first old : Report) (a b written : Option (List ℕ)) → AreBytes bytes
    → Took (take at bytes) start held first old a b → StopsIn (take count (drop at bytes)) held old b written → StopsIn bytes start first a written
stops_in_rest bytes at count start held first old a b written fits t h =
    let rest = drop at bytes in
    let rest_fits = AreBytes-drop at bytes fits in
    let whole : StopsIn rest held old b written =
    subst (λ l. StopsIn l held old b written) (take-append-drop count rest)
    (stops_longer_run (take count rest) (drop count rest) held old b written (AreBytes-take count rest rest_fits) (AreBytes-drop count rest rest_fits) h) in
    subst (λ l. StopsIn l start first a written) (take-append-drop at bytes)
    (stops_after_both (take at bytes) rest start held first old a b written t whole)
