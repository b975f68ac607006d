-- The text of readings, and the lines that are counted on the way.
use Rattle.osdp_tool_show.proofs.Common.{◌≡◌, ℕ, zero, suc, drop, length-drop, ◌+◌, ◌<◌, ◌≤◌, not, Bool, false, cond, nat_lt, List, [], ◌∷◌, ◌++◌, length, Option, Some, None, ◌⊎◌, inl, inr, refl, sym, subst, ap, ◌∙◌, arith, zero-add, ne_eqb, nil_from_length, AllByRecursion, concat, option_map_or, AreBytes, RunItem, PacketItem, SkippedItem, RefusedItem, item_size, total_size, IsReading, items, reading, Drains, decided, AreBytes-append, AreBytes-drop, AreBytes-nil, first_decided, undecided_none, is_reading, reading_is, sizes_reading, drained_items, decided_nothing, items_undecided, items_decided, item_size-positive, item_size-decided, Form, Raw, Joined, Apart, ended_lines, unended_line, last_line, lines_of, line_bytes, is_cut, good_front-bytes, Detail, Full, Refusals, Filtered, Tally, is_refusal, counts_line, shown, shown_so_far, is_refused_input, tally_of, Say, Says, SaysSoFar, HasRuns, HasRunsSoFar, AreReadings, items_text, readings_text, is_packet, is_skipped, count_items, end_text}
use Rattle.std.specs.Prelude.{flat_map, count_by}
use Rattle.std.proofs.lemmas.List.Sums.{sum_by-append, sum_by-cons}
use Rattle.osdp_tool_streams.specs.Runs.{good_front, with_bytes, runs_of, ended_runs, open_run}
use Rattle.osdp_tool_streams.proofs.CutLemmas.{ended_lines-cut}
use Rattle.osdp_tool_show.specs.Tally.{no_tally, one_if, tally_after, tally_after_all, after_run}
use Rattle.osdp_tool_show.specs.ToldItems.{shown_line, shown_lines, after_runs, runs_lines, end_line}
use Rattle.osdp_tool_show.proofs.Lines.{after_runs-place}

-- ---- the lines of a run's items

tally_after-runs : (tally : Tally) (part : RunItem) → (tally_after tally part).runs ≡ tally.runs
tally_after-runs tally (PacketItem p) = refl
tally_after-runs tally (SkippedItem b) = refl
tally_after-runs tally (RefusedItem fault) = refl

tally_after-place : (tally : Tally) (part : RunItem) → (tally_after tally part).place ≡ tally.place + item_size part
tally_after-place tally (PacketItem p) = refl
tally_after-place tally (SkippedItem b) = refl
tally_after-place tally (RefusedItem fault) = refl

tally_after-packets : (tally : Tally) (part : RunItem) → (tally_after tally part).packets ≡ tally.packets + one_if (is_packet part)
tally_after-packets tally (PacketItem p) = refl
tally_after-packets tally (SkippedItem b) = omega arith
tally_after-packets tally (RefusedItem fault) = omega arith

tally_after-skipped : (tally : Tally) (part : RunItem) → (tally_after tally part).skipped ≡ tally.skipped + one_if (is_skipped part)
tally_after-skipped tally (PacketItem p) = omega arith
tally_after-skipped tally (SkippedItem b) = refl
tally_after-skipped tally (RefusedItem fault) = omega arith

tally_after-refused : (tally : Tally) (part : RunItem) → (tally_after tally part).refused ≡ tally.refused + one_if (is_refusal part)
tally_after-refused tally (PacketItem p) = refl
tally_after-refused tally (SkippedItem b) = omega arith
tally_after-refused tally (RefusedItem fault) = refl

parts_text : (detail : Detail) (tally : Tally) (parts : List RunItem) → shown_lines detail tally parts ≡ items_text detail (tally.runs + 1) tally.place parts
unfolding shown_lines
parts_text detail tally [] = refl
parts_text detail tally (part ∷ parts) =
    ap (λ l. shown_line detail tally part ++ l)
    (parts_text detail (tally_after tally part) parts
    ∙ ap (λ n. items_text detail (n + 1) (tally_after tally part).place parts) (tally_after-runs tally part)
    ∙ ap (λ n. items_text detail (tally.runs + 1) n parts) (tally_after-place tally part))

-- what is counted of them
pub record Counted (old new : Tally) (parts : List RunItem) : Type 0 where
  pub runs : new.runs ≡ old.runs
  pub place : new.place ≡ old.place + total_size parts
  pub packets : new.packets ≡ old.packets + count_by is_packet parts
  pub skipped : new.skipped ≡ old.skipped + count_by is_skipped parts
  pub refused : new.refused ≡ old.refused + count_by is_refusal parts

count_one : (fits : RunItem → Bool) (part : RunItem) (parts : List RunItem) → count_by fits (part ∷ parts) ≡ one_if (fits part) + count_by fits parts
count_one fits part parts = sum_by-cons (λ p. cond (fits p) 1 0) part parts

parts_counted : (tally : Tally) (parts : List RunItem) → Counted tally (tally_after_all tally parts) parts
unfolding tally_after_all
parts_counted tally [] = record { runs = refl; place = omega arith; packets = omega arith; skipped = omega arith; refused = omega arith }
parts_counted tally (part ∷ parts) =
    let rest = parts_counted (tally_after tally part) parts in
    record {
      runs = omega (arith, rest.runs, tally_after-runs tally part);
      place = omega (arith, rest.place, tally_after-place tally part);
      packets = omega (arith, rest.packets, tally_after-packets tally part, count_one is_packet part parts);
      skipped = omega (arith, rest.skipped, tally_after-skipped tally part, count_one is_skipped part parts);
      refused = omega (arith, rest.refused, tally_after-refused tally part, count_one is_refusal part parts);
    }

-- ---- run after run

abbrev pub HasBytes : List ℕ → Type 0
HasBytes run = (0 < length run) × AreBytes run

count_readings : (fits : RunItem → Bool) (parts : List RunItem) (readings : List (List RunItem)) → count_items fits (parts ∷ readings) ≡ count_by fits parts + count_items fits readings
count_readings fits parts readings = sum_by-append (λ p. cond (fits p) 1 0) parts (flat_map (λ p. p) readings)

after_run_place : (tally : Tally) → (tally.place ≡ 0 → ⊥) → after_run tally ≡ record tally { runs = tally.runs + 1; place = 0 }
after_run_place tally some = ap (λ t. cond t tally (record tally { runs = tally.runs + 1; place = 0 })) (ne_eqb tally.place 0 some)

-- a whole run is counted
record CountedRun (old new : Tally) (parts : List RunItem) : Type 0 where
  runs : new.runs ≡ old.runs + 1
  place : new.place ≡ 0
  packets : new.packets ≡ old.packets + count_by is_packet parts
  skipped : new.skipped ≡ old.skipped + count_by is_skipped parts
  refused : new.refused ≡ old.refused + count_by is_refusal parts

run_counted : (tally : Tally) (run : List ℕ) (parts : List RunItem) → HasBytes run → IsReading run parts
    → CountedRun tally (after_run (tally_after_all tally (reading run))) parts
run_counted tally run parts has r =
    let is : parts ≡ reading run = reading_is run parts has.1 r in
    let sizes = sizes_reading run parts r in
    let c = parts_counted tally parts in
    let some = has.0 in
    let placed = c.place in
    let step = after_run_place (tally_after_all tally parts) (λ none. omega arith) in
    subst (λ ps. CountedRun tally (after_run (tally_after_all tally ps)) parts) is
    (subst (λ t. CountedRun tally t parts) (sym step)
    (record { runs = ap (λ n. n + 1) c.runs; place = refl; packets = c.packets; skipped = c.skipped; refused = c.refused }))

runs_text : (detail : Detail) (tally : Tally) (runs : List (List ℕ)) (readings : List (List RunItem)) → tally.place ≡ 0 → AllByRecursion HasBytes runs → AreReadings runs readings
    → runs_lines detail tally runs ≡ readings_text detail (tally.runs + 1) readings
unfolding runs_lines
runs_text detail tally [] [] none has r = refl
runs_text detail tally [] (parts ∷ readings) none has r = absurd r
runs_text detail tally (run ∷ runs) [] none has r = absurd r
runs_text detail tally (run ∷ runs) (parts ∷ readings) none has r =
    let is : parts ≡ reading run = reading_is run parts has.0.1 r.0 in
    let next = after_run (tally_after_all tally (reading run)) in
    let c = run_counted tally run parts has.0 r.0 in
    let here : shown_lines detail tally (reading run) ≡ items_text detail (tally.runs + 1) 0 parts =
    parts_text detail tally (reading run) ∙ ap (λ n. items_text detail (tally.runs + 1) n (reading run)) none ∙ ap (items_text detail (tally.runs + 1) 0) (sym is) in
    ap (λ l. l ++ runs_lines detail next runs) here
    ∙ ap (λ l. items_text detail (tally.runs + 1) 0 parts ++ l)
    (runs_text detail next runs readings c.place has.1 r.1 ∙ ap (λ n. readings_text detail (n + 1) readings) c.runs)

record CountedRuns (old new : Tally) (readings : List (List RunItem)) : Type 0 where
  runs : new.runs ≡ old.runs + length readings
  packets : new.packets ≡ old.packets + count_items is_packet readings
  skipped : new.skipped ≡ old.skipped + count_items is_skipped readings
  refused : new.refused ≡ old.refused + count_items is_refusal readings

runs_counted : (tally : Tally) (runs : List (List ℕ)) (readings : List (List RunItem)) → AllByRecursion HasBytes runs → AreReadings runs readings
    → CountedRuns tally (after_runs tally runs) readings
unfolding after_runs
runs_counted tally [] [] has r = record { runs = omega arith; packets = omega arith; skipped = omega arith; refused = omega arith }
runs_counted tally [] (parts ∷ readings) has r = absurd r
runs_counted tally (run ∷ runs) [] has r = absurd r
runs_counted tally (run ∷ runs) (parts ∷ readings) has r =
    let c = run_counted tally run parts has.0 r.0 in
    let rest = runs_counted (after_run (tally_after_all tally (reading run))) runs readings has.1 r.1 in
    record {
      runs = omega (arith, rest.runs, c.runs);
      packets = omega (arith, rest.packets, c.packets, count_readings is_packet parts readings);
      skipped = omega (arith, rest.skipped, c.skipped, count_readings is_skipped parts readings);
      refused = omega (arith, rest.refused, c.refused, count_readings is_refusal parts readings);
    }

-- ---- the runs of an input

some_bytes : (runs : List (List ℕ)) → AllByRecursion AreBytes runs → AllByRecursion HasBytes (with_bytes runs)
some_bytes [] h = tt
some_bytes ([] ∷ runs) h = some_bytes runs h.1
some_bytes ((b ∷ run) ∷ runs) h =
    subst (λ t. AllByRecursion HasBytes (cond (not t) ((b ∷ run) ∷ with_bytes runs) (with_bytes runs))) (sym (ne_eqb (length (b ∷ run)) 0 (λ e. omega arith)))
    ((omega arith, h.0), some_bytes runs h.1)

concat_bytes : (runs : List (List ℕ)) → AllByRecursion AreBytes runs → AreBytes (concat runs)
concat_bytes [] h = AreBytes-nil
concat_bytes (run ∷ runs) h = AreBytes-append run (concat runs) h.0 (concat_bytes runs h.1)

say_good : (lines good : List (List ℕ)) → Say lines good → good ≡ good_front lines
unfolding good_front
say_good [] [] h = refl
say_good [] (bytes ∷ good) h = absurd h
say_good (line ∷ lines) [] h = sym (ap (λ o. option_map_or (λ bytes. bytes ∷ good_front lines) o []) h)
say_good (line ∷ lines) (bytes ∷ good) h =
    ap (λ l. bytes ∷ l) (say_good lines good h.1) ∙ sym (ap (λ o. option_map_or (λ b. b ∷ good_front lines) o []) h.0)

good_say : (lines : List (List ℕ)) → Say lines (good_front lines)
unfolding good_front
good_say [] = tt
good_say (line ∷ lines) = go (good_say lines) (line_bytes line) refl
  where
    go : Say lines (good_front lines) → (o : Option (List ℕ)) → line_bytes line ≡ o → Say (line ∷ lines) (option_map_or (λ bytes. bytes ∷ good_front lines) o [])
    go ih None is = is
    go ih (Some bytes) is = (is, ih)

says_good : (bytes : List ℕ) (good : List (List ℕ)) → Says bytes good → good ≡ good_front (lines_of bytes)
says_good bytes good s =
    let cut = ended_lines-cut bytes s.lines s.rest s.cut.each s.cut.last s.cut.whole in
    say_good (s.lines ++ last_line s.rest) good s.say ∙ ap (λ l. good_front (l ++ last_line s.rest)) (sym cut.0) ∙ ap (λ r. good_front (ended_lines bytes ++ last_line r)) (sym cut.1)

says_good_so_far : (bytes : List ℕ) (good : List (List ℕ)) → SaysSoFar bytes good → good ≡ good_front (ended_lines bytes)
says_good_so_far bytes good s =
    let cut = ended_lines-cut bytes s.lines s.rest s.cut.each s.cut.last s.cut.whole in
    say_good s.lines good s.say ∙ ap good_front (sym cut.0)

good_says : (bytes : List ℕ) → Says bytes (good_front (lines_of bytes))
good_says bytes = record { lines = ended_lines bytes; rest = unended_line bytes; cut = is_cut bytes; say = good_say (lines_of bytes) }

good_says_so_far : (bytes : List ℕ) → SaysSoFar bytes (good_front (ended_lines bytes))
good_says_so_far bytes = record { lines = ended_lines bytes; rest = unended_line bytes; cut = is_cut bytes; say = good_say (ended_lines bytes) }

pub runs_are : (form : Form) (bytes : List ℕ) (runs : List (List ℕ)) → HasRuns form bytes runs → runs ≡ runs_of form bytes
runs_are Raw bytes runs h = h
runs_are Joined bytes runs h = h.2 ∙ ap (λ good. with_bytes (concat good ∷ [])) (says_good bytes h.0 h.1)
runs_are Apart bytes runs h = h.2 ∙ ap with_bytes (says_good bytes h.0 h.1)

are_runs : (form : Form) (bytes : List ℕ) → HasRuns form bytes (runs_of form bytes)
are_runs Raw bytes = refl
are_runs Joined bytes = (good_front (lines_of bytes), good_says bytes, refl)
are_runs Apart bytes = (good_front (lines_of bytes), good_says bytes, refl)

pub runs_have_bytes : (form : Form) (bytes : List ℕ) → AreBytes bytes → AllByRecursion HasBytes (runs_of form bytes)
runs_have_bytes Raw bytes fits = some_bytes (bytes ∷ []) (fits, tt)
runs_have_bytes Joined bytes fits = some_bytes (concat (good_front (lines_of bytes)) ∷ []) (concat_bytes (good_front (lines_of bytes)) (good_front-bytes (lines_of bytes)), tt)
runs_have_bytes Apart bytes fits = some_bytes (good_front (lines_of bytes)) (good_front-bytes (lines_of bytes))

have_readings : (runs : List (List ℕ)) → AllByRecursion HasBytes runs → (readings : List (List RunItem)) × AreReadings runs readings
have_readings [] h = ([], tt)
have_readings (run ∷ runs) h =
    let rest = have_readings runs h.1 in
    (reading run ∷ rest.0, (is_reading run h.0.1, rest.1))

-- ---- the laws

end_is : (detail : Detail) (readings : List (List RunItem)) (tally : Tally) → CountedRuns no_tally tally readings → end_line detail tally ≡ end_text detail readings
end_is Full readings tally c = refl
end_is (Filtered filter) readings tally c = refl
end_is Refusals readings tally c =
    ap (λ n. counts_line n tally.packets tally.skipped tally.refused) (c.runs ∙ zero-add (length readings))
    ∙ ap (λ n. counts_line (length readings) n tally.skipped tally.refused) (c.packets ∙ zero-add (count_items is_packet readings))
    ∙ ap (λ n. counts_line (length readings) (count_items is_packet readings) n tally.refused) (c.skipped ∙ zero-add (count_items is_skipped readings))
    ∙ ap (counts_line (length readings) (count_items is_packet readings) (count_items is_skipped readings)) (c.refused ∙ zero-add (count_items is_refusal readings))

pub shown_is : (detail : Detail) (form : Form) (bytes : List ℕ) (runs : List (List ℕ)) (readings : List (List RunItem)) → AreBytes bytes → HasRuns form bytes runs → AreReadings runs readings
    → shown detail form bytes ≡ readings_text detail 1 readings ++ end_text detail readings
shown_is detail form bytes runs readings fits has r =
    let is = runs_are form bytes runs has in
    let r' = subst (λ l. AreReadings l readings) is r in
    let have = runs_have_bytes form bytes fits in
    ap (λ l. l ++ end_line detail (tally_of form bytes)) (runs_text detail no_tally (runs_of form bytes) readings refl have r')
    ∙ ap (λ l. readings_text detail 1 readings ++ l) (end_is detail readings (tally_of form bytes) (runs_counted no_tally (runs_of form bytes) readings have r'))

pub refused_is : (form : Form) (bytes : List ℕ) (runs : List (List ℕ)) (readings : List (List RunItem)) → AreBytes bytes → HasRuns form bytes runs → AreReadings runs readings
    → is_refused_input form bytes ≡ nat_lt 0 (count_items is_refusal readings)
refused_is form bytes runs readings fits has r =
    let is = runs_are form bytes runs has in
    let c = runs_counted no_tally (runs_of form bytes) readings (runs_have_bytes form bytes fits) (subst (λ l. AreReadings l readings) is r) in
    ap (nat_lt 0) (c.refused ∙ zero-add (count_items is_refusal readings))

pub some_readings : (form : Form) (bytes : List ℕ) → AreBytes bytes
    → (runs : List (List ℕ)) × (readings : List (List RunItem)) × HasRuns form bytes runs × AreReadings runs readings
some_readings form bytes fits =
    let r = have_readings (runs_of form bytes) (runs_have_bytes form bytes fits) in
    (runs_of form bytes, r.0, are_runs form bytes, r.1)

-- ---- an input that is cut off

so_far_are : (form : Form) (bytes : List ℕ) (runs : List (List ℕ)) (open_bytes : List ℕ) → HasRunsSoFar form bytes runs open_bytes
    → (runs ≡ ended_runs form bytes) × (open_bytes ≡ open_run form bytes)
so_far_are Raw bytes runs open_bytes h = (h.0, h.1)
so_far_are Joined bytes runs open_bytes h = (h.2, h.3 ∙ ap concat (says_good_so_far bytes h.0 h.1))
so_far_are Apart bytes runs open_bytes h = (h.2 ∙ ap with_bytes (says_good_so_far bytes h.0 h.1), h.3)

are_so_far : (form : Form) (bytes : List ℕ) → HasRunsSoFar form bytes (ended_runs form bytes) (open_run form bytes)
are_so_far Raw bytes = (refl, refl)
are_so_far Joined bytes = (good_front (ended_lines bytes), good_says_so_far bytes, refl, refl)
are_so_far Apart bytes = (good_front (ended_lines bytes), good_says_so_far bytes, refl, refl)

ended_have_bytes : (form : Form) (bytes : List ℕ) → AllByRecursion HasBytes (ended_runs form bytes)
ended_have_bytes Raw bytes = tt
ended_have_bytes Joined bytes = tt
ended_have_bytes Apart bytes = some_bytes (good_front (ended_lines bytes)) (good_front-bytes (ended_lines bytes))

open_has_bytes : (form : Form) (bytes : List ℕ) → AreBytes bytes → AreBytes (open_run form bytes)
open_has_bytes Raw bytes fits = fits
open_has_bytes Joined bytes fits = concat_bytes (good_front (ended_lines bytes)) (good_front-bytes (ended_lines bytes))
open_has_bytes Apart bytes fits = AreBytes-nil

pub lines_have_bytes : (form : Form) → (form ≡ Joined) ⊎ (form ≡ Apart) → (bytes : List ℕ) → AreBytes (open_run form bytes)
lines_have_bytes Raw is bytes = elim is [ inl j ↦ cc | inr a ↦ cc ]
lines_have_bytes Joined is bytes = concat_bytes (good_front (ended_lines bytes)) (good_front-bytes (ended_lines bytes))
lines_have_bytes Apart is bytes = AreBytes-nil

pub shown_so_far_is : (detail : Detail) (form : Form) (bytes : List ℕ) (runs : List (List ℕ)) (open_bytes : List ℕ) (readings : List (List RunItem)) (parts : List RunItem)
    → AreBytes bytes → HasRunsSoFar form bytes runs open_bytes → AreReadings runs readings → Drains false open_bytes parts
    → shown_so_far detail form bytes ≡ readings_text detail 1 readings ++ items_text detail (length readings + 1) 0 parts
shown_so_far_is detail form bytes runs open_bytes readings parts fits has r d =
    let is = so_far_are form bytes runs open_bytes has in
    let r' = subst (λ l. AreReadings l readings) is.0 r in
    let have = ended_have_bytes form bytes in
    let t = after_runs no_tally (ended_runs form bytes) in
    let c = runs_counted no_tally (ended_runs form bytes) readings have r' in
    let shown_items : parts ≡ items false (open_run form bytes) =
    drained_items false (open_run form bytes) parts (open_has_bytes form bytes fits) (subst (λ l. Drains false l parts) is.1 d) in
    let last : shown_lines detail t (items false (open_run form bytes)) ≡ items_text detail (length readings + 1) 0 parts =
    parts_text detail t (items false (open_run form bytes))
    ∙ ap (λ n. items_text detail (n + 1) t.place (items false (open_run form bytes))) (c.runs ∙ zero-add (length readings))
    ∙ ap (λ n. items_text detail (length readings + 1) n (items false (open_run form bytes))) (after_runs-place no_tally (ended_runs form bytes) refl)
    ∙ ap (items_text detail (length readings + 1) 0) (sym shown_items) in
    ap (λ l. l ++ shown_lines detail t (items false (open_run form bytes))) (runs_text detail no_tally (ended_runs form bytes) readings refl have r')
    ∙ ap (λ l. readings_text detail 1 readings ++ l) last

drain_within : (most : ℕ) (bytes : List ℕ) → AreBytes bytes → length bytes ≤ most → Drains false bytes (items false bytes)
drain_within zero bytes fits short =
    let none : bytes ≡ [] = nil_from_length bytes (omega arith) in
    let is : decided false bytes ≡ None = ap (decided false) none ∙ decided_nothing false in
    subst (Drains false bytes) (sym (items_undecided false bytes is)) (undecided_none false bytes is)
drain_within (suc most) bytes fits short = by_first (decided false bytes) refl
    (λ part is. drain_within most (drop (item_size part) bytes) (AreBytes-drop (item_size part) bytes fits)
    (omega (arith, length-drop (item_size part) bytes, item_size-positive part, item_size-decided false bytes part fits is)))
  where
    by_first : (o : Option RunItem) → decided false bytes ≡ o
        → ((part : RunItem) → decided false bytes ≡ Some part → Drains false (drop (item_size part) bytes) (items false (drop (item_size part) bytes)))
        → Drains false bytes (items false bytes)
    by_first None is tails = subst (Drains false bytes) (sym (items_undecided false bytes is)) (undecided_none false bytes is)
    by_first (Some part) is tails = subst (Drains false bytes) (sym (items_decided false bytes part fits is)) (first_decided false bytes part fits is, tails part is)

items_drain : (bytes : List ℕ) → AreBytes bytes → Drains false bytes (items false bytes)
items_drain bytes fits = drain_within (length bytes) bytes fits (omega arith)

pub some_so_far : (form : Form) (bytes : List ℕ) → AreBytes bytes
    → (runs : List (List ℕ)) × (open_bytes : List ℕ) × (readings : List (List RunItem)) × (parts : List RunItem)
    × HasRunsSoFar form bytes runs open_bytes × AreReadings runs readings × Drains false open_bytes parts
some_so_far form bytes fits =
    let r = have_readings (ended_runs form bytes) (ended_have_bytes form bytes) in (
      ended_runs form bytes,
      open_run form bytes,
      r.0,
      items false (open_run form bytes),
      are_so_far form bytes,
      r.1,
      items_drain (open_run form bytes) (open_has_bytes form bytes fits),
    )
