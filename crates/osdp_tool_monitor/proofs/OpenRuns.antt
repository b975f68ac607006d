-- Open lines: items that are taken off one by one, and pieces of a run one after the other.
use Rattle.osdp_tool_monitor.proofs.Common.{◌≡◌, ℕ, ◌+◌, ◌-◌, ◌*◌, ◌<◌, ◌≤◌, ◌==◌, not, Bool, true, false, List, [], ◌∷◌, ◌++◌, length, take, drop, Some, None, Result, Ok, Err, IfErr, OnOk, refl, sym, subst, ap, ◌∙◌, arith, append_assoc, append-nil, length-append, length-drop, take-add, drop_all, take-take, length-take, AreBytes, items, left_over, RunItem, item_size, total_size, AreBytes-append, AreBytes-drop, AreBytes-take, gap_items, left_is, left_over-append, reading_split, total_size-append, is_reading, item_size-positive, item_size-decided, items-append, items_undecided, sizes_reading, counted, counted-after_run, counted-tally_after, Detail, Listener, OpenLine, Come, Drained, Hearing, Hears, HearsItems, IsOpen, LineEvent, RunEnds, TableDue, TableTold, after_event, after_events, event_report, events_report, hearing_of, load, line_detail, HearsItem, Listening, after_table, ended, heard_item, heard_items, item_report, items_report, listening_of, table, detail_of}
use Rattle.osdp_frame.specs.Held.{Held, decided, after_advance, after_push, taken_count}
use Rattle.osdp_tool_show.proofs.OneByOne.{GoesOneByOne, TellsOneByOne, goes-append, tells-append}
use Rattle.osdp_tool_show.proofs.Taking.{Taking, next_bytes, taken_all, taking_start, taking_step}
use Rattle.osdp_tool_monitor.specs.InTurn.{after_all, report_of_all}

pub on_both : {T E : Type 0} {A B C : Type 0} (r : Result T E) → (A → B → C) → OnOk r A → OnOk r B → OnOk r C
on_both (Ok x) f a b = f a b
on_both (Err e) f a b = tt

pub on_each_err : {T E : Type 0} {P Q : E → Type 0} (r : Result T E) → ((e : E) → P e → Q e) → IfErr r P → IfErr r Q
on_each_err (Ok x) f p = tt
on_each_err (Err e) f p = f e p

-- ---- items, one after the other

heard_in_turn : GoesOneByOne heard_item heard_items
unfolding after_all
heard_in_turn = record { none = λ l. refl; more = λ l part parts. refl }

reported_in_turn : (detail : Detail) → TellsOneByOne heard_item (item_report detail) (items_report detail)
unfolding report_of_all
reported_in_turn detail = record { none = λ l. refl; more = λ l part parts. refl }

pub heard_items-append : (l : Listening) (xs ys : List RunItem) → heard_items l (xs ++ ys) ≡ heard_items (heard_items l xs) ys
heard_items-append = goes-append heard_item heard_items heard_in_turn

pub items_report-append : (detail : Detail) (l : Listening) (xs ys : List RunItem)
    → items_report detail l (xs ++ ys) ≡ items_report detail l xs ++ items_report detail (heard_items l xs) ys
items_report-append detail = tells-append heard_item heard_items (item_report detail) (items_report detail) heard_in_turn (reported_in_turn detail)

pub hears_none : (l : Listener) (text : List ℕ) → HearsItems [] l l text text
unfolding after_all report_of_all
hears_none l text = record { tells = refl; heard = refl; text = sym (append-nil text) }

pub hears_one : (part : RunItem) (old new : Listener) (before after : List ℕ) → HearsItem part old new before after → HearsItems (part ∷ []) old new before after
unfolding after_all report_of_all
hears_one part old new before after h = record {
  tells = h.tells;
  heard = h.heard;
  text = h.text ∙ ap (λ t. before ++ t) (sym (append-nil (item_report (detail_of old) (listening_of old) part)));
}

pub hears_more : (xs ys : List RunItem) (old mid new : Listener) (before middle after : List ℕ) → HearsItems xs old mid before middle
    → HearsItems ys mid new middle after → HearsItems (xs ++ ys) old new before after
hears_more xs ys old mid new before middle after a b =
    let p = detail_of old in
    let l = listening_of old in
    let front = items_report p l xs in
    let back : items_report (detail_of mid) (listening_of mid) ys ≡ items_report p (heard_items l xs) ys =
    ap (λ q. items_report q (listening_of mid) ys) a.tells ∙ ap (λ k. items_report p k ys) a.heard in
    record {
      tells = b.tells ∙ a.tells;
      heard = b.heard ∙ ap (λ k. heard_items k ys) a.heard ∙ sym (heard_items-append l xs ys);
      text = b.text ∙ ap (λ t. t ++ items_report (detail_of mid) (listening_of mid) ys) a.text ∙ append_assoc before front (items_report (detail_of mid) (listening_of mid) ys)
          ∙ ap (λ t. before ++ (front ++ t)) back ∙ ap (λ t. before ++ t) (sym (items_report-append p l xs ys));
    }

-- ---- what is counted

pub counted_items : (l : Listening) (parts : List RunItem) → counted (heard_items l parts).tally ≤ counted l.tally + 3 * total_size parts
unfolding after_all
counted_items l [] = omega arith
counted_items l (part ∷ parts) = omega (arith, counted_items (heard_item l part) parts, counted-tally_after l.tally part, item_size-positive part)

-- ---- items that are taken off

-- some of the items that the bytes held decide have been told and taken off
pub record Draining (start now : Held) (old new : Listener) (before after : List ℕ) : Type 0 where
  pub parts : List RunItem
  pub hears : HearsItems parts old new before after
  pub taking : Taking start now parts
  pub size : total_size parts + length now.bytes ≡ length start.bytes

pub draining_start : (start : Held) (old : Listener) (before : List ℕ) → AreBytes start.bytes → (start.ended ≡ true → 0 < length start.bytes)
    → Draining start start old old before before
draining_start start old before fits some =
    record { parts = []; hears = hears_none old before; taking = taking_start start fits some; size = omega arith }

pub draining_step : (start now next : Held) (old mid new : Listener) (before middle after : List ℕ) (part : RunItem)
    → Draining start now old mid before middle → decided now.ended now.bytes ≡ Some part → next ≡ after_advance now
    → HearsItem part mid new middle after → Draining start next old new before after
draining_step start now next old mid new before middle after part d is advanced hears =
    let short = item_size-decided now.ended now.bytes part d.taking.bytes is in
    let lengths : length next.bytes ≡ length (drop (item_size part) now.bytes) = ap length (next_bytes now next part is advanced) in
    let sizes = d.size in
    record {
      parts = d.parts ++ part ∷ [];
      hears = hears_more d.parts (part ∷ []) old mid new before middle after d.hears (hears_one part mid new middle after hears);
      taking = taking_step start now next d.parts part d.taking is advanced;
      size = omega (arith, total_size-append d.parts (part ∷ []), length-drop (item_size part) now.bytes);
    }

pub draining_end : (start now : Held) (old new : Listener) (before after : List ℕ) → Draining start now old new before after
    → decided now.ended now.bytes ≡ None → Drained start now old new before after
draining_end start now old new before after d is =
    let t = taken_all start now d.parts d.taking is in
    record {
      hears = subst (λ l. HearsItems l old new before after) (sym t.whole) d.hears;
      left = t.left;
      goes_on = t.goes_on;
      none = t.none;
      bytes = d.taking.bytes;
    }

-- where one more is too many
pub draining_long : (start now : Held) (old mid : Listener) (before middle : List ℕ) → Draining start now old mid before middle
    → counted mid.tally ≤ counted old.tally + 5 * length start.bytes
draining_long start now old mid before middle d =
    let tally : counted mid.tally ≡ counted (heard_items (listening_of old) d.parts).tally = ap (λ (l : Listening). counted l.tally) d.hears.heard in
    let size = d.size in
    omega (arith, counted_items (listening_of old) d.parts)

-- ---- events

one_heard : (h : Hearing) (event : LineEvent) → after_events h (event ∷ []) ≡ after_event h event
unfolding after_all
one_heard h event = refl

one_told : (detail : Detail) (h : Hearing) (event : LineEvent) → events_report detail h (event ∷ []) ≡ event_report detail h event
unfolding report_of_all
one_told detail h event = append-nil (event_report detail h event)

pub hears_event : (event : LineEvent) (old new : OpenLine) (before after : List ℕ) → line_detail new ≡ line_detail old
    → hearing_of new ≡ after_event (hearing_of old) event → after ≡ before ++ event_report (line_detail old) (hearing_of old) event → IsOpen new
    → Hears (event ∷ []) old new before after
hears_event event old new before after prints heard text is_open = record {
  prints = prints;
  heard = heard ∙ sym (one_heard (hearing_of old) event);
  text = text ∙ ap (λ t. before ++ t) (sym (one_told (line_detail old) (hearing_of old) event));
  is_open = is_open;
}

-- ---- bytes that come

-- what a listener knows, and these bytes held
abbrev hearing : Listening → List ℕ → Hearing
hearing l bytes = record { heard = l; held = bytes }

pub come_drained : (given : List ℕ) (old new : OpenLine) (pushed : Held) (before after : List ℕ) → AreBytes given → IsOpen old
    → pushed ≡ record { bytes = old.framer.bytes ++ given; ended = false } → Drained pushed new.framer old.listener new.listener before after
    → Hears (Come given ∷ []) old new before after
come_drained given old new pushed before after fits is_open is d =
    let all = old.framer.bytes ++ given in
    let parts : items pushed.ended pushed.bytes ≡ items false all = ap (λ (h : Held). items h.ended h.bytes) is in
    let left : new.framer.bytes ≡ left_over all =
    d.left ∙ ap (λ l. drop (total_size l) pushed.bytes) parts ∙ ap (λ (h : Held). drop (total_size (items false all)) h.bytes) is ∙ left_is all in
    let hears : HearsItems (items false all) old.listener new.listener before after = subst (λ l. HearsItems l old.listener new.listener before after) parts d.hears in
    hears_event (Come given) old new before after hears.tells
    (ap (λ l. hearing l new.framer.bytes) hears.heard ∙ ap (hearing (heard_items (listening_of old.listener) (items false all))) left) hears.text
    (record { bytes = d.bytes; goes_on = d.goes_on; none = d.none })

come_heard : (h : Hearing) (a b : List ℕ) → AreBytes ((h.held ++ a) ++ b) → after_event (after_event h (Come a)) (Come b) ≡ after_event h (Come (a ++ b))
come_heard h a b fits =
    let whole : (h.held ++ a) ++ b ≡ h.held ++ (a ++ b) = append_assoc h.held a b in
    let first = items false (h.held ++ a) in
    let second = items false (left_over (h.held ++ a) ++ b) in
    let parts : items false (h.held ++ (a ++ b)) ≡ first ++ second = ap (items false) (sym whole) ∙ items-append false (h.held ++ a) b fits in
    let heard : heard_items (heard_items h.heard first) second ≡ heard_items h.heard (items false (h.held ++ (a ++ b))) =
    sym (heard_items-append h.heard first second) ∙ ap (heard_items h.heard) (sym parts) in
    let left : left_over (left_over (h.held ++ a) ++ b) ≡ left_over (h.held ++ (a ++ b)) = sym (left_over-append (h.held ++ a) b fits) ∙ ap left_over whole in
    ap (λ l. hearing l (left_over (left_over (h.held ++ a) ++ b))) heard ∙ ap (hearing (heard_items h.heard (items false (h.held ++ (a ++ b))))) left

come_told : (detail : Detail) (h : Hearing) (a b : List ℕ) → AreBytes ((h.held ++ a) ++ b)
    → event_report detail h (Come a) ++ event_report detail (after_event h (Come a)) (Come b) ≡ event_report detail h (Come (a ++ b))
come_told detail h a b fits =
    let first = items false (h.held ++ a) in
    let second = items false (left_over (h.held ++ a) ++ b) in
    sym (items_report-append detail h.heard first second)
    ∙ ap (items_report detail h.heard) (sym (items-append false (h.held ++ a) b fits) ∙ ap (items false) (append_assoc h.held a b))

pub come_more : (a b : List ℕ) (old mid new : OpenLine) (before middle after : List ℕ) → AreBytes a → AreBytes b → IsOpen old
    → Hears (Come a ∷ []) old mid before middle → Hears (Come b ∷ []) mid new middle after → Hears (Come (a ++ b) ∷ []) old new before after
come_more a b old mid new before middle after a_fits b_fits is_open x y =
    let h = hearing_of old in
    let p = line_detail old in
    let fits : AreBytes ((h.held ++ a) ++ b) = AreBytes-append (h.held ++ a) b (AreBytes-append h.held a is_open.bytes a_fits) b_fits in
    let x_heard : hearing_of mid ≡ after_event h (Come a) = x.heard ∙ one_heard h (Come a) in
    let y_heard : hearing_of new ≡ after_event (hearing_of mid) (Come b) = y.heard ∙ one_heard (hearing_of mid) (Come b) in
    let x_text : middle ≡ before ++ event_report p h (Come a) = x.text ∙ ap (λ t. before ++ t) (one_told p h (Come a)) in
    let y_told : events_report (line_detail mid) (hearing_of mid) (Come b ∷ []) ≡ event_report p (after_event h (Come a)) (Come b) =
    one_told (line_detail mid) (hearing_of mid) (Come b) ∙ ap (λ q. event_report q (hearing_of mid) (Come b)) x.prints ∙ ap (λ k. event_report p k (Come b)) x_heard in
    hears_event (Come (a ++ b)) old new before after (y.prints ∙ x.prints)
    (y_heard ∙ ap (λ k. after_event k (Come b)) x_heard ∙ come_heard h a b fits)
    (y.text ∙ ap (λ t. middle ++ t) y_told ∙ ap (λ t. t ++ event_report p (after_event h (Come a)) (Come b)) x_text
    ∙ append_assoc before (event_report p h (Come a)) (event_report p (after_event h (Come a)) (Come b)) ∙ ap (λ t. before ++ t) (come_told p h a b fits))
    y.is_open

come_nothing : (h : Hearing) → decided false h.held ≡ None → after_event h (Come []) ≡ h
come_nothing h none =
    let same : h.held ++ [] ≡ h.held = append-nil h.held in
    let parts : items false (h.held ++ []) ≡ [] = ap (items false) same ∙ items_undecided false h.held none in
    ap (λ l. hearing (heard_items h.heard l) (left_over (h.held ++ []))) parts
    ∙ ap (λ l. hearing l (left_over (h.held ++ []))) (heard_in_turn.none h.heard)
    ∙ ap (hearing h.heard) (sym (left_is (h.held ++ [])) ∙ ap (λ l. drop (total_size l) (h.held ++ [])) parts ∙ same)

-- no bytes
pub come_none : (old : OpenLine) (text : List ℕ) → IsOpen old → Hears (Come [] ∷ []) old old text text
come_none old text is_open =
    let h = hearing_of old in
    hears_event (Come []) old old text text refl (sym (come_nothing h is_open.none))
    (sym (append-nil text) ∙ ap (λ t. text ++ t) (sym (ap (items_report (line_detail old) h.heard) (ap (items false) (append-nil h.held) ∙ items_undecided false h.held is_open.none)
    ∙ (reported_in_turn (line_detail old)).none h.heard)))
    is_open

-- ---- events, one after the other

events_in_turn : GoesOneByOne after_event after_events
unfolding after_all
events_in_turn = record { none = λ h. refl; more = λ h event events. refl }

pub after_events-append : (h : Hearing) (xs ys : List LineEvent) → after_events h (xs ++ ys) ≡ after_events (after_events h xs) ys
after_events-append = goes-append after_event after_events events_in_turn

event_reports_in_turn : (detail : Detail) → TellsOneByOne after_event (event_report detail) (events_report detail)
unfolding report_of_all
event_reports_in_turn detail = record { none = λ h. refl; more = λ h event events. refl }

pub events_report-append : (detail : Detail) (h : Hearing) (xs ys : List LineEvent)
    → events_report detail h (xs ++ ys) ≡ events_report detail h xs ++ events_report detail (after_events h xs) ys
events_report-append detail =
    tells-append after_event after_events (event_report detail) (events_report detail) events_in_turn (event_reports_in_turn detail)

pub hears_nothing : (l : OpenLine) (text : List ℕ) → IsOpen l → Hears [] l l text text
unfolding after_all report_of_all
hears_nothing l text is_open = record { prints = refl; heard = refl; text = sym (append-nil text); is_open = is_open }

pub hears_then : (xs ys : List LineEvent) (old mid new : OpenLine) (before middle after : List ℕ) → Hears xs old mid before middle
    → Hears ys mid new middle after → Hears (xs ++ ys) old new before after
hears_then xs ys old mid new before middle after a b =
    let h = hearing_of old in
    let p = line_detail old in
    let told : events_report (line_detail mid) (hearing_of mid) ys ≡ events_report p (after_events h xs) ys =
    ap (λ q. events_report q (hearing_of mid) ys) a.prints ∙ ap (λ k. events_report p k ys) a.heard in
    record {
      prints = b.prints ∙ a.prints;
      heard = b.heard ∙ ap (λ k. after_events k ys) a.heard ∙ sym (after_events-append h xs ys);
      text = b.text ∙ ap (λ t. middle ++ t) told ∙ ap (λ t. t ++ events_report p (after_events h xs) ys) a.text
          ∙ append_assoc before (events_report p h xs) (events_report p (after_events h xs) ys) ∙ ap (λ t. before ++ t) (sym (events_report-append p h xs ys));
      is_open = b.is_open;
    }

-- the table
pub table_told : (l : OpenLine) (before after : List ℕ) → IsOpen l → after ≡ before ++ table (listening_of l.listener) → Hears (TableDue ∷ []) l l before after
table_told l before after is_open text = hears_event TableDue l l before after refl refl text is_open

-- .. has been told
pub after_table_is : (old : OpenLine) (new : Listener) (text : List ℕ) → IsOpen old → detail_of new ≡ detail_of old.listener
    → listening_of new ≡ after_table (listening_of old.listener) → Hears (TableTold ∷ []) old (record old { listener = new }) text text
after_table_is old new text is_open tells heard =
    hears_event TableTold old (record old { listener = new }) text text tells (ap (λ l. hearing l old.framer.bytes) heard) (sym (append-nil text))
    (record { bytes = is_open.bytes; goes_on = is_open.goes_on; none = is_open.none })

-- a whole run, where none was held
pub run_heard : (run : List ℕ) (old new : OpenLine) (before after : List ℕ) → old.framer.bytes ≡ [] → new.framer ≡ old.framer → IsOpen old
    → detail_of new.listener ≡ detail_of old.listener → listening_of new.listener ≡ ended (heard_items (listening_of old.listener) (items true run))
    → after ≡ before ++ items_report (detail_of old.listener) (listening_of old.listener) (items true run) → Hears (RunEnds run ∷ []) old new before after
run_heard run old new before after none same is_open tells heard text =
    let whole : old.framer.bytes ++ run ≡ run = ap (λ l. l ++ run) none in
    hears_event (RunEnds run) old new before after tells
    (ap (λ l. hearing l new.framer.bytes) (heard ∙ ap (λ l. ended (heard_items (listening_of old.listener) (items true l))) (sym whole))
    ∙ ap (hearing (ended (heard_items (listening_of old.listener) (items true (old.framer.bytes ++ run))))) (ap (λ (h : Held). h.bytes) same ∙ none))
    (text ∙ ap (λ l. before ++ items_report (detail_of old.listener) (listening_of old.listener) (items true l)) (sym whole))
    (open_same is_open)
  where
    open_same : IsOpen old → IsOpen new
    open_same o = record {
      bytes = subst (λ (h : Held). AreBytes h.bytes) (sym same) o.bytes;
      goes_on = ap (λ (h : Held). h.ended) same ∙ o.goes_on;
      none = ap (λ (h : Held). decided false h.bytes) same ∙ o.none;
    }

-- ---- the end of a run

-- nothing is left of it
all_taken : (bytes : List ℕ) → AreBytes bytes → drop (total_size (items true bytes)) bytes ≡ []
all_taken bytes fits = drop_all (total_size (items true bytes)) bytes (omega (arith, sizes_reading bytes (items true bytes) (is_reading bytes fits)))

pub ended_heard : (old new : OpenLine) (gapped : Held) (mid : Listener) (before after : List ℕ) → IsOpen old
    → gapped ≡ record { bytes = old.framer.bytes; ended = not (length old.framer.bytes == 0) } → Drained gapped new.framer old.listener mid before after
    → detail_of new.listener ≡ detail_of mid → listening_of new.listener ≡ ended (listening_of mid) → Hears (RunEnds [] ∷ []) old new before after
ended_heard old new gapped mid before after is_open is d tells heard =
    let held = old.framer.bytes in
    let whole : held ++ [] ≡ held = append-nil held in
    let parts : items gapped.ended gapped.bytes ≡ items true held = ap (λ (h : Held). items h.ended h.bytes) is ∙ gap_items held in
    let hears : HearsItems (items true held) old.listener mid before after = subst (λ l. HearsItems l old.listener mid before after) parts d.hears in
    let left : new.framer.bytes ≡ [] =
    d.left ∙ ap (λ l. drop (total_size l) gapped.bytes) parts ∙ ap (λ (h : Held). drop (total_size (items true held)) h.bytes) is ∙ all_taken held is_open.bytes in
    hears_event (RunEnds []) old new before after (tells ∙ hears.tells)
    (ap (λ l. hearing l new.framer.bytes) (heard ∙ ap ended hears.heard ∙ ap (λ l. ended (heard_items (listening_of old.listener) (items true l))) (sym whole))
    ∙ ap (hearing (ended (heard_items (listening_of old.listener) (items true (held ++ []))))) left)
    (hears.text ∙ ap (λ l. before ++ items_report (detail_of old.listener) (listening_of old.listener) (items true l)) (sym whole))
    (record { bytes = d.bytes; goes_on = d.goes_on; none = d.none })

-- ---- pieces of a piece

pub pushed_is : (held : Held) (given : List ℕ) (count : ℕ) → count ≡ taken_count held given → held.ended ≡ false
    → after_push held given ≡ record { bytes = held.bytes ++ take count given; ended = false }
pushed_is held given count is goes_on =
    ap (λ (e : Bool). record { bytes = held.bytes ++ take (taken_count held given) given; ended = e }) goes_on
    ∙ ap (λ (n : ℕ). record { bytes = held.bytes ++ take n given; ended = false }) (sym is)

pub come_after : (bytes : List ℕ) (at n m : ℕ) (old mid new : OpenLine) (before middle after : List ℕ) → n ≤ length (take m (drop at bytes)) → AreBytes bytes → IsOpen old
    → Hears (Come (take at bytes) ∷ []) old mid before middle → Hears (Come (take n (take m (drop at bytes))) ∷ []) mid new middle after
    → Hears (Come (take (at + n) bytes) ∷ []) old new before after
come_after bytes at n m old mid new before middle after there fits is_open x y =
    subst (λ l. Hears (Come l ∷ []) old new before after) (sym (take-add at n bytes))
    (come_more (take at bytes) (take n (drop at bytes)) old mid new before middle after (AreBytes-take at bytes fits) (AreBytes-take n (drop at bytes) (AreBytes-drop at bytes fits)) is_open x
    (subst (λ l. Hears (Come l ∷ []) mid new middle after) (take-take n m (drop at bytes) (omega (arith, there, length-take m (drop at bytes)))) y))

-- ---- what is counted, with five for each byte held

size_left : (bytes : List ℕ) → AreBytes bytes → total_size (items false bytes) + length (left_over bytes) ≡ length bytes
size_left bytes fits =
    let split = ap total_size (reading_split bytes fits) in
    let all = sizes_reading bytes (items true bytes) (is_reading bytes fits) in
    let left = ap length (left_is bytes) in
    omega (arith, total_size-append (items false bytes) (items true (left_over bytes)), length-drop (total_size (items false bytes)) bytes)

load_come : (h : Hearing) (bytes : List ℕ) → AreBytes (h.held ++ bytes) → load (after_event h (Come bytes)) ≤ load h + 5 * length bytes
load_come h bytes fits =
    omega (arith, counted_items h.heard (items false (h.held ++ bytes)), size_left (h.held ++ bytes) fits, length-append h.held bytes)

pub load_came : (bytes : List ℕ) (old new : OpenLine) (before after : List ℕ) → AreBytes bytes → IsOpen old → Hears (Come bytes ∷ []) old new before after
    → load (hearing_of new) ≤ load (hearing_of old) + 5 * length bytes
load_came bytes old new before after fits is_open h =
    let is : load (hearing_of new) ≡ load (after_event (hearing_of old) (Come bytes)) = ap load (h.heard ∙ one_heard (hearing_of old) (Come bytes)) in
    omega (arith, load_come (hearing_of old) bytes (AreBytes-append old.framer.bytes bytes is_open.bytes fits))

-- of bytes that come after others
pub load_more : (bytes : List ℕ) (at : ℕ) (old mid : OpenLine) (before middle : List ℕ) → at ≤ length bytes → AreBytes bytes → IsOpen old
    → Hears (Come (take at bytes) ∷ []) old mid before middle
    → load (hearing_of mid) + 5 * length (take (length bytes - at) (drop at bytes)) ≤ load (hearing_of old) + 5 * length bytes
load_more bytes at old mid before middle within fits is_open h =
    omega (arith, load_came (take at bytes) old mid before middle (AreBytes-take at bytes fits) is_open h, length-take at bytes, length-take (length bytes - at) (drop at bytes), length-drop at bytes)

pub load_gapped : (old : OpenLine) (gapped now : Held) (mid : Listener) (before after : List ℕ) → IsOpen old
    → gapped ≡ record { bytes = old.framer.bytes; ended = not (length old.framer.bytes == 0) } → Drained gapped now old.listener mid before after
    → counted mid.tally ≤ load (hearing_of old)
load_gapped old gapped now mid before after is_open is d =
    let held = old.framer.bytes in
    let tally : counted mid.tally ≡ counted (heard_items (listening_of old.listener) (items gapped.ended gapped.bytes)).tally = ap (λ (l : Listening). counted l.tally) d.hears.heard in
    let all : total_size (items gapped.ended gapped.bytes) ≡ length held =
    ap (λ (h : Held). total_size (items h.ended h.bytes)) is ∙ ap total_size (gap_items held) ∙ sizes_reading held (items true held) (is_reading held is_open.bytes) in
    omega (arith, counted_items (listening_of old.listener) (items gapped.ended gapped.bytes))

load_end : (h : Hearing) (bytes : List ℕ) → AreBytes (h.held ++ bytes) → load (after_event h (RunEnds bytes)) ≤ load h + 5 * length bytes
load_end h bytes fits =
    let parts = items true (h.held ++ bytes) in
    omega (
      arith,
      counted-after_run (heard_items h.heard parts).tally,
      counted_items h.heard parts,
      sizes_reading (h.held ++ bytes) parts (is_reading (h.held ++ bytes) fits),
      length-append h.held bytes,
    )

pub load_ended : (bytes : List ℕ) (old new : OpenLine) (before after : List ℕ) → AreBytes bytes → IsOpen old → Hears (RunEnds bytes ∷ []) old new before after
    → load (hearing_of new) ≤ load (hearing_of old) + 5 * length bytes
load_ended bytes old new before after fits is_open h =
    let is : load (hearing_of new) ≡ load (after_event (hearing_of old) (RunEnds bytes)) = ap load (h.heard ∙ one_heard (hearing_of old) (RunEnds bytes)) in
    omega (arith, load_end (hearing_of old) bytes (AreBytes-append old.framer.bytes bytes is_open.bytes fits))
