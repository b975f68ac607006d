-- What counts come to while a line goes on: none grows less.
use Rattle.osdp_tool_monitor_laws.proofs.Common.{◌≡◌, ◌≤◌, ◌<◌, ◌+◌, ◌-◌, ℕ, Bool, true, false, cond, cond-true, is_ghost, ◌&&◌, ◌||◌, not, eqb, ltb, List, [], ◌∷◌, ◌++◌, length, get_or, Option, Some, refl, sym, subst, ap, ◌∙◌, arith, cond_both, RunItem, PacketItem, SkippedItem, RefusedItem, Packet, Found, copies_last, Tally, after_run, Counts, after_damage, after_packet, more_if, no_counts, table_of, Listening, after_table, ended, heard_item, heard_items, tabled_now, told_in, after_bad, hit_by, is_clean, diagnoses_text, Entry, accused, answered, brought, busy, judged, moved, opened, polled, refused, repeated, sent}
use Rattle.std.specs.Prelude.{◌^◌}
use Rattle.std.proofs.lemmas.Bool.{and_from, and_parts, eq-eqb, eqb-true}
use Rattle.osdp_frame.specs.Items.{items}
use Rattle.osdp_tool_monitor.specs.Hearing.{Come, Hearing, LineEvent, RunEnds, TableDue, TableTold, after_event, after_events}
use Rattle.osdp_tool_monitor.specs.InTurn.{after_all}
use Rattle.osdp_tool_monitor.specs.Windows.{Tabled, since, window_row, window_text}
use Rattle.osdp_tool_monitor_laws.proofs.Counting.{accused_step, answered_step, asked_step, busy_step, damaged, events_step, forgot_step, judged_step, kept_long, long_after, moved_step, nak_step, opened_step, polls_step, repeats_step, taken}
use Rattle.osdp_tool_monitor_laws.specs.Windows.{AddUp, IsQuiet, LinesAddUp, NoTableTold, Prints, RowsAddUp, TablesAddUp, TellsWindows, in_table}
use Rattle.osdp_tool_monitor.specs.Counts.{is_silent}

more_is_more : (test : Bool) (n : ℕ) → n ≤ more_if test n
more_is_more test n = cond_both (test && ltb n (2 ^ 64 - 1)) (n + 1) n (λ m. n ≤ m) (λ _. omega arith) (λ _. omega arith)

same_is_more : (n m : ℕ) → m ≡ n → n ≤ m
same_is_more n m is = omega (arith, is)

-- ---- what never grows less

module _ (P : Listening → Type 0) (f : Listening → ℕ)
    (item : (l : Listening) (part : RunItem) → P l → P (heard_item l part) × (f l ≤ f (heard_item l part)))
    (end : (l : Listening) → P l → P (ended l) × (f l ≤ f (ended l)))
    (told : (l : Listening) → P l → P (after_table l) × (f l ≤ f (after_table l))) where
  items_grow : (parts : List RunItem) (l : Listening) → P l → P (heard_items l parts) × (f l ≤ f (heard_items l parts))
  unfolding after_all
  items_grow [] l is = (is, omega arith)
  items_grow (part ∷ parts) l is =
      let first = item l part is in
      let rest = items_grow parts (heard_item l part) first.0 in
      (rest.0, omega (arith, first.1, rest.1))

  event_grows : (event : LineEvent) (h : Hearing) → P h.heard → P (after_event h event).heard × (f h.heard ≤ f (after_event h event).heard)
  event_grows (Come bytes) h is = items_grow (items false (h.held ++ bytes)) h.heard is
  event_grows (RunEnds bytes) h is =
      let first = items_grow (items true (h.held ++ bytes)) h.heard is in
      let last = end (heard_items h.heard (items true (h.held ++ bytes))) first.0 in
      (last.0, omega (arith, first.1, last.1))
  event_grows TableDue h is = (is, omega arith)
  event_grows TableTold h is = told h.heard is

  events_grow : (events : List LineEvent) (h : Hearing) → P h.heard → P (after_events h events).heard × (f h.heard ≤ f (after_events h events).heard)
  unfolding after_all
  events_grow [] h is = (is, omega arith)
  events_grow (event ∷ events) h is =
      let first = event_grows event h is in
      let rest = events_grow events (after_event h event) first.0 in
      (rest.0, omega (arith, first.1, rest.1))

  adds_up : (events : List LineEvent) (h : Hearing) → P h.heard → f h.heard + (f (after_events h events).heard - f h.heard) ≡ f (after_events h events).heard
  adds_up events h is = let grows = (events_grow events h is).1 in omega (arith, grows)

-- ---- a column of a row

module _ (f : Counts → ℕ) (adds : Entry → Counts → Bool) (a : ℕ)
    (packet : (p : Packet) (clean copy : Bool) (found : Found) (c : Counts)
    → f (after_packet p clean copy found c) ≡ more_if (adds (record { packet = p; copy = copy; found = found }) c) (f c))
    (damage : (c : Counts) → f (after_damage c) ≡ f c) where
  abbrev Within : Listening → Type 0
  Within l = a < length l.counts

  abbrev column : Listening → ℕ
  column l = f (get_or l.counts a no_counts)

  item_grows : (l : Listening) (part : RunItem) → Within l → Within (heard_item l part) × (column l ≤ column (heard_item l part))
  item_grows l (PacketItem p) within = (
    long_after a l p within,
    subst (λ n. column l ≤ n) (sym (taken f adds a packet damage p (is_clean l.trail.bad) (copies_last l.knowledge p) (told_in l p) l.counts within)) (more_is_more _ (column l)),
  )
  item_grows l (SkippedItem b) within =
      let o = hit_by l.trail (after_bad l.trail.bad) in
      (kept_long o l.counts within, same_is_more (column l) _ (damaged f adds a packet damage o l.counts within))
  item_grows l (RefusedItem fault) within =
      let o = hit_by l.trail 7 in
      (kept_long o l.counts within, same_is_more (column l) _ (damaged f adds a packet damage o l.counts within))

  column_adds_up : (h : Hearing) (events : List LineEvent) → Within h.heard
      → column h.heard + (column (after_events h events).heard - column h.heard) ≡ column (after_events h events).heard
  column_adds_up h events within =
      adds_up Within column item_grows (λ l is. (is, omega arith)) (λ l is. (is, omega arith)) events h within

pub rows_add_up : RowsAddUp
rows_add_up h events a within = record {
  asked = column_adds_up (λ c. c.asked) (λ e _. sent e) a asked_step (λ c. refl) h events within;
  polls = column_adds_up (λ c. c.polls) (λ e _. polled e) a polls_step (λ c. refl) h events within;
  repeats = column_adds_up (λ c. c.repeats) (λ e _. repeated e) a repeats_step (λ c. refl) h events within;
  answered = column_adds_up (λ c. c.answered) (λ e _. answered e) a answered_step (λ c. refl) h events within;
  busy = column_adds_up (λ c. c.busy) (λ e _. busy e) a busy_step (λ c. refl) h events within;
  nak = column_adds_up (λ c. c.nak) (λ e _. refused e) a nak_step (λ c. refl) h events within;
  events = column_adds_up (λ c. c.events) (λ e _. brought e) a events_step (λ c. refl) h events within;
  opened = column_adds_up (λ c. c.opened) (λ e _. opened e) a opened_step (λ c. refl) h events within;
  moved = column_adds_up (λ c. c.moved) (λ e _. moved e) a moved_step (λ c. refl) h events within;
  judged = column_adds_up (λ c. c.judged) (λ e _. judged e) a judged_step (λ c. refl) h events within;
  forgot = column_adds_up (λ c. c.forgot) (λ e c. not e.packet.reply && (not e.found.judged && not (eqb c.asked 0))) a forgot_step (λ c. refl) h events within;
  accused = column_adds_up (λ c. c.accused) (λ e _. accused e) a accused_step (λ c. refl) h events within;
}

-- ---- what the tables tell

or_last : (a b : Bool) → b ≡ true → (a || b) ≡ true
or_last true b e = refl
or_last false b e = e

or_none : (a b : Bool) → b ≡ false → (a || b) ≡ a
or_none true b e = refl
or_none false b e = e

all_of : (c : Counts) → AddUp no_counts (since no_counts c) c
all_of c = record {
  asked = omega arith;
  polls = omega arith;
  repeats = omega arith;
  answered = omega arith;
  busy = omega arith;
  nak = omega arith;
  events = omega arith;
  opened = omega arith;
  moved = omega arith;
  judged = omega arith;
  forgot = omega arith;
  accused = omega arith;
}

quiet_is_silent : (c : Counts) → IsQuiet c → is_silent c ≡ true
quiet_is_silent c is =
    let first = and_from (eqb c.asked 0) (eqb c.answered 0) (eq-eqb c.asked 0 is.0) (eq-eqb c.answered 0 is.1) in
    let second = and_from (eqb c.asked 0 && eqb c.answered 0) (eqb c.busy 0) first (eq-eqb c.busy 0 is.2) in
    and_from (eqb c.asked 0 && eqb c.answered 0 && eqb c.busy 0) (eqb c.nak 0) second (eq-eqb c.nak 0 is.3)

silent_is_quiet : (c : Counts) → is_silent c ≡ true → IsQuiet c
silent_is_quiet c is =
    let first = and_parts (eqb c.asked 0 && eqb c.answered 0 && eqb c.busy 0) (eqb c.nak 0) is in
    let second = and_parts (eqb c.asked 0 && eqb c.answered 0) (eqb c.busy 0) first.0 in
    let third = and_parts (eqb c.asked 0) (eqb c.answered 0) second.0 in
    (eqb-true c.asked 0 third.0, eqb-true c.answered 0 third.1, eqb-true c.busy 0 second.1, eqb-true c.nak 0 first.1)

-- a line is printed unless nothing came, where damage didn't make it
prints : (a : ℕ) (c : Counts) (ghost : Bool) → ghost ≡ false → Prints a c (cond (is_silent c || ghost) [] (window_row a c))
prints a c ghost is = record {
  none = λ quiet. ap (λ b. cond b [] (window_row a c)) (or_none (is_silent c) ghost is ∙ quiet_is_silent c quiet);
  line = λ loud. by_test (is_silent c) refl loud;
}
  where
    by_test : (b : Bool) → is_silent c ≡ b → (IsQuiet c → ⊥) → cond (is_silent c || ghost) [] (window_row a c) ≡ window_row a c
    by_test true silent loud = absurd (loud (silent_is_quiet c silent))
    by_test false silent loud = ap (λ b. cond b [] (window_row a c)) (or_none (is_silent c) ghost is ∙ silent)

pub tables_add_up : TablesAddUp
tables_add_up h events a within =
    let before = get_or h.heard.counts a no_counts in
    let now = get_or (after_events h events).heard.counts a no_counts in
    let came = since (in_table before) now in
    record {
      left_out = λ is. cond-true (is_silent before || is_ghost before) [] _ (or_last (is_silent before) (is_ghost before) is);
      came = came;
      window = λ is. prints a came (is_ghost now) is;
      adds = elim (is_ghost before) as (λ b. AddUp (cond b no_counts before) (since (cond b no_counts before) now) now)
          [ true ↦ all_of now | false ↦ rows_add_up h events a within ];
    }

-- ---- the line

abbrev Any : Listening → Type 0
Any l = Unit {0}

-- where the end of a run counts nothing
line_adds_up : (f : Listening → ℕ) → ((l : Listening) (part : RunItem) → f l ≤ f (heard_item l part)) → ((l : Listening) → f l ≤ f (ended l))
    → ((l : Listening) → f l ≤ f (after_table l)) → (h : Hearing) (events : List LineEvent)
    → f h.heard + (f (after_events h events).heard - f h.heard) ≡ f (after_events h events).heard
line_adds_up f item end told h events =
    adds_up Any f (λ l part _. (tt, item l part)) (λ l _. (tt, end l)) (λ l _. (tt, told l)) events h tt

run_counts : (t : Tally) → t.runs ≤ (after_run t).runs
run_counts t = cond_both (eqb t.place 0) t (record t { runs = t.runs + 1; place = 0 }) (λ (x : Tally). t.runs ≤ x.runs) (λ _. omega arith) (λ _. omega arith)

run_leaves : (f : Tally → ℕ) (t : Tally) → f (record t { runs = t.runs + 1; place = 0 }) ≡ f t → f t ≤ f (after_run t)
run_leaves f t same =
    cond_both (eqb t.place 0) t (record t { runs = t.runs + 1; place = 0 }) (λ (x : Tally). f t ≤ f x) (λ _. omega arith) (λ _. omega (arith, same))

runs_grow : (l : Listening) (part : RunItem) → l.tally.runs ≤ (heard_item l part).tally.runs
runs_grow l (PacketItem p) = omega arith
runs_grow l (SkippedItem b) = omega arith
runs_grow l (RefusedItem fault) = omega arith

packets_grow : (l : Listening) (part : RunItem) → l.tally.packets ≤ (heard_item l part).tally.packets
packets_grow l (PacketItem p) = omega arith
packets_grow l (SkippedItem b) = omega arith
packets_grow l (RefusedItem fault) = omega arith

skipped_grow : (l : Listening) (part : RunItem) → l.tally.skipped ≤ (heard_item l part).tally.skipped
skipped_grow l (PacketItem p) = omega arith
skipped_grow l (SkippedItem b) = omega arith
skipped_grow l (RefusedItem fault) = omega arith

refused_grow : (l : Listening) (part : RunItem) → l.tally.refused ≤ (heard_item l part).tally.refused
refused_grow l (PacketItem p) = omega arith
refused_grow l (SkippedItem b) = omega arith
refused_grow l (RefusedItem fault) = omega arith

judged_grow : (l : Listening) (part : RunItem) → l.judged ≤ (heard_item l part).judged
judged_grow l (PacketItem p) = more_is_more _ l.judged
judged_grow l (SkippedItem b) = omega arith
judged_grow l (RefusedItem fault) = omega arith

accused_grow : (l : Listening) (part : RunItem) → l.accused ≤ (heard_item l part).accused
accused_grow l (PacketItem p) = more_is_more _ l.accused
accused_grow l (SkippedItem b) = omega arith
accused_grow l (RefusedItem fault) = omega arith

pub lines_add_up : LinesAddUp
lines_add_up h events = (
  record {
    runs = line_adds_up (λ l. l.tally.runs) runs_grow (λ l. run_counts l.tally) (λ l. omega arith) h events;
    packets = line_adds_up (λ l. l.tally.packets) packets_grow (λ l. run_leaves (λ t. t.packets) l.tally refl) (λ l. omega arith) h events;
    skipped = line_adds_up (λ l. l.tally.skipped) skipped_grow (λ l. run_leaves (λ t. t.skipped) l.tally refl) (λ l. omega arith) h events;
    refused = line_adds_up (λ l. l.tally.refused) refused_grow (λ l. run_leaves (λ t. t.refused) l.tally refl) (λ l. omega arith) h events;
  },
  line_adds_up (λ l. l.judged) judged_grow (λ l. omega arith) (λ l. omega arith) h events,
  line_adds_up (λ l. l.accused) accused_grow (λ l. omega arith) (λ l. omega arith) h events,
)

-- ---- what the next table tells

items_keep : (parts : List RunItem) (l : Listening) → (heard_items l parts).tabled ≡ l.tabled
unfolding after_all
items_keep [] l = refl
items_keep (part ∷ parts) l = items_keep parts (heard_item l part)

events_keep : (events : List LineEvent) (h : Hearing) → NoTableTold events → (after_events h events).heard.tabled ≡ h.heard.tabled
unfolding after_all
events_keep [] h none = refl
events_keep (Come bytes ∷ events) h none =
    events_keep events (after_event h (Come bytes)) none.1 ∙ items_keep (items false (h.held ++ bytes)) h.heard
events_keep (RunEnds bytes ∷ events) h none =
    events_keep events (after_event h (RunEnds bytes)) none.1 ∙ items_keep (items true (h.held ++ bytes)) h.heard
events_keep (TableDue ∷ events) h none = events_keep events h none.1
events_keep (TableTold ∷ events) h none = absurd none.0

after_told : (h : Hearing) (events : List LineEvent) → after_events h (TableTold ∷ events) ≡ after_events (after_event h TableTold) events
unfolding after_all
after_told h events = refl

pub tells_windows : TellsWindows
tells_windows detail h events none =
    let now = after_events h (TableTold ∷ events) in
    let l = now.heard in
    let kept : l.tabled ≡ Some (tabled_now h.heard) =
    ap (λ (k : Hearing). k.heard.tabled) (after_told h events) ∙ events_keep events (after_event h TableTold) none in
    ap (λ (o : Option Tabled). window_text o l.tally l.counts l.judged l.accused ++ (table_of l.tally l.counts l.judged l.accused ++ diagnoses_text l.tally l.counts)) kept
