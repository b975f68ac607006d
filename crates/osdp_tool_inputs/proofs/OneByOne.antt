-- Lines of a capture in memory, one after the other, each a run.
use Rattle.osdp_tool_inputs.proofs.Common.{◌≡◌, ℕ, ◌+◌, ◌<◌, ◌≤◌, ◌==◌, Bool, true, false, cond, inl, inr, is_some, List, [], ◌∷◌, ◌++◌, ◌^◌, length, map, Option, Some, None, Result, Ok, Err, IfOk, OnOk, refl, sym, subst, ap, ◌∙◌, arith, append_assoc, append-nil, cases_Bool, cond-false, cond-true, eqb-true, length-append, map-append, line_bytes, bad_line-append, bad_line-stays, good_front-append, good_front-stays, run_events, Hearing, Hears, IsOpen, RunEnds, TableDue, after_event, after_events, event_report, events_report, hearing_of, line_detail, nothing_yet, heard_items, listening_of, table, MonitorMode, OpenLine, after_events-append, events_report-append, nothing_heard, HasHeard, HeardLines, all_echoes, echoes_in, left_in, left_of, HasFollowed, no_stamp, Ears, Rest}
use Rattle.osdp_frame.specs.Items.{items}
use Rattle.osdp_tool_show.specs.Tally.{after_run}
use Rattle.osdp_tool_show.specs.declared.detail.Detail.{Detail}
use Rattle.osdp_tool_show.specs.declared.tally.Tally.{Tally}
use Rattle.osdp_tool_streams.specs.Runs.{bad_line, good_front}
use Rattle.osdp_tool_monitor.specs.InTurn.{after_all, report_of_all}
use Rattle.osdp_tool_inputs.proofs.RunPlaces.{as_many, echoes_size, left_size, stamps_short}

-- ---- runs that have ended

-- nothing of a run stands there
pub record Settled (h : Hearing) : Type 0 where
  pub held : h.held ≡ []
  pub place : h.heard.tally.place ≡ 0

no_place : (t : Tally) → (after_run t).place ≡ 0
no_place t =
    elim (cases_Bool (t.place == 0)) [
      | inl h ↦ ap (λ (r : Tally). r.place) (cond-true (t.place == 0) t (record t { runs = t.runs + 1; place = 0 }) h) ∙ eqb-true t.place 0 h
      | inr h ↦ ap (λ (r : Tally). r.place) (cond-false (t.place == 0) t (record t { runs = t.runs + 1; place = 0 }) h)
    ]

settled_all : (h : Hearing) (runs : List (List ℕ)) → Settled h → Settled (after_events h (map RunEnds runs))
unfolding after_all
settled_all h [] s = s
settled_all h (run ∷ runs) s =
    settled_all (after_event h (RunEnds run)) runs (record { held = refl; place = no_place (heard_items h.heard (items true (h.held ++ run))).tally })

pub settled_lines : (standard : Bool) (lines : List (List ℕ)) → Settled (after_events (nothing_yet standard) (run_events lines))
settled_lines standard lines = settled_all (nothing_yet standard) (good_front lines) (record { held = refl; place = refl })

-- a run without bytes changes nothing
same_tally : (t : Tally) → t.place ≡ 0 → after_run t ≡ t
same_tally t none = ap (λ n. cond (n == 0) t (record t { runs = t.runs + 1; place = 0 })) none

abbrev hearing_with : Hearing → List ℕ → Tally → Hearing
hearing_with h held tally = record { heard = record h.heard { tally = tally }; held = held }

empty_after : (h : Hearing) → Settled h → after_event h (RunEnds []) ≡ h
unfolding items after_all
empty_after h s =
    ap (λ (l : List ℕ). after_event (record h { held = l }) (RunEnds [])) s.held
    ∙ ap (hearing_with h []) (same_tally h.heard.tally s.place) ∙ ap (λ l. hearing_with h l h.heard.tally) (sym s.held)

empty_report : (detail : Detail) (h : Hearing) → Settled h → event_report detail h (RunEnds []) ≡ []
unfolding items report_of_all
empty_report detail h s = ap (λ (l : List ℕ). event_report detail (record h { held = l }) (RunEnds [])) s.held

-- ---- one line more

one_good : (line bytes : List ℕ) → line_bytes line ≡ Some bytes → run_events (line ∷ []) ≡ RunEnds bytes ∷ []
unfolding good_front
one_good line bytes is = rw is refl

one_none : (line : List ℕ) → line_bytes line ≡ None → run_events (line ∷ []) ≡ []
unfolding good_front
one_none line is = rw is refl

bad_one : (number : ℕ) (line : List ℕ) → line_bytes line ≡ None → bad_line number (line ∷ []) ≡ Some number
unfolding bad_line
bad_one number line is = rw is refl

good_one : (number : ℕ) (line bytes : List ℕ) → line_bytes line ≡ Some bytes → bad_line number (line ∷ []) ≡ None
unfolding bad_line
good_one number line bytes is = rw is refl

pub runs_more : (lines more : List (List ℕ)) → bad_line 1 lines ≡ None → run_events (lines ++ more) ≡ run_events lines ++ run_events more
runs_more lines more good = ap (map RunEnds) (good_front-append 1 lines more good) ∙ map-append RunEnds (good_front lines) (good_front more)

module _ (mode : MonitorMode) (lines : List (List ℕ)) (line : List ℕ) (old new : OpenLine) (before after : List ℕ) (bad : Option ℕ) (h : HeardLines mode lines old before bad) where
  -- after a bad line nothing is heard
  pub heard_nothing : (number : ℕ) → bad ≡ Some number → HeardLines mode (lines ++ line ∷ []) old before bad
  heard_nothing number is =
      let stays : run_events (lines ++ line ∷ []) ≡ run_events lines = ap (map RunEnds) (good_front-stays 1 number lines (line ∷ []) (sym h.bad_is ∙ is)) in
      record {
        prints = h.prints;
        heard = h.heard ∙ ap (after_events (nothing_yet mode.standard)) (sym stays);
        told = h.told ∙ ap (events_report mode.detail (nothing_yet mode.standard)) (sym stays);
        is_open = h.is_open;
        bad_is = is ∙ sym (bad_line-stays 1 number lines (line ∷ []) (sym h.bad_is ∙ is));
      }

  -- a bad one comes
  pub heard_bad : (number : ℕ) → bad ≡ None → number ≡ length lines + 1 → line_bytes line ≡ None → HeardLines mode (lines ++ line ∷ []) old before (Some number)
  heard_bad number good at is =
      let none = sym h.bad_is ∙ good in
      let same : run_events (lines ++ line ∷ []) ≡ run_events lines =
      runs_more lines (line ∷ []) none ∙ ap (λ l. run_events lines ++ l) (one_none line is) ∙ append-nil (run_events lines) in
      record {
        prints = h.prints;
        heard = h.heard ∙ ap (after_events (nothing_yet mode.standard)) (sym same);
        told = h.told ∙ ap (events_report mode.detail (nothing_yet mode.standard)) (sym same);
        is_open = h.is_open;
        bad_is = sym (bad_line-append 1 lines (line ∷ []) none ∙ bad_one (1 + length lines) line is ∙ ap Some (omega arith));
      }

  -- what a line says was heard
  heard_more : (run : List ℕ) → bad ≡ None → line_bytes line ≡ Some run → Hears (RunEnds run ∷ []) old new before after
      → HeardLines mode (lines ++ line ∷ []) new after bad
  heard_more run good is hears =
      let none = sym h.bad_is ∙ good in
      let start = nothing_yet mode.standard in
      let more : run_events (lines ++ line ∷ []) ≡ run_events lines ++ RunEnds run ∷ [] = runs_more lines (line ∷ []) none ∙ ap (λ l. run_events lines ++ l) (one_good line run is) in
      record {
        prints = hears.prints ∙ h.prints;
        heard = hears.heard ∙ ap (λ k. after_events k (RunEnds run ∷ [])) h.heard ∙ sym (ap (after_events start) more ∙ after_events-append start (run_events lines) (RunEnds run ∷ []));
        told = hears.text ∙ ap (λ t. t ++ events_report (line_detail old) (hearing_of old) (RunEnds run ∷ [])) h.told
            ∙ ap (λ d. events_report mode.detail start (run_events lines) ++ events_report d (hearing_of old) (RunEnds run ∷ [])) h.prints
            ∙ ap (λ k. events_report mode.detail start (run_events lines) ++ events_report mode.detail k (RunEnds run ∷ [])) h.heard
            ∙ sym (ap (events_report mode.detail start) more ∙ events_report-append mode.detail start (run_events lines) (RunEnds run ∷ []));
        is_open = hears.is_open;
        bad_is = good ∙ sym (bad_line-append 1 lines (line ∷ []) none ∙ good_one (1 + length lines) line run is);
      }

  pub heard_run : (run : List ℕ) → bad ≡ None → line_bytes line ≡ Some run → Hears (RunEnds run ∷ []) old new before after
      → HeardLines mode (lines ++ line ∷ []) new after bad
  heard_run = heard_more

-- nothing is said by it
pub heard_empty : (mode : MonitorMode) (lines : List (List ℕ)) (line run : List ℕ) (l : OpenLine) (text : List ℕ) (bad : Option ℕ) → HeardLines mode lines l text bad
    → bad ≡ None → line_bytes line ≡ Some run → run ≡ [] → HeardLines mode (lines ++ line ∷ []) l text bad
unfolding after_all report_of_all
heard_empty mode lines line run l text bad h good is none =
    let settled : Settled (hearing_of l) = subst Settled (sym h.heard) (settled_lines mode.standard lines) in
    heard_run mode lines line l l text text bad h [] good (is ∙ ap Some none) (record {
      prints = refl;
      heard = sym (empty_after (hearing_of l) settled);
      text = sym (append-nil text) ∙ ap (λ t. text ++ t) (sym (append-nil (event_report (line_detail l) (hearing_of l) (RunEnds [])) ∙ empty_report (line_detail l) (hearing_of l) settled));
      is_open = h.is_open;
    })

-- no byte is held
pub holds_none : (mode : MonitorMode) (lines : List (List ℕ)) (l : OpenLine) (text : List ℕ) (bad : Option ℕ) → HeardLines mode lines l text bad → l.framer.bytes ≡ []
holds_none mode lines l text bad h = ap (λ (k : Hearing). k.held) h.heard ∙ (settled_lines mode.standard lines).held

-- a bad line stands above
pub heard_past : (mode : MonitorMode) (lines : List (List ℕ)) (line : List ℕ) (l : OpenLine) (text : List ℕ) (bad : Option ℕ) → is_some bad ≡ true
    → HeardLines mode lines l text bad → HeardLines mode (lines ++ line ∷ []) l text bad
heard_past mode lines line l text None is h = absurd cc
heard_past mode lines line l text (Some number) is h = heard_nothing mode lines line l l text text (Some number) h number refl

pub none_of : (bad : Option ℕ) → is_some bad ≡ false → bad ≡ None
none_of None is = refl
none_of (Some number) is = absurd cc

-- before any line
pub heard_none : (mode : MonitorMode) (l : OpenLine) (text : List ℕ) → line_detail l ≡ mode.detail → hearing_of l ≡ nothing_yet mode.standard → IsOpen l → text ≡ []
    → HeardLines mode [] l text None
unfolding good_front bad_line after_all report_of_all
heard_none mode l text prints heard is_open none = record { prints = prints; heard = heard; told = none; is_open = is_open; bad_is = refl }

-- ---- a text, line by line

-- these lines were heard, and the rest is to come
pub record IsHearing (mode : MonitorMode) (text : List ℕ) (number : ℕ) (e : Ears) (rest : Rest) : Type 0 where
  pub front : List (List ℕ)
  pub whole : front ++ left_in rest ≡ left_of text
  pub heard : HasHeard mode front e
  pub followed : HasFollowed front e.capture
  pub number_is : number ≡ length front + 1
  pub echoes : all_echoes rest ≡ echoes_in text

module _ (mode : MonitorMode) (text : List ℕ) (number : ℕ) (old : Ears) (was : Rest) (hearing : IsHearing mode text number old was) where
  -- there is room for their numbers, and for those of runs
  pub hearing_room : (line : List ℕ) (rest : List (List ℕ)) → left_in was ≡ line ∷ rest → (number ≤ length text) × (old.capture.runs < length text)
  hearing_room line rest is =
      let size = length-append hearing.front (left_in was) in
      let some : length (left_in was) ≡ length (line ∷ rest) = ap length is in
      let all = ap length hearing.whole in
      let short = left_size text in
      let runs = as_many nothing_heard no_stamp hearing.front in
      let few = stamps_short no_stamp hearing.front in
      (omega (arith, size, some, all, short, hearing.number_is), omega (arith, size, some, all, short, hearing.followed.runs, runs, few))

  pub hearing_echoes : length text < 2 ^ 64 → all_echoes was < 2 ^ 64
  hearing_echoes short = omega (arith, hearing.echoes, echoes_size text, short)

  pub hearing_more : (new : Ears) (now : Rest) (line : List ℕ) → left_in was ≡ line ∷ left_in now → all_echoes now ≡ all_echoes was
      → (HasHeard mode hearing.front old → number ≡ length hearing.front + 1 → HasHeard mode (hearing.front ++ line ∷ []) new)
      → (HasFollowed hearing.front old.capture → HasFollowed (hearing.front ++ line ∷ []) new.capture) → IsHearing mode text (number + 1) new now
  hearing_more new now line taken echoes heard followed = record {
    front = hearing.front ++ line ∷ [];
    whole = append_assoc hearing.front (line ∷ []) (left_in now) ∙ ap (λ l. hearing.front ++ l) (sym taken) ∙ hearing.whole;
    heard = heard hearing.heard hearing.number_is;
    followed = followed hearing.followed;
    number_is = let size = length-append hearing.front (line ∷ []) in omega (arith, size, hearing.number_is);
    echoes = echoes ∙ hearing.echoes;
  }

  all_heard : left_in was ≡ [] → hearing.front ≡ left_of text
  all_heard none = sym (append-nil hearing.front) ∙ ap (λ l. hearing.front ++ l) (sym none) ∙ hearing.whole

  pub hearing_end : left_in was ≡ [] → HasHeard mode (left_of text) old
  hearing_end none = subst (λ l. HasHeard mode l old) (all_heard none) hearing.heard

  pub followed_end : left_in was ≡ [] → HasFollowed (left_of text) old.capture
  followed_end none = subst (λ l. HasFollowed l old.capture) (all_heard none) hearing.followed

pub hearing_first : (mode : MonitorMode) (text : List ℕ) (e : Ears) (rest : Rest) → left_in rest ≡ left_of text → all_echoes rest ≡ echoes_in text → HasHeard mode [] e
    → HasFollowed [] e.capture → IsHearing mode text 1 e rest
hearing_first mode text e rest left echoes heard followed =
    record { front = []; whole = left; heard = heard; followed = followed; number_is = refl; echoes = echoes }

-- the table
pub table_text : (l : OpenLine) (before after : List ℕ) → Hears (TableDue ∷ []) l l before after → after ≡ before ++ table (listening_of l.listener)
unfolding report_of_all
table_text l before after h = h.text ∙ ap (λ t. before ++ t) (append-nil (table (listening_of l.listener)))

-- what comes of an answer
pub on_each : {T E A B : Type 0} (r : Result T E) → (A → B) → OnOk r A → OnOk r B
on_each (Ok x) f a = f a
on_each (Err e) f a = tt

pub if_each : {T E : Type 0} {P Q : T → Type 0} (r : Result T E) → ((x : T) → P x → Q x) → IfOk r P → IfOk r Q
if_each (Ok x) f p = f x p
if_each (Err e) f p = tt
