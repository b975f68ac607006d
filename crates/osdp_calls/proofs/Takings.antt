-- What a panel's program takes of an entry's events, each with its mark, is what was told of the entry, and that is marked where it is told again.
use Rattle.osdp_calls.proofs.Common.{◌≡◌, ◌≢◌, ◌⊎◌, ℕ, Bool, true, false, cond, List, [], ◌∷◌, ◌++◌, map, not, ◌&&◌, Option, Some, None, refl, sym, subst, ap, ◌∙◌, inl, inr, append-nil, append_assoc, eqb_tells, ◌==◌, option_to_list, Command, Event, Report, BusState, device_of, is_told_maybe_again, new_bus, bytes_eq, event_bytes, Remembered, may_be_again, memory_at, nothing_yet, remembers, IsBusConfig, BusConfig, Entry, TellsEachOnce, taken_along, told_along, told_in, each_of, is_false, is_true, Each, Answer, site_at, Call, OfPanel, Step, after_call, after_calls, KeepsPanel, one_panel_call, panel_calls, InUse, Station, bus_with, CallsMarkRepeats, MarksWhatIsToldAgain, all_handed, event_of, event_waiting, events_of, events_told, handed_in, is_told_again, marked, sessions_of, NoneRefused}
use Rattle.osdp_controller.specs.declared.report.Report.TheVariants as report
use Rattle.std.proofs.lemmas.Slice.Eq.{bytes_eq-Decides}
use Rattle.osdp_bus_laws.specs.Calls as bus
use Rattle.osdp_bus_laws.specs.Repeating.{of_entry}
use Rattle.osdp_bus_laws.specs.Reports as reports
use Rattle.osdp_bus_laws.proofs.Repeating.{IsRemembered, along, none_at, recalls}
use Rattle.osdp_calls.specs.Told.{reports_of, told_by}
use Rattle.osdp_calls.proofs.Ends.{more_calls, one_bus}
use Rattle.osdp_calls.proofs.Heeding.{new_at}
use Rattle.osdp_calls.proofs.Marked.{Line, step_tells}
use Rattle.osdp_calls.proofs.Marking.{Agrees, Told, all_also, next, those, those_then}
use Rattle.osdp_calls.proofs.Sayings.{adds_make_the_bus}

-- ---- which marks these are

same_bytes : (e : Event) → bytes_eq (event_bytes e) (event_bytes e) ≡ true
same_bytes e = (bytes_eq-Decides (event_bytes e) (event_bytes e)).1 refl

not_again : (last : Option (ℕ × Event)) (session : ℕ) (e : Event)
    → ((before : ℕ) (other : Event) → last ≡ Some (before, other) → (before ≡ session) ⊎ (event_bytes e ≢ event_bytes other)) → is_told_again last session e ≡ false
not_again None session e differs = refl
not_again (Some (before, other)) session e differs = by_either (differs before other refl)
  where
    by_test : (b c : Bool) → bytes_eq (event_bytes e) (event_bytes other) ≡ c → event_bytes e ≢ event_bytes other → (not b && c) ≡ false
    by_test true c is other_bytes = refl
    by_test false false is other_bytes = refl
    by_test false true is other_bytes = absurd (other_bytes ((bytes_eq-Decides (event_bytes e) (event_bytes other)).0 is))

    by_either : (before ≡ session) ⊎ (event_bytes e ≢ event_bytes other) → is_told_again (Some (before, other)) session e ≡ false
    by_either (inl same) = ap (λ b. not b && bytes_eq (event_bytes e) (event_bytes other)) (is_true before session same)
    by_either (inr other_bytes) = by_test (before == session) (bytes_eq (event_bytes e) (event_bytes other)) refl other_bytes

pub marks_what_is_told_again : MarksWhatIsToldAgain
marks_what_is_told_again = record {
  again = λ before session event more differs.
      ap (λ b. (event, not b && bytes_eq (event_bytes event) (event_bytes event)) ∷ marked (Some (session, event)) more) (is_false before session differs)
      ∙ ap (λ b. (event, b) ∷ marked (Some (session, event)) more) (same_bytes event);
  others = λ last session event more differs. ap (λ b. (event, b) ∷ marked (Some (session, event)) more) (not_again last session event differs);
}

-- nothing was told yet
abbrev untold : Told
untold = record { marks = []; memory = nothing_yet }

next_memory : (r : Report) (x : Told) → (next r x).memory ≡ remembers r x.memory
next_memory (report.Opened id) x = refl
next_memory _ x = refl

module _ (k : ℕ) where
  -- what is told of the entry is what is remembered of it
  told_memory : (told : List (ℕ × Report)) (x : Told) → (those next k told x).memory ≡ recalls x.memory (of_entry k told)
  told_memory [] x = refl
  told_memory (said ∷ more) x = told_memory more (cond (said.0 == k) (next said.1 x) x) ∙ elim (eqb_tells said.0 k) [
    | inl mine ↦
        ap (λ b. recalls (cond b (next said.1 x) x).memory (of_entry k more)) mine.0 ∙ ap (λ m. recalls m (of_entry k more)) (next_memory said.1 x)
        ∙ ap (λ b. recalls x.memory (cond b (said.1 ∷ of_entry k more) (of_entry k more))) (sym (is_true k said.0 (sym mine.1)))
    | inr other ↦
        ap (λ b. recalls (cond b (next said.1 x) x).memory (of_entry k more)) other.0
        ∙ ap (λ b. recalls x.memory (cond b (said.1 ∷ of_entry k more) (of_entry k more))) (sym (is_false k said.0 (λ e. other.1 (sym e))))
  ]

  -- the report that waits is told with its mark
  waits_with : (o : Option (ℕ × Report)) (remembered : List Remembered) (x : Told) → x.memory ≡ memory_at k remembered
      → (those next k (option_to_list o) x).marks ≡ x.marks ++ event_of k o (is_told_maybe_again o remembered)
  waits_with None remembered x same = sym (append-nil x.marks)
  waits_with (Some (entry, r)) remembered x same = elim (eqb_tells entry k) [
    | inl mine ↦ ap (λ b. (cond b (next r x) x).marks) mine.0 ∙ of_it r mine.0 mine.1
    | inr other ↦ ap (λ b. (cond b (next r x) x).marks) other.0 ∙ sym (append-nil x.marks) ∙ ap (λ es. x.marks ++ es) (sym (of_other r other.0))
  ]
    where
      of_it : (r : Report) → (entry == k) ≡ true → entry ≡ k
          → (next r x).marks ≡ x.marks ++ event_of k (Some (entry, r)) (may_be_again r (memory_at entry remembered))
      of_it (report.Event e) mine is =
          ap (λ m. x.marks ++ (e, may_be_again (report.Event e) m) ∷ []) (same ∙ ap (λ j. memory_at j remembered) (sym is))
          ∙ ap (λ b. x.marks ++ cond b ((e, may_be_again (report.Event e) (memory_at entry remembered)) ∷ []) []) (sym mine)
      of_it _ mine is = sym (append-nil x.marks)

      of_other : (r : Report) → (entry == k) ≡ false → event_of k (Some (entry, r)) (may_be_again r (memory_at entry remembered)) ≡ []
      of_other (report.Event e) other = ap (λ b. cond b ((e, may_be_again (report.Event e) (memory_at entry remembered)) ∷ []) []) other
      of_other _ other = refl

-- ---- lists of calls, in parts

pub told_more : (xs ys : List bus.Call) (b : BusState) → told_along (xs ++ ys) b ≡ told_along xs b ++ told_along ys (bus.after_calls xs b)
told_more [] ys b = refl
told_more (x ∷ xs) ys b =
    ap (λ l. told_in x b ++ l) (told_more xs ys (bus.after_call x b))
    ∙ sym (append_assoc (told_in x b) (told_along xs (bus.after_call x b)) (told_along ys (bus.after_calls xs (bus.after_call x b))))

pub taken_more : (xs ys : List bus.Call) (b : BusState) → taken_along (xs ++ ys) b ≡ taken_along xs b ++ taken_along ys (bus.after_calls xs b)
taken_more [] ys b = refl
taken_more (x ∷ xs) ys b =
    ap (λ l. reports.taken_in x b ++ l) (taken_more xs ys (bus.after_call x b))
    ∙ sym (append_assoc (reports.taken_in x b) (taken_along xs (bus.after_call x b)) (taken_along ys (bus.after_calls xs (bus.after_call x b))))

pub adds_tell : (addresses : List ℕ) (b : BusState) → told_along (map bus.Add addresses) b ≡ []
adds_tell [] b = refl
adds_tell (a ∷ as_left) b = adds_tell as_left (bus.after_call (bus.Add a) b)

pub adds_take : (addresses : List ℕ) (b : BusState) → taken_along (map bus.Add addresses) b ≡ []
adds_take [] b = refl
adds_take (a ∷ as_left) b = adds_take as_left (bus.after_call (bus.Add a) b)

module _ {H : Type 0} (answer_of : H → Command → Answer) (after : H → Command → H) (k : ℕ) where
  -- ---- what is told along

  one_told : (call : Call H) (l : InUse H) → told_along (one_panel_call call) l.bus ≡ told_by call l
  one_told (OfPanel call) l = append-nil (told_in call l.bus)
  one_told _ l = refl

  steps_tell : (steps : List (Step H)) (l : InUse H) (all : List (ℕ × Event)) (x : Told) → Each (λ (step : Step H). KeepsPanel step.call) steps
      → Line k l.bus.devices.entries l all x
      → Line k (after_calls answer_of after steps l).bus.devices.entries (after_calls answer_of after steps l)
      (all ++ events_told answer_of after k steps l) (those next k (told_along (panel_calls steps) l.bus) x)
  steps_tell [] l all x keeps is = subst (λ events. Line k l.bus.devices.entries l events x) (sym (append-nil all)) is
  steps_tell (step ∷ steps) l all x keeps is =
      let m = after_call answer_of after step.call step.places l in
      let last = after_calls answer_of after steps m in
      let session = sessions_of k l.openings in
      let told = told_by step.call l in
      let here = events_of session (reports_of k told) in
      let more = told_along (panel_calls steps) m.bus in
      let y = those next k told x in
      let stepped : Line k m.bus.devices.entries m (all ++ here) y =
      subst (λ events. Line k m.bus.devices.entries m events y) (all_also session k told all) (step_tells k answer_of after step.call step.places l all x keeps.0 is) in
      subst (λ (q : List (ℕ × Event) × Told). Line k last.bus.devices.entries last q.0 q.1)
      (λ i. (
        append_assoc all here (events_told answer_of after k steps m) i,
        (sym (those_then next k told more x)
            ∙ ap (λ rs. those next k rs x) (sym (λ j. one_told step.call l j ++ told_along (panel_calls steps) (sym (one_bus answer_of after step.call step.places l keeps.0) j))
            ∙ sym (told_more (one_panel_call step.call) (panel_calls steps) l.bus))) i,
      ))
      (steps_tell steps m (all ++ here) y keeps.1 stepped)

  -- ---- what is taken along

  one_taken : (call : Call H) (l : InUse H) (x : Told) → x.memory ≡ memory_at k l.bus.remembered
      → (those next k (taken_along (one_panel_call call) l.bus) x).marks ≡ x.marks ++ handed_in k call l
  one_taken (OfPanel bus.NextReport) l x same =
      ap (λ told. (those next k told x).marks) (append-nil (option_to_list l.bus.devices.report))
      ∙ waits_with k l.bus.devices.report l.bus.remembered x same
  one_taken _ l x same = sym (append-nil x.marks)

  -- with what waits at the end
  steps_take : (steps : List (Step H)) (l : InUse H) (taken : List (ℕ × Report)) → Each (λ (step : Step H). KeepsPanel step.call) steps
      → IsRemembered l.bus taken
      → (those next k (taken_along (panel_calls steps) l.bus ++ option_to_list (bus.after_calls (panel_calls steps) l.bus).devices.report)
      (those next k taken untold)).marks
      ≡ (those next k taken untold).marks ++ (all_handed answer_of after k steps l ++ event_waiting k (after_calls answer_of after steps l).bus)
  steps_take [] l taken keeps is =
      waits_with k l.bus.devices.report l.bus.remembered (those next k taken untold) (told_memory k taken untold ∙ sym (is.all k))
  steps_take (step ∷ steps) l taken keeps is =
      let m = after_call answer_of after step.call step.places l in
      let calls = one_panel_call step.call in
      let here = taken_along calls l.bus in
      let b = bus.after_calls calls l.bus in
      let same : m.bus ≡ b = one_bus answer_of after step.call step.places l keeps.0 in
      let x = those next k taken untold in
      let y = those next k (taken ++ here) untold in
      let more = taken_along (panel_calls steps) b ++ option_to_list (bus.after_calls (panel_calls steps) b).devices.report in
      let on = steps_take steps m (taken ++ here) keeps.1 (subst (λ c. IsRemembered c (taken ++ here)) (sym same) (along calls l.bus taken is)) in
      let rest = all_handed answer_of after k steps m ++ event_waiting k (after_calls answer_of after steps m).bus in
      let ran : bus.after_calls (panel_calls (step ∷ steps)) l.bus ≡ bus.after_calls (panel_calls steps) b = more_calls calls (panel_calls steps) l.bus in
      let all : taken_along (panel_calls (step ∷ steps)) l.bus ++ option_to_list (bus.after_calls (panel_calls (step ∷ steps)) l.bus).devices.report ≡ here ++ more =
      (λ i. taken_more calls (panel_calls steps) l.bus i ++ option_to_list (ran i).devices.report)
      ∙ append_assoc here (taken_along (panel_calls steps) b) (option_to_list (bus.after_calls (panel_calls steps) b).devices.report) in
      ap (λ told. (those next k told x).marks) all
      ∙ ap (λ (z : Told). z.marks) (those_then next k here more x ∙ ap (those next k more) (sym (those_then next k taken here untold)))
      ∙ ap (λ c. (those next k (taken_along (panel_calls steps) c ++ option_to_list (bus.after_calls (panel_calls steps) c).devices.report) y).marks) (sym same)
      ∙ on
      ∙ ap (λ ms. ms ++ rest) (ap (λ (z : Told). z.marks) (those_then next k taken here untold)
      ∙ one_taken step.call l x (told_memory k taken untold ∙ sym (is.all k)))
      ∙ append_assoc x.marks (handed_in k step.call l) rest
      ∙ ap (λ ms. x.marks ++ ms) (sym (append_assoc (handed_in k step.call l) (all_handed answer_of after k steps m)
      (event_waiting k (after_calls answer_of after steps m).bus)))

  -- ---- from where the panel is made

  starts : (config : BusConfig) (addresses : List ℕ) (d : Entry) (first : Station H) (l : InUse H) → l.bus ≡ bus_with config addresses
      → device_of k l.bus ≡ Some d → site_at k l.stations ≡ Some first → Line k l.bus.devices.entries l [] untold
  starts config addresses d first l is there at =
      let made = new_at config k d addresses (sym (ap (device_of k) is) ∙ there) in
      record {
        station = first;
        at = at;
        tells = (
          d,
          there,
          subst (λ (e : Entry). Agrees (sessions_of k l.openings) e.controller.session.state first.begun [] untold) (sym made.2)
              (record { last = None; marks = λ more. refl; bytes = refl; up_to = tt }, tt),
        );
      }

  remembered : (config : BusConfig) (addresses : List ℕ) → IsRemembered (bus_with config addresses) []
  remembered config addresses = record { all = λ j. none_at 16 j; within = λ j r none. absurd cc }

  told_is_taken : TellsEachOnce → (config : BusConfig) (addresses : List ℕ) (calls : List bus.Call) → IsBusConfig config → NoneRefused addresses (new_bus config)
      → taken_along calls (bus_with config addresses) ++ option_to_list (bus.after_calls calls (bus_with config addresses)).devices.report
      ≡ told_along calls (bus_with config addresses)
  told_is_taken tells config addresses calls settings none =
      let adds = map bus.Add addresses in
      let b = bus_with config addresses in
      let made : bus.after_calls adds (new_bus config) ≡ b = adds_make_the_bus config addresses none in
      let took : taken_along (adds ++ calls) (new_bus config) ≡ taken_along calls b =
      taken_more adds calls (new_bus config) ∙ (λ i. adds_take addresses (new_bus config) i ++ taken_along calls (made i)) in
      let told : told_along (adds ++ calls) (new_bus config) ≡ told_along calls b =
      told_more adds calls (new_bus config) ∙ (λ i. adds_tell addresses (new_bus config) i ++ told_along calls (made i)) in
      let ran : bus.after_calls (adds ++ calls) (new_bus config) ≡ bus.after_calls calls b =
      more_calls adds calls (new_bus config) ∙ ap (bus.after_calls calls) made in
      sym (λ i. took i ++ option_to_list (ran i).devices.report) ∙ tells config (adds ++ calls) settings ∙ told

module _ {H : Type 0} (answer_of : H → Command → Answer) (after : H → Command → H) where
  pub calls_mark_repeats : TellsEachOnce → CallsMarkRepeats answer_of after
  calls_mark_repeats tells config addresses l steps settings none is keeps k d first there at =
      let each = each_of (λ (step : Step H). KeepsPanel step.call) steps keeps in
      let calls = panel_calls steps in
      let x = those next k (told_along calls l.bus) untold in
      let events = events_told answer_of after k steps l in
      let end = steps_tell answer_of after k steps l [] untold each (starts answer_of after k config addresses d first l is there at) in
      let took = steps_take answer_of after k steps l [] each (subst (λ b. IsRemembered b []) (sym is) (remembered answer_of after k config addresses)) in
      let told : taken_along calls l.bus ++ option_to_list (bus.after_calls calls l.bus).devices.report ≡ told_along calls l.bus =
      subst (λ b. taken_along calls b ++ option_to_list (bus.after_calls calls b).devices.report ≡ told_along calls b) (sym is)
      (told_is_taken answer_of after k tells config addresses calls settings none) in
      sym took ∙ ap (λ rs. (those next k rs untold).marks) told
      ∙ sym (append-nil x.marks) ∙ sym (end.tells.2.0.marks []) ∙ ap (marked None) (append-nil events)
