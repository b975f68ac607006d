-- Where programs keep to the rule for addresses, and each packet is read in time.
use Rattle.osdp_calls_time_laws.proofs.Common.{◌≡◌, ℕ, List, [], ◌∷◌, ◌++◌, refl, sym, subst, ap, ◌∙◌, append-nil, append_assoc, Command, ReadsWhatIsAsked, each_of, Answer, Net, Note, Apart, apart_all, Step, after_call, after_calls, InUse, Addresses, AllKeep, IsSetUp, Keeps, AllKeepRule, CallsRuleSuffices, KeepsByRule, first_notes, notes_after, one_call, IsNetOf, RuledLedgerHoldsOnce, TimelyRuledHoldsOnce, steps_of, AllKeepRuleElse, AllTimely, Clock, Timed, clock_after, clock_at}
use Rattle.osdp_calls_time_laws.proofs.Holding.{begins, runs_call}
use Rattle.osdp_calls_time_laws.proofs.Quiet.{ReadAt, opens_quietly}
use Rattle.osdp_calls_time_laws.proofs.Waits.{Runs}

module _ {H : Type 0} (answer_of : H → Command → Answer) (after : H → Command → H) where
  -- ---- one call more

  abbrev notes_then : List (Step H) → InUse H → (ℕ → Note) → ℕ → Note
  notes_then [] l notes = notes
  notes_then (step ∷ steps) l notes = notes_then steps (after_call answer_of after step.call step.places l) (notes_after step.call l notes)

  calls_more : (steps : List (Step H)) (step : Step H) (l : InUse H)
      → after_calls answer_of after (steps ++ step ∷ []) l ≡ after_call answer_of after step.call step.places (after_calls answer_of after steps l)
  calls_more [] step l = refl
  calls_more (x ∷ xs) step l = calls_more xs step (after_call answer_of after x.call x.places l)

  notes_more : (steps : List (Step H)) (step : Step H) (l : InUse H) (notes : ℕ → Note)
      → notes_then (steps ++ step ∷ []) l notes ≡ notes_after step.call (after_calls answer_of after steps l) (notes_then steps l notes)
  notes_more [] step l notes = refl
  notes_more (x ∷ xs) step l notes = notes_more xs step (after_call answer_of after x.call x.places l) (notes_after x.call l notes)

  rule_more : (steps : List (Step H)) (step : Step H) (l : InUse H) (notes : ℕ → Note) → AllKeepRule answer_of after steps l notes
      → KeepsByRule answer_of after step (after_calls answer_of after steps l) (notes_then steps l notes) → AllKeepRule answer_of after (steps ++ step ∷ []) l notes
  rule_more [] step l notes all last = (last, tt)
  rule_more (x ∷ xs) step l notes all last =
      (all.0, rule_more xs step (after_call answer_of after x.call x.places l) (notes_after x.call l notes) all.1 last)

  last_keeps : (steps : List (Step H)) (step : Step H) (l : InUse H) → AllKeep answer_of after (steps ++ step ∷ []) l
      → Keeps answer_of after step (after_calls answer_of after steps l)
  last_keeps [] step l keep = keep.0
  last_keeps (x ∷ xs) step l keep = last_keeps xs step (after_call answer_of after x.call x.places l) keep.1

  module _ (suffices : CallsRuleSuffices answer_of after) (reads : ReadsWhatIsAsked) (w : ℕ) (l0 : InUse H) (up : IsSetUp l0) where
    -- calls that were made, and those that are to come
    all_rule : (ts : List (Timed H)) (done : List (Step H)) (c : Clock) (l : InUse H) (n : Net H) (notes : ℕ → Note) → l ≡ after_calls answer_of after done l0
        → notes ≡ notes_then done l0 (first_notes l0) → IsNetOf l n → Apart n → Runs w c l → AllTimely answer_of after w ts c l
        → AllKeepRuleElse answer_of after ts l notes → AllKeepRule answer_of after done l0 (first_notes l0)
        → AllKeepRule answer_of after (done ++ steps_of ts) l0 (first_notes l0)
    all_rule [] done c l n notes is noted h apart r timely keep before =
        subst (λ steps. AllKeepRule answer_of after steps l0 (first_notes l0)) (sym (append-nil done)) before
    all_rule (t ∷ ts) done c l n notes is noted h apart r timely keep before =
        let call = t.step.call in
        let places = t.step.places in
        let k = keep.0 in
        let read = each_of (ReadAt w t.at c.said) places timely.0.read in
        let quiet = opens_quietly w c l r t.at timely.0.in_turn call places read in
        let next = after_call answer_of after call places l in
        let kept : AllKeepRule answer_of after (done ++ t.step ∷ []) l0 (first_notes l0) =
        rule_more done t.step l0 (first_notes l0) before
        (subst (λ (p : InUse H × (ℕ → Note)). KeepsByRule answer_of after t.step p.0 p.1) (λ i. (is i, noted i))
        (record { in_order = k.in_order; quiet_opening = quiet; rule = k.rule; in_range = k.in_range })) in
        let addresses : Addresses call l =
        subst (λ m. Addresses call m) (sym is) (last_keeps done t.step l0 (suffices l0 (done ++ t.step ∷ []) up kept)).addresses in
        let s = one_call answer_of after call places l n h k.in_order quiet addresses k.in_range in
        let run = runs_call answer_of after reads w t c l n h apart r timely.0.in_turn call places k.in_order quiet k.in_range timely.0.clock read s.net s.same in
        subst (λ steps. AllKeepRule answer_of after steps l0 (first_notes l0)) (append_assoc done (t.step ∷ []) (steps_of ts))
        (all_rule ts (done ++ t.step ∷ []) (clock_after t c next) next s.net (notes_after call l notes)
        (ap (after_call answer_of after call places) is ∙ sym (calls_more done t.step l0))
        ((λ i. notes_after call (is i) (noted i)) ∙ sym (notes_more done t.step l0 (first_notes l0)))
        s.same (subst Apart s.run (apart_all answer_of after reads s.moves n s.fit apart)) run timely.1 keep.1 kept)

  pub ruled_hold_once : ReadsWhatIsAsked → CallsRuleSuffices answer_of after → RuledLedgerHoldsOnce answer_of after → TimelyRuledHoldsOnce answer_of after
  ruled_hold_once reads suffices holds w start l ts up waits timely keep =
      let b = begins answer_of after reads w start l up waits in
      holds l (steps_of ts) up
      (all_rule suffices reads w l up ts [] (clock_at start) l b.net (first_notes l) refl refl b.same b.apart b.runs timely keep tt)
