-- None of the events is skipped.
use Rattle.osdp_ledger.proofs.Common.{◌≡◌, ◌≤◌, ◌<◌, ◌+◌, ◌==◌, ℕ, zero, suc, Bool, true, false, List, [], ◌∷◌, length, refl, sym, subst, ap, ◌∙◌, inl, inr, arith, All, Contains, if◌then◌else◌, slice_index_or, eqb-true, ne_eqb, get_or_default, All-contains, All-head, All-tail, All-weaker, Card, AfterReport, Exit, History, Lapsed, Left, TakenBack, ThrownAway, new_history, runs, CountsFrom, EventsHold, IsToldOrGone, SkipsNone, times}
use Rattle.osdp_ledger.proofs.Events.{keeps_events}
use Rattle.osdp_ledger.proofs.Waiting.{Told, contains_times, left_places, places}

-- a place before all of these is none of theirs
none_times : (place : ℕ) (cards : List Card) → All (λ (d : Card). place < d.place) cards → times place (places cards) ≡ 0
none_times place [] all = refl
none_times place (d ∷ ds) all =
    let first = All-head (λ (d : Card). place < d.place) d ds all in
    let rest = none_times place ds (All-tail (λ (d : Card). place < d.place) d ds all) in
    rw (ne_eqb d.place place (λ e. omega (arith, e, first))) (omega (arith, rest))

-- what has left from a place
found_left : (place : ℕ) (left : List Left) → 1 ≤ times place (left_places left) → (w : Left) × Contains left w × (w.card.place ≡ place)
found_left place [] some = absurd (omega (arith, some))
found_left place (w ∷ ws) some = by_test (found_left place ws) (w.card.place == place) refl some
  where
    by_test : (1 ≤ times place (left_places ws) → (v : Left) × Contains ws v × (v.card.place ≡ place)) → (b : Bool) → (w.card.place == place) ≡ b
        → 1 ≤ (if b then 1 else 0) + times place (left_places ws) → (v : Left) × Contains (w ∷ ws) v × (v.card.place ≡ place)
    by_test rest true e some = (w, (0, omega arith, refl), eqb-true w.card.place place e)
    by_test rest false e some =
        let v = rest (omega (arith, some)) in
        let less = v.1.1 in
        (v.0, (suc v.1.0, omega (arith, less), v.1.2), v.2)

-- what was queued stands at its own place
place_at : (n : ℕ) (cards : List Card) (k : ℕ) (d : Card) → CountsFrom n (places cards) → k < length cards → (slice_index_or cards k d).place ≡ n + k
place_at n [] k d counts less = absurd (omega (arith, less))
place_at n (c ∷ cs) zero d counts less = let is = counts.0 in omega (arith, is)
place_at n (c ∷ cs) (suc k) d counts less = let is = place_at (n + 1) cs k d counts.1 (omega (arith, less)) in omega (arith, is)

one_card : (queued : List Card) (c d : Card) → CountsFrom 0 (places queued) → Contains queued c → Contains queued d → c.place ≡ d.place → c ≡ d
one_card queued c d counts has_c has_d same =
    let at_c : c.place ≡ 0 + has_c.0 = ap (λ (x : Card). x.place) (sym has_c.2) ∙ place_at 0 queued has_c.0 c counts has_c.1 in
    let at_d : d.place ≡ 0 + has_d.0 = ap (λ (x : Card). x.place) (sym has_d.2) ∙ place_at 0 queued has_d.0 d counts has_d.1 in
    let here : has_c.0 ≡ has_d.0 = omega (arith, at_c, at_d, same) in
    sym has_c.2 ∙ get_or_default queued has_c.0 c d has_c.1 ∙ ap (λ k. slice_index_or queued k d) here ∙ has_d.2

pub skips_none : SkipsNone
skips_none steps allowed told card is_told is_queued earlier =
    let h = runs steps new_history in
    let e = keeps_events steps allowed in
    let after : All (λ (d : Card). card.place < d.place) h.ledger.cards =
    All-weaker (λ (c : Card). All (λ (a : Told). a.1.place ≤ c.place) h.reports) (λ (d : Card). card.place < d.place)
    (λ d all. let le = All-contains (λ (a : Told). a.1.place ≤ d.place) h.reports told all is_told in omega (arith, le, earlier)) h.ledger.cards e.in_order in
    let none = none_times card.place h.ledger.cards after in
    let some = contains_times h.queued card is_queued in
    let w = found_left card.place h.left (omega (arith, e.each card.place, none, some)) in
    let is : w.0.card ≡ card = one_card h.queued w.0.card card e.places (All-contains (λ (x : Left). Contains h.queued x.card) h.left w.0 e.gone w.1) is_queued w.2 in
    by_exit h e w.0 w.1 is w.0.why refl
  where
    by_exit : (h : History) → EventsHold h → (w : Left) → Contains h.left w → w.card ≡ card → (why : Exit) → w.why ≡ why → IsToldOrGone h card
    by_exit h e w has is AfterReport why =
        let told = All-contains (λ (x : Left). x.why ≡ AfterReport → Contains h.reports (x.session, x.card)) h.left w e.reported has why in
        inl (w.session, subst (λ (c : Card). Contains h.reports (w.session, c)) is told)
    by_exit h e w has is TakenBack why = inr (w, has, is, (λ x. let y = sym why ∙ x in cc))
    by_exit h e w has is Lapsed why = inr (w, has, is, (λ x. let y = sym why ∙ x in cc))
    by_exit h e w has is ThrownAway why = inr (w, has, is, (λ x. let y = sym why ∙ x in cc))
