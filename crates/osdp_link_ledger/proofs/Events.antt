-- An event is withdrawn: the ledger stays tied.
use Rattle.osdp_link_ledger.proofs.Common.{◌≡◌, ◌≤◌, ◌+◌, ◌⊎◌, ◌==◌, ℕ, suc, Bool, true, false, not, cond, List, [], ◌∷◌, length, drop, filter, Contains, refl, sym, subst, ap, ◌∙◌, inl, inr, arith, All-head, Packet, Command, Event, State, EventQueue, never_offered, withdrawn, Card, Ledger, NoOffer, Offer, Reported, Unreported, Beyond, Rising, card_at, withdraws_event, Due, filter_front}
use Rattle.osdp_link_ledger.proofs.Lists.{FrontUnshown, IsOfferedFront, StandsAt, after_card, all_unoffered, events, filter_second, front_card, not_offered}
use Rattle.osdp_link_ledger.proofs.Ties.{Leads, OffersAre, Placed, SessionIs, Ties}

pub beyond_front : (shown : ℕ) (c : Card) (cs : List Card) → Beyond shown (c ∷ cs) → FrontUnshown shown cs
beyond_front shown c [] beyond = tt
beyond_front shown c (d ∷ ds) beyond = All-head (λ (x : Card). shown ≤ x.place) d ds beyond

-- fewer cards, or the same
record Fewer (q : EventQueue) (stands : ℕ) (g : Ledger) (cards : List Card) : Type 0 where
  names : events cards ≡ (withdrawn q).events
  front : q.ever_offered ≡ false → FrontUnshown g.shown cards
  offer : q.offered ≡ true → IsOfferedFront g.offer g.cards → IsOfferedFront g.offer cards
  counts : length q.events ≡ stands + length (not_offered g.offer g.cards) → length (withdrawn q).events ≡ stands + length (not_offered g.offer cards)

fewer_offers : (q : EventQueue) (waits : List Event) (stands : ℕ) (g : Ledger) (cards : List Card) → Fewer q (cond q.offered stands 0) g cards → OffersAre q waits stands g.offer g.cards
    → OffersAre (withdrawn q) waits stands g.offer cards
fewer_offers q waits stands g cards fewer o = record { untold = o.untold; front = λ on. by_front on (o.front on); counts = fewer.counts o.counts }
  where
    by_front : q.offered ≡ true → (g.offer ≡ NoOffer) ⊎ IsOfferedFront g.offer g.cards → (g.offer ≡ NoOffer) ⊎ IsOfferedFront g.offer cards
    by_front on (inl none) = inl none
    by_front on (inr front) = inr (fewer.offer on front)

fewer_session : (state : State) (q : EventQueue) (ps qs : List Packet) (d : Due) (g : Ledger) (cards : List Card) → Fewer q (cond q.offered d.stands 0) g cards
    → SessionIs state q ps qs d g → SessionIs state (withdrawn q) ps qs d (record g { cards = cards })
fewer_session state q ps qs d g cards fewer (inl s) = inl s
fewer_session state q ps qs d g cards fewer (inr (orders, o)) = inr (orders, fewer_offers q d.untold d.stands g cards fewer o)

with_fewer : (state : State) (waiting : List Command) (q : EventQueue) (ps qs : List Packet) (d : Due) (g : Ledger) (cards : List Card) → Fewer q (cond q.offered d.stands 0) g cards
    → Ties state waiting q ps qs d g → Ties state waiting (withdrawn q) ps qs d (record g { cards = cards })
with_fewer state waiting q ps qs d g cards fewer h = record {
  ahead = h.ahead;
  is_open = h.is_open;
  cards = fewer.names;
  front = fewer.front;
  session = fewer_session state q ps qs d g cards fewer h.session;
}

abbrev pub parts : List Event → ℕ → ℕ → Bool → Bool → EventQueue
parts all capacity room offered ever = record { events = all; capacity = capacity; room = room; offered = offered; ever_offered = ever }

-- nothing is withdrawn
none_fewer : (q : EventQueue) (stands : ℕ) (g : Ledger) → (withdrawn q).events ≡ q.events → events g.cards ≡ q.events
    → (q.ever_offered ≡ false → FrontUnshown g.shown g.cards) → Fewer q stands g g.cards
none_fewer q stands g same names front = record {
  names = names ∙ sym same;
  front = front;
  offer = λ on is. is;
  counts = λ counts. ap length same ∙ counts;
}

no_front : (shown : ℕ) (offer : Offer) (c : Card) (cs more : List Card) → StandsAt shown offer → shown ≤ c.place → IsOfferedFront offer (c ∷ cs) → ⊥
no_front shown NoOffer c cs more stands above front = front
no_front shown (Unreported b) c cs more stands above (rest, is) = let same : c ≡ b = cc in omega (arith, ap (λ x. x.place) same, stands, above)
no_front shown (Reported b) c cs more stands above (rest, is) = let same : c ≡ b = cc in omega (arith, ap (λ x. x.place) same, stands, above)

-- the front, which was never offered
front_fewer : (capacity room : ℕ) (offered_now : Bool) (e : Event) (rest : List Event) (stands : ℕ) (g : Ledger) (c : Card) (cs : List Card) → Placed g
    → g.cards ≡ c ∷ cs → events cs ≡ rest → g.shown ≤ c.place → Fewer (parts (e ∷ rest) capacity room offered_now false) stands g cs
front_fewer capacity room offered_now e rest stands g c cs placed is names above =
    let beyond : Beyond g.shown (c ∷ cs) = subst (Beyond g.shown) is placed.beyond in
    let old : not_offered g.offer g.cards ≡ c ∷ cs =
    ap (not_offered g.offer) is ∙ all_unoffered g.shown g.offer (c ∷ cs) placed.stands above in
    let new : not_offered g.offer cs ≡ cs = all_unoffered g.shown g.offer cs placed.stands (beyond_front g.shown c cs beyond) in
    record {
      names = names;
      front = λ never. beyond_front g.shown c cs beyond;
      offer = λ on front. absurd (no_front g.shown g.offer c cs [] placed.stands above (subst (IsOfferedFront g.offer) is front));
      counts = λ counts.
          let many : suc (length rest) ≡ stands + length (not_offered g.offer g.cards) = counts in
          let were : length (not_offered g.offer g.cards) ≡ suc (length cs) = ap length old in
          let are : length (not_offered g.offer cs) ≡ length cs = ap length new in
          omega (arith, many, were, are);
    }

-- the one after a front that was
second_left : (b f c : Card) (cs : List Card) → length (after_card b (f ∷ c ∷ cs)) ≡ suc (length (after_card b (f ∷ cs)))
second_left b f c cs = by_test (f.place == b.place)
  where
    by_test : (t : Bool) → length (cond t (c ∷ cs) (f ∷ c ∷ cs)) ≡ suc (length (cond t cs (f ∷ cs)))
    by_test true = refl
    by_test false = refl

one_left : (offer : Offer) (f c : Card) (cs : List Card) → length (not_offered offer (f ∷ c ∷ cs)) ≡ suc (length (not_offered offer (f ∷ cs)))
one_left NoOffer f c cs = refl
one_left (Unreported b) f c cs = second_left b f c cs
one_left (Reported b) f c cs = second_left b f c cs

kept_front : (offer : Offer) (f c : Card) (cs : List Card) → IsOfferedFront offer (f ∷ c ∷ cs) → IsOfferedFront offer (f ∷ cs)
kept_front NoOffer f c cs front = front
kept_front (Unreported b) f c cs (rest, is) = let same : f ≡ b = cc in (cs, ap (λ x. x ∷ cs) same)
kept_front (Reported b) f c cs (rest, is) = let same : f ≡ b = cc in (cs, ap (λ x. x ∷ cs) same)

second_fewer : (capacity room : ℕ) (offered_now : Bool) (a e : Event) (rest : List Event) (stands : ℕ) (g : Ledger) (f c : Card) (cs : List Card)
    → g.cards ≡ f ∷ c ∷ cs → events (f ∷ cs) ≡ a ∷ rest → Fewer (parts (a ∷ e ∷ rest) capacity room offered_now true) stands g (f ∷ cs)
second_fewer capacity room offered_now a e rest stands g f c cs is names = record {
  names = names;
  front = λ never. absurd cc;
  offer = λ on front. kept_front g.offer f c cs (subst (IsOfferedFront g.offer) is front);
  counts = λ counts.
      let many : suc (suc (length rest)) ≡ stands + length (not_offered g.offer g.cards) = counts in
      let were : length (not_offered g.offer g.cards) ≡ length (not_offered g.offer (f ∷ c ∷ cs)) = ap (λ ds. length (not_offered g.offer ds)) is in
      omega (arith, many, were, one_left g.offer f c cs);
}

abbrev Withdraws : EventQueue → State → List Command → List Packet → List Packet → Due → Ledger → Type 0
Withdraws q state waiting ps qs d g = Leads (withdraws_event (never_offered q) q.ever_offered g) g (Ties state waiting (withdrawn q) ps qs d)

by_parts : (all : List Event) (capacity room : ℕ) (offered ever : Bool) (state : State) (waiting : List Command) (ps qs : List Packet) (d : Due) (g : Ledger)
    → Placed g → Ties state waiting (parts all capacity room offered ever) ps qs d g → Withdraws (parts all capacity room offered ever) state waiting ps qs d g
by_parts [] capacity room offered false state waiting ps qs d g placed h =
    (tt, with_fewer state waiting (parts [] capacity room offered false) ps qs d g g.cards (none_fewer (parts [] capacity room offered false) (cond offered d.stands 0) g refl h.cards h.front) h)
by_parts [] capacity room offered true state waiting ps qs d g placed h =
    (tt, with_fewer state waiting (parts [] capacity room offered true) ps qs d g g.cards (none_fewer (parts [] capacity room offered true) (cond offered d.stands 0) g refl h.cards h.front) h)
by_parts (a ∷ []) capacity room offered true state waiting ps qs d g placed h =
    (tt, with_fewer state waiting (parts (a ∷ []) capacity room offered true) ps qs d g g.cards (none_fewer (parts (a ∷ []) capacity room offered true) (cond offered d.stands 0) g refl h.cards h.front) h)
by_parts (e ∷ rest) capacity room offered false state waiting ps qs d g placed h =
    let q = parts (e ∷ rest) capacity room offered false in
    let front = front_card g.cards e rest h.cards in
    let c = card_at g.cards e in
    let above : g.shown ≤ c.place = subst (FrontUnshown g.shown) front.0 (h.front refl) in
    let gone : filter (λ d. not (d.place == c.place)) g.cards ≡ drop 1 g.cards =
    ap (filter (λ d. not (d.place == c.place))) front.0 ∙ filter_front c (drop 1 g.cards) 0 (subst (Rising 0) front.0 placed.rising) in (
      ((subst (λ cards. Contains cards c) (sym front.0) (0, omega arith, refl), above), tt),
      subst (λ cards. Ties state waiting (withdrawn q) ps qs d (record g { cards = cards })) (sym gone)
          (with_fewer state waiting q ps qs d g (drop 1 g.cards) (front_fewer capacity room offered e rest (cond offered d.stands 0) g c (drop 1 g.cards) placed front.0 front.1 above) h),
    )
by_parts (a ∷ e ∷ rest) capacity room offered true state waiting ps qs d g placed h =
    let q = parts (a ∷ e ∷ rest) capacity room offered true in
    let front = front_card g.cards a (e ∷ rest) h.cards in
    let second = front_card (drop 1 g.cards) e rest front.1 in
    let f = card_at g.cards a in
    let c = card_at (drop 1 g.cards) e in
    let cs = drop 1 (drop 1 g.cards) in
    let all : g.cards ≡ f ∷ c ∷ cs = front.0 ∙ ap (λ ds. f ∷ ds) second.0 in
    let beyond : Beyond g.shown (f ∷ c ∷ cs) = subst (Beyond g.shown) all placed.beyond in
    let gone : filter (λ d. not (d.place == c.place)) g.cards ≡ f ∷ cs =
    ap (filter (λ d. not (d.place == c.place))) all ∙ filter_second f c cs 0 (subst (Rising 0) all placed.rising) in
    let names : events (f ∷ cs) ≡ a ∷ rest = ap (λ es. f.event ∷ es) second.1 ∙ ap (λ x. x ∷ rest) (event g.cards) in (
      ((subst (λ cards. Contains cards c) (sym all) (1, omega arith, refl), All-head (λ (x : Card). g.shown ≤ x.place) c cs beyond), tt),
      subst (λ cards. Ties state waiting (withdrawn q) ps qs d (record g { cards = cards })) (sym gone)
          (with_fewer state waiting q ps qs d g (f ∷ cs) (second_fewer capacity room offered a e rest (cond offered d.stands 0) g f c cs all names) h),
    )
  where
    event : (cards : List Card) → (card_at cards a).event ≡ a
    event [] = refl
    event (d ∷ ds) = refl

pub withdrawing_event : (q : EventQueue) (state : State) (waiting : List Command) (ps qs : List Packet) (d : Due) (g : Ledger) → Placed g → Ties state waiting q ps qs d g
    → Withdraws q state waiting ps qs d g
withdrawing_event q state waiting ps qs d g placed h = by_parts q.events q.capacity q.room q.offered q.ever_offered state waiting ps qs d g placed h
