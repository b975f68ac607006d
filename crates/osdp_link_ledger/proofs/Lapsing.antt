-- An event lapses that was ever offered: the front leaves, and the ledger stays tied.
use Rattle.osdp_link_ledger.proofs.Common.{◌≡◌, ◌==◌, ℕ, Bool, true, false, not, cond, ltb, List, [], ◌∷◌, length, drop, filter, Contains, refl, sym, subst, ap, ◌∙◌, inl, inr, arith, length-map, Packet, Command, Event, State, EventQueue, in_doubt, lapsed, Card, Lapse, Ledger, Beyond, Rising, card_at, gives_up_event, lapses_event, Due, nil_from_length, filter_front}
use Rattle.std.proofs.lemmas.Bool.{ltb-true, ltb-false}
use Rattle.osdp_ledger.specs.Ledger as ledger
use Rattle.osdp_link_ledger.proofs.Events.{beyond_front, parts}
use Rattle.osdp_link_ledger.proofs.Lists.{FrontUnshown, all_unoffered, events, front_card, not_offered}
use Rattle.osdp_link_ledger.proofs.Ties.{Leads, OffersAre, Placed, SessionIs, Ties}

-- these cards are left, and none of them was ever offered
pub record IsGone (rest : List Event) (g : Ledger) (cards : List Card) : Type 0 where
  pub names : events cards ≡ rest
  pub front : FrontUnshown g.shown cards

module _ (rest : List Event) (capacity room : ℕ) (offered : Bool) (q : EventQueue) (g : Ledger) (cards : List Card) (placed : Placed g) (gone : IsGone rest g cards) where
  -- the queue without its front
  abbrev left : EventQueue
  left = parts rest capacity room false false

  gone_offers : (waits : List Event) (stands : ℕ) → OffersAre q waits stands g.offer g.cards → OffersAre left waits stands g.offer cards
  gone_offers waits stands o =
      let all : length (not_offered g.offer cards) ≡ length cards = ap length (all_unoffered g.shown g.offer cards placed.stands gone.front) in
      let many : length cards ≡ length rest = sym (length-map cards (λ (c : Card). c.event)) ∙ ap length gone.names in
      record { untold = o.untold; front = λ on. absurd cc; counts = omega (arith, all, many) }

  gone_session : (state : State) (ps qs : List Packet) (d : Due) → SessionIs state q ps qs d g → SessionIs state left ps qs d (record g { cards = cards })
  gone_session state ps qs d (inl s) = inl s
  gone_session state ps qs d (inr (orders, o)) = inr (orders, gone_offers d.untold d.stands o)

  with_gone : (state : State) (waiting : List Command) (ps qs : List Packet) (d : Due) → Ties state waiting q ps qs d g → Ties state waiting left ps qs d (record g { cards = cards })
  with_gone state waiting ps qs d h = record {
    ahead = h.ahead;
    is_open = h.is_open;
    cards = gone.names;
    front = λ never. gone.front;
    session = gone_session state ps qs d h.session;
  }

-- the front leaves, be it that it was offered since the ledger began or before
module _ (g : Ledger) (placed : Placed g) (c : Card) (cs : List Card) (front : g.cards ≡ c ∷ cs) (T : Ledger → Type 0) (tied : T (record g { cards = cs })) where
  by_shown : (b : Bool) → ltb c.place g.shown ≡ b → Leads (cond b (Lapse c) (ledger.WithdrawEvent c) ∷ []) g T
  by_shown true is = (
    (((cs, front), ltb-true c.place g.shown is), tt),
    subst (λ cards. T (record g { cards = cards })) (sym (ap (drop 1) front)) tied,
  )
  by_shown false is =
      let gone : filter (λ d. not (d.place == c.place)) g.cards ≡ cs =
      ap (filter (λ d. not (d.place == c.place))) front ∙ filter_front c cs 0 (subst (Rising 0) front placed.rising) in (
        ((subst (λ cards. Contains cards c) (sym front) (0, omega arith, refl), ltb-false c.place g.shown is), tt),
        subst (λ cards. T (record g { cards = cards })) (sym gone) tied,
      )

  pub giving_up : Leads (gives_up_event c g.shown ∷ []) g T
  giving_up = by_shown (ltb c.place g.shown) refl

abbrev Lapses : EventQueue → State → List Command → List Packet → List Packet → Due → Ledger → Type 0
Lapses q state waiting ps qs d g = Leads (lapses_event (in_doubt q) g) g (Ties state waiting (lapsed q) ps qs d)

by_parts : (all : List Event) (capacity room : ℕ) (offered ever : Bool) (state : State) (waiting : List Command) (ps qs : List Packet) (d : Due) (g : Ledger)
    → Placed g → Ties state waiting (parts all capacity room offered ever) ps qs d g → Lapses (parts all capacity room offered ever) state waiting ps qs d g
by_parts all capacity room offered false state waiting ps qs d g placed h = (tt, h)
by_parts [] capacity room offered true state waiting ps qs d g placed h =
    let none : g.cards ≡ [] = nil_from_length g.cards (sym (length-map g.cards (λ (c : Card). c.event)) ∙ ap length h.cards) in
    let gone : IsGone [] g g.cards = record { names = h.cards; front = subst (FrontUnshown g.shown) (sym none) tt } in
    (tt, with_gone [] capacity room offered (parts [] capacity room offered true) g g.cards placed gone state waiting ps qs d h)
by_parts (e ∷ rest) capacity room offered true state waiting ps qs d g placed h =
    let q = parts (e ∷ rest) capacity room offered true in
    let front = front_card g.cards e rest h.cards in
    let c = card_at g.cards e in
    let cs = drop 1 g.cards in
    let gone : IsGone rest g cs = record { names = front.1; front = beyond_front g.shown c cs (subst (Beyond g.shown) front.0 placed.beyond) } in
    giving_up g placed c cs front.0 (Ties state waiting (lapsed q) ps qs d) (with_gone rest capacity room offered q g cs placed gone state waiting ps qs d h)

pub lapsing_event : (q : EventQueue) (state : State) (waiting : List Command) (ps qs : List Packet) (d : Due) (g : Ledger) → Placed g → Ties state waiting q ps qs d g
    → Lapses q state waiting ps qs d g
lapsing_event q state waiting ps qs d g placed h = by_parts q.events q.capacity q.room q.offered q.ever_offered state waiting ps qs d g placed h
