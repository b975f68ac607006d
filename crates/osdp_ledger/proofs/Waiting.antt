-- What holds of the events: of their places, of the queue, and of what was offered.
use Rattle.osdp_ledger.proofs.Common.{◌≡◌, ◌≤◌, ◌<◌, ◌+◌, ◌⊎◌, ◌==◌, ℕ, zero, suc, Bool, true, false, not, cond, List, [], ◌∷◌, ◌++◌, length, refl, sym, ap, ◌∙◌, arith, All, AllPairs, Contains, map, filter, if◌then◌else◌, slice_index_or, eqb-true, eqb-false, eq-eqb, ne_eqb, map-append, All-append, All-cons, All-filter, All-head, All-push, All-tail, All-weaker, All-nil, Card, NoOffer, Offer, Reported, Unreported, AfterReport, History, Left, TakenBack, CountsFrom, Follows, times}

abbrev pub Told : Type 0
Told = ℕ × Card

abbrev pub places : List Card → List ℕ
places = map (λ c. c.place)

abbrev pub left_places : List Left → List ℕ
left_places = map (λ w. w.card.place)

-- each place is at least this one, and above those before it
abbrev pub Rising : ℕ → List Card → Type 0
Rising low [] = Unit {0}
Rising low (c ∷ cs) = (low ≤ c.place) × Rising (c.place + 1) cs

-- all but the front were never offered
abbrev pub Beyond : ℕ → List Card → Type 0
Beyond shown [] = Unit {0}
Beyond shown (c ∷ cs) = All (λ (d : Card). shown ≤ d.place) cs

-- the card is the one in the queue, or it stood before it
abbrev pub IsUpTo : Card → Card → Type 0
IsUpTo c d = (c ≡ d) ⊎ (c.place < d.place)

abbrev pub IsAtMost : Card → Told → Type 0
IsAtMost c a = (a.1.place < c.place) ⊎ (a.1 ≡ c)

-- an event that has left and has this place left in this session, and wasn't taken back
abbrev pub LeftNow : ℕ → Card → Left → Type 0
LeftNow sessions c w = w.card.place ≡ c.place → (w.session ≡ sessions) × (w.why ≡ TakenBack → ⊥)

abbrev pub OfferIs : Offer → ℕ → ℕ → List Card → List Told → List Left → Type 0
OfferIs NoOffer sessions shown cards reports left = All (λ (d : Card). All (λ (a : Told). Follows a (sessions, d)) reports) cards
OfferIs (Unreported c) sessions shown cards reports left =
    (c.place + 1 ≡ shown) × All (λ (a : Told). Follows a (sessions, c)) reports × All (IsUpTo c) cards × All (LeftNow sessions c) left
OfferIs (Reported c) sessions shown cards reports left =
    (c.place + 1 ≡ shown) × All (IsAtMost c) reports × All (IsUpTo c) cards × Contains reports (sessions, c)

abbrev pub WasReported : List Told → Left → Type 0
WasReported reports w = w.why ≡ AfterReport → Contains reports (w.session, w.card)

abbrev pub NeverReported : List Told → Left → Type 0
NeverReported reports w = w.why ≡ TakenBack → All (λ (a : Told). a.1.place ≡ w.card.place → ⊥) reports

abbrev pub NoLater : List Told → Left → Type 0
NoLater reports w = All (λ (a : Told). a.1.place ≡ w.card.place → a.0 ≤ w.session) reports

pub record EventsAre (count : ℕ) (cards : List Card) (shown : ℕ) (offer : Offer) (sessions : ℕ) (queued : List Card) (reports : List Told) (left : List Left) : Type 0 where
  pub whole : CountsFrom 0 (places queued)
  pub counted : length queued ≡ count
  pub each : (place : ℕ) → times place (left_places left) + times place (places cards) ≡ times place (places queued)
  pub rising : Rising 0 cards
  pub below : All (λ (d : Card). d.place < count) cards
  pub beyond : Beyond shown cards
  pub shown_is : shown ≤ count
  pub told : All (λ (a : Told). (a.1.place < shown) × (a.0 ≤ sessions)) reports
  pub in_turn : AllPairs Follows reports
  pub offer_is : OfferIs offer sessions shown cards reports left
  pub reported : All (WasReported reports) left
  pub withdrawn : All (NeverReported reports) left
  pub no_later : All (NoLater reports) left

abbrev pub Events : History → Type 0
Events h = EventsAre h.ledger.queued h.ledger.cards h.ledger.shown h.ledger.offer h.sessions h.queued h.reports h.left

-- ---- counts

pub times_all : (place : ℕ) (xs ys : List ℕ) → times place (xs ++ ys) ≡ times place xs + times place ys
times_all place [] ys = omega arith
times_all place (x ∷ xs) ys = omega (arith, times_all place xs ys)

pub times_queued : (place : ℕ) (cards : List Card) (c : Card) → times place (places (cards ++ c ∷ [])) ≡ times place (places cards) + times place (c.place ∷ [])
times_queued place cards c = ap (times place) (map-append (λ (d : Card). d.place) cards (c ∷ [])) ∙ times_all place (places cards) (c.place ∷ [])

pub times_left : (place : ℕ) (left : List Left) (w : Left) → times place (left_places (left ++ w ∷ [])) ≡ times place (left_places left) + times place (w.card.place ∷ [])
times_left place left w = ap (times place) (map-append (λ (v : Left). v.card.place) left (w ∷ [])) ∙ times_all place (left_places left) (w.card.place ∷ [])

-- what counts from n on has each place once, and none before
pub no_time : (place n : ℕ) (xs : List ℕ) → CountsFrom n xs → place < n → times place xs ≡ 0
no_time place n [] counts less = refl
no_time place n (x ∷ xs) counts less =
    let other : (x == place) ≡ false = ne_eqb x place (λ e. omega (arith, e, counts.0, less)) in
    let rest : times place xs ≡ 0 = no_time place (n + 1) xs counts.1 (omega (arith, less)) in
    rw other (omega (arith, rest))

pub one_time : (place n : ℕ) (xs : List ℕ) → CountsFrom n xs → times place xs ≤ 1
one_time place n [] counts = omega arith
one_time place n (x ∷ xs) counts = by_test (one_time place (n + 1) xs counts.1) (x == place) refl
  where
    by_test : times place xs ≤ 1 → (b : Bool) → (x == place) ≡ b → (if b then 1 else 0) + times place xs ≤ 1
    by_test most true e = let none : times place xs ≡ 0 = no_time place (n + 1) xs counts.1 (omega (arith, counts.0, eqb-true x place e)) in omega (arith, none)
    by_test most false e = omega (arith, most)

abbrev pub without : Card → List Card → List Card
without c cards = filter (λ d. not (d.place == c.place)) cards

pub none_of_it : (c : Card) (cards : List Card) → times c.place (places (without c cards)) ≡ 0
none_of_it c [] = refl
none_of_it c (d ∷ ds) = by_test (none_of_it c ds) (d.place == c.place) refl
  where
    by_test : times c.place (places (without c ds)) ≡ 0 → (b : Bool) → (d.place == c.place) ≡ b → times c.place (places (cond (not b) (d ∷ without c ds) (without c ds))) ≡ 0
    by_test rest true e = rest
    by_test rest false e = rw e (omega (arith, rest))

pub others_stay : (place : ℕ) (c : Card) (cards : List Card) → (c.place ≡ place → ⊥) → times place (places (without c cards)) ≡ times place (places cards)
others_stay place c [] other = refl
others_stay place c (d ∷ ds) other = by_test (others_stay place c ds other) (d.place == c.place) refl
  where
    by_test : times place (places (without c ds)) ≡ times place (places ds) → (b : Bool) → (d.place == c.place) ≡ b → times place (places (cond (not b) (d ∷ without c ds) (without c ds))) ≡ times place (places (d ∷ ds))
    by_test rest true e =
        let different : (d.place == place) ≡ false = ne_eqb d.place place (λ w. other (sym (eqb-true d.place c.place e) ∙ w)) in
        rw different (omega (arith, rest))
    by_test rest false e = ap (λ n. (if d.place == place then 1 else 0) + n) rest

pub contains_times : (cards : List Card) (c : Card) → Contains cards c → 1 ≤ times c.place (places cards)
contains_times [] c h = omega (arith, h.1)
contains_times (d ∷ ds) c h = by_place (contains_times ds c) h.0 h.1 h.2
  where
    by_place : (Contains ds c → 1 ≤ times c.place (places ds)) → (k : ℕ) → k < length (d ∷ ds) → slice_index_or (d ∷ ds) k c ≡ c → 1 ≤ times c.place (places (d ∷ ds))
    by_place rest zero less e = rw (eq-eqb d.place c.place (ap (λ (x : Card). x.place) e)) (omega arith)
    by_place rest (suc k) less e = let more : 1 ≤ times c.place (places ds) = rest (k, omega (arith, less), e) in omega (arith, more)

pub none_left : (left : List Left) (place : ℕ) → times place (left_places left) ≡ 0 → All (λ (w : Left). w.card.place ≡ place → ⊥) left
none_left [] place e = All-nil (λ (w : Left). w.card.place ≡ place → ⊥)
none_left (w ∷ ws) place e = by_test (none_left ws place) (w.card.place == place) refl e
  where
    by_test : (times place (left_places ws) ≡ 0 → All (λ (w : Left). w.card.place ≡ place → ⊥) ws) → (b : Bool) → (w.card.place == place) ≡ b → (if b then 1 else 0) + times place (left_places ws) ≡ 0 → All (λ (w : Left). w.card.place ≡ place → ⊥) (w ∷ ws)
    by_test rest true is e = absurd (one_zero e)
      where
        one_zero : 1 + times place (left_places ws) ≡ 0 → ⊥
        one_zero e = omega (arith, e)
    by_test rest false is e =
        All-cons (λ (w : Left). w.card.place ≡ place → ⊥) w ws (eqb-false w.card.place place is) (rest (omega (arith, e)))

-- ---- the queue in order

pub rising_less : (m n : ℕ) (cards : List Card) → m ≤ n → Rising n cards → Rising m cards
rising_less m n [] le h = tt
rising_less m n (c ∷ cs) le h = (omega (arith, le, h.0), h.1)

pub rising_push : (low : ℕ) (cards : List Card) (c : Card) → Rising low cards → low ≤ c.place → All (λ (d : Card). d.place < c.place) cards → Rising low (cards ++ c ∷ [])
rising_push low [] c h le all = (le, tt)
rising_push low (d ∷ ds) c h le all =
    let first : d.place < c.place = All-head (λ (d : Card). d.place < c.place) d ds all in
    (h.0, rising_push (d.place + 1) ds c h.1 (omega (arith, first)) (All-tail (λ (d : Card). d.place < c.place) d ds all))

pub rising_above : (low : ℕ) (cards : List Card) → Rising low cards → All (λ (d : Card). low ≤ d.place) cards
rising_above low [] h = All-nil (λ (d : Card). low ≤ d.place)
rising_above low (c ∷ cs) h =
    All-cons (λ (d : Card). low ≤ d.place) c cs h.0
    (All-weaker (λ (d : Card). c.place + 1 ≤ d.place) (λ (d : Card). low ≤ d.place) (λ d le. omega (arith, le, h.0)) cs (rising_above (c.place + 1) cs h.1))

pub rising_filter : (test : Card → Bool) (low : ℕ) (cards : List Card) → Rising low cards → Rising low (filter test cards)
rising_filter test low [] h = tt
rising_filter test low (c ∷ cs) h = by_test (rising_filter test (c.place + 1) cs h.1) (test c)
  where
    by_test : Rising (c.place + 1) (filter test cs) → (b : Bool) → Rising low (cond b (c ∷ filter test cs) (filter test cs))
    by_test rest true = (h.0, rest)
    by_test rest false = rising_less low (c.place + 1) (filter test cs) (omega (arith, h.0)) rest

-- without one that stands before all of them, and without the front
pub filter_above : (c : Card) (low : ℕ) (cards : List Card) → c.place < low → Rising low cards → without c cards ≡ cards
filter_above c low [] less rising = refl
filter_above c low (d ∷ ds) less rising =
    ap (λ b. cond (not b) (d ∷ without c ds) (without c ds)) (ne_eqb d.place c.place (λ same. omega (arith, same, less, rising.0)))
    ∙ ap (λ cs. d ∷ cs) (filter_above c (d.place + 1) ds (omega (arith, less, rising.0)) rising.1)

pub filter_front : (c : Card) (cards : List Card) (low : ℕ) → Rising low (c ∷ cards) → without c (c ∷ cards) ≡ cards
filter_front c cards low rising =
    ap (λ b. cond (not b) (c ∷ without c cards) (without c cards)) (eq-eqb c.place c.place refl) ∙ filter_above c (c.place + 1) cards (omega arith) rising.1

pub beyond_all : (shown : ℕ) (cards : List Card) → All (λ (d : Card). shown ≤ d.place) cards → Beyond shown cards
beyond_all shown [] h = tt
beyond_all shown (c ∷ cs) h = All-tail (λ (d : Card). shown ≤ d.place) c cs h

pub beyond_push : (shown : ℕ) (cards : List Card) (c : Card) → Beyond shown cards → shown ≤ c.place → Beyond shown (cards ++ c ∷ [])
beyond_push shown [] c h le = All-nil (λ (d : Card). shown ≤ d.place)
beyond_push shown (d ∷ ds) c h le = All-push (λ (d : Card). shown ≤ d.place) ds c h le

pub beyond_filter : (test : Card → Bool) (shown : ℕ) (cards : List Card) → Beyond shown cards → Beyond shown (filter test cards)
beyond_filter test shown [] h = tt
beyond_filter test shown (c ∷ cs) h = by_test (test c)
  where
    by_test : (b : Bool) → Beyond shown (cond b (c ∷ filter test cs) (filter test cs))
    by_test true = All-filter test (λ (d : Card). shown ≤ d.place) cs h
    by_test false = beyond_all shown (filter test cs) (All-filter test (λ (d : Card). shown ≤ d.place) cs h)

-- ---- what was offered, where the queue or what has left changes

pub offer_fewer : (offer : Offer) (sessions shown : ℕ) (cards fewer : List Card) (reports : List Told) (left : List Left)
    → ((P : Card → Type 0) → All P cards → All P fewer) → OfferIs offer sessions shown cards reports left → OfferIs offer sessions shown fewer reports left
offer_fewer NoOffer sessions shown cards fewer reports left keep h = keep (λ (d : Card). All (λ (a : Told). Follows a (sessions, d)) reports) h
offer_fewer (Unreported c) sessions shown cards fewer reports left keep h = (h.0, h.1, keep (IsUpTo c) h.2, h.3)
offer_fewer (Reported c) sessions shown cards fewer reports left keep h = (h.0, h.1, keep (IsUpTo c) h.2, h.3)

pub offer_left : (offer : Offer) (sessions shown : ℕ) (cards : List Card) (reports : List Told) (left more : List Left)
    → ((c : Card) → c.place + 1 ≡ shown → All (LeftNow sessions c) more) → OfferIs offer sessions shown cards reports left → OfferIs offer sessions shown cards reports (left ++ more)
offer_left NoOffer sessions shown cards reports left more all h = h
offer_left (Unreported c) sessions shown cards reports left more all h = (h.0, h.1, h.2, All-append (LeftNow sessions c) left more h.3 (all c h.0))
offer_left (Reported c) sessions shown cards reports left more all h = h
