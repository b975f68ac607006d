-- Lists of orders and of cards, and how long they are.
use Rattle.osdp_link_ledger.proofs.Common.{◌≡◌, ◌≢◌, ◌≤◌, ◌+◌, ◌==◌, ℕ, Bool, true, false, not, cond, List, [], ◌∷◌, ◌++◌, length, map, drop, filter, refl, ap, ◌∙◌, arith, length-append, Command, Event, Card, NoOffer, Offer, Order, Reported, Unreported, is_in_front, Rising, card_at, order_at, filter_front}
use Rattle.std.proofs.lemmas.Bool.{ne_eqb}

abbrev pub commands : List Order → List Command
commands = map (λ o. o.command)

abbrev pub events : List Card → List Event
events = map (λ c. c.event)

-- no more than none are counted
pub none_counted : (b : Bool) (n : ℕ) → n ≡ 0 → cond b n 0 ≡ 0
none_counted true n none = none
none_counted false n none = refl

-- ---- orders

-- the order in front is this command's
pub front_order : (ahead : List Order) (c : Command) (waiting : List Command) → commands ahead ≡ c ∷ waiting
    → (ahead ≡ order_at ahead c ∷ drop 1 ahead) × (commands (drop 1 ahead) ≡ waiting)
front_order [] c waiting is = absurd cc
front_order (o ∷ rest) c waiting is =
    let same : o.command ≡ c = cc in
    let others : commands rest ≡ waiting = cc in
    (ap (λ command. record { place = o.place; command = command } ∷ rest) same, others)

-- ---- cards

pub front_card : (cards : List Card) (e : Event) (rest : List Event) → events cards ≡ e ∷ rest
    → (cards ≡ card_at cards e ∷ drop 1 cards) × (events (drop 1 cards) ≡ rest)
front_card [] e rest is = absurd cc
front_card (c ∷ cs) e rest is =
    let same : c.event ≡ e = cc in
    let others : events cs ≡ rest = cc in
    (ap (λ event. record { place = c.place; event = event } ∷ cs) same, others)

-- those after the one that was offered last
abbrev pub after_card : Card → List Card → List Card
after_card c [] = []
after_card c (d ∷ ds) = cond (d.place == c.place) ds (d ∷ ds)

-- .. that weren't offered in this session
abbrev pub not_offered : Offer → List Card → List Card
not_offered NoOffer cards = cards
not_offered (Unreported c) cards = after_card c cards
not_offered (Reported c) cards = after_card c cards

abbrev pub IsOfferedFront : Offer → List Card → Type 0
IsOfferedFront NoOffer cards = ⊥
IsOfferedFront (Unreported c) cards = is_in_front c cards
IsOfferedFront (Reported c) cards = is_in_front c cards

abbrev pub FrontUnshown : ℕ → List Card → Type 0
FrontUnshown shown [] = Unit {0}
FrontUnshown shown (c ∷ cs) = shown ≤ c.place

-- the place of the offered card is before all that were never offered
abbrev pub StandsAt : ℕ → Offer → Type 0
StandsAt shown NoOffer = Unit {0}
StandsAt shown (Unreported c) = c.place + 1 ≡ shown
StandsAt shown (Reported c) = c.place + 1 ≡ shown

pub never_before : (shown : ℕ) (c : Card) (cards : List Card) → c.place + 1 ≡ shown → FrontUnshown shown cards → after_card c cards ≡ cards
never_before shown c [] stands front = refl
never_before shown c (d ∷ ds) stands front =
    ap (λ b. cond b ds (d ∷ ds)) (ne_eqb d.place c.place (λ same. omega (arith, same, stands, front)))

pub all_unoffered : (shown : ℕ) (offer : Offer) (cards : List Card) → StandsAt shown offer → FrontUnshown shown cards → not_offered offer cards ≡ cards
all_unoffered shown NoOffer cards stands front = refl
all_unoffered shown (Unreported c) cards stands front = never_before shown c cards stands front
all_unoffered shown (Reported c) cards stands front = never_before shown c cards stands front

-- one more comes last
after_more : (c new : Card) (cards : List Card) → new.place ≢ c.place → length (after_card c (cards ++ new ∷ [])) ≡ length (after_card c cards) + 1
after_more c new [] other = ap (λ b. length (cond b [] (new ∷ []))) (ne_eqb new.place c.place other)
after_more c new (d ∷ ds) other = by_test (d.place == c.place)
  where
    by_test : (b : Bool) → length (cond b (ds ++ new ∷ []) (d ∷ (ds ++ new ∷ []))) ≡ length (cond b ds (d ∷ ds)) + 1
    by_test true = length-append ds (new ∷ [])
    by_test false = omega (arith, length-append ds (new ∷ []))

pub one_more_unoffered : (shown : ℕ) (offer : Offer) (new : Card) (cards : List Card) → StandsAt shown offer → shown ≤ new.place
    → length (not_offered offer (cards ++ new ∷ [])) ≡ length (not_offered offer cards) + 1
one_more_unoffered shown NoOffer new cards stands above = length-append cards (new ∷ [])
one_more_unoffered shown (Unreported c) new cards stands above = after_more c new cards (λ same. omega (arith, same, stands, above))
one_more_unoffered shown (Reported c) new cards stands above = after_more c new cards (λ same. omega (arith, same, stands, above))

pub still_front : (offer : Offer) (cards more : List Card) → IsOfferedFront offer cards → IsOfferedFront offer (cards ++ more)
still_front NoOffer cards more front = front
still_front (Unreported c) cards more (rest, is) = (rest ++ more, ap (λ cs. cs ++ more) is)
still_front (Reported c) cards more (rest, is) = (rest ++ more, ap (λ cs. cs ++ more) is)

pub front_more : (shown : ℕ) (cards : List Card) (new : Card) → shown ≤ new.place → FrontUnshown shown cards → FrontUnshown shown (cards ++ new ∷ [])
front_more shown [] new above front = above
front_more shown (c ∷ cs) new above front = front

-- without the second
pub filter_second : (front c : Card) (cards : List Card) (low : ℕ) → Rising low (front ∷ c ∷ cards)
    → filter (λ d. not (d.place == c.place)) (front ∷ c ∷ cards) ≡ front ∷ cards
filter_second front c cards low rising =
    ap (λ b. cond (not b) (front ∷ filter (λ x. not (x.place == c.place)) (c ∷ cards)) (filter (λ x. not (x.place == c.place)) (c ∷ cards)))
    (ne_eqb front.place c.place (λ same. omega (arith, same, rising.1.0)))
    ∙ ap (λ cs. front ∷ cs) (filter_front c cards (front.place + 1) rising.1)
