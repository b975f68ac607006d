-- What ties the ledger to a link.
use Rattle.osdp_link_ledger.proofs.Common.{◌≡◌, ◌≤◌, ◌+◌, ◌⊎◌, ℕ, true, false, cond, List, [], ◌∷◌, ◌++◌, length, Option, Some, None, All, refl, option_to_list, Packet, Command, Event, Reply, State, Closed, EventQueue, AreAllowed, History, runs, steps_on, Card, Ledger, May, NoOffer, Offer, Order, Reported, Step, Unreported, after, keeps, Beyond, Events, IsUpTo, OfferIs, Rising, Link, is_under_way, unreported_in, after_steps, Due}
use Rattle.osdp_link_ledger.proofs.Facts.{none_due, out_of}
use Rattle.osdp_link_ledger.proofs.Lists.{FrontUnshown, IsOfferedFront, StandsAt, commands, events, not_offered}

-- ---- steps of a ledger alone

abbrev pub AllMay : List Step → Ledger → Type 0
AllMay [] g = Unit {0}
AllMay (step ∷ steps) g = May step g × AllMay steps (after step g)

pub all_may_append : (xs ys : List Step) (g : Ledger) → AllMay xs g → AllMay ys (after_steps xs g) → AllMay (xs ++ ys) g
all_may_append [] ys g first last = last
all_may_append (x ∷ xs) ys g first last = (first.0, all_may_append xs ys (after x g) first.1 last)

pub after_append : (xs ys : List Step) (g : Ledger) → after_steps (xs ++ ys) g ≡ after_steps ys (after_steps xs g)
after_append [] ys g = refl
after_append (x ∷ xs) ys g = after_append xs ys (after x g)

pub allowed : (steps : List Step) (h : History) → AllMay steps h.ledger → AreAllowed steps h
allowed [] h may = tt
allowed (step ∷ steps) h may = (may.0, allowed steps (steps_on step h) may.1)

pub runs_after : (steps : List Step) (h : History) → (runs steps h).ledger ≡ after_steps steps h.ledger
runs_after [] h = refl
runs_after (step ∷ steps) h = runs_after steps (steps_on step h)

pub events_keep : (steps : List Step) (h : History) → AllMay steps h.ledger → Events h → Events (runs steps h)
events_keep [] h may i = i
events_keep (step ∷ steps) h may i = events_keep steps (steps_on step h) may.1 (keeps step h may.0 i)

-- ---- where the cards stand

abbrev pub AllUpTo : Offer → List Card → Type 0
AllUpTo NoOffer cards = Unit {0}
AllUpTo (Unreported c) cards = All (IsUpTo c) cards
AllUpTo (Reported c) cards = All (IsUpTo c) cards

pub record Placed (g : Ledger) : Type 0 where
  pub rising : Rising 0 g.cards
  pub beyond : Beyond g.shown g.cards
  pub shown : g.shown ≤ g.queued
  pub stands : StandsAt g.shown g.offer
  pub upto : AllUpTo g.offer g.cards

-- so they stand in each history
pub placed : (h : History) → Events h → Placed h.ledger
placed h i = record {
  rising = i.rising;
  beyond = i.beyond;
  shown = i.shown_is;
  stands = stands h.ledger.offer i.offer_is;
  upto = upto h.ledger.offer i.offer_is;
}
  where
    stands : (offer : Offer) → OfferIs offer h.sessions h.ledger.shown h.ledger.cards h.reports h.left → StandsAt h.ledger.shown offer
    stands NoOffer is = tt
    stands (Unreported c) is = is.0
    stands (Reported c) is = is.0

    upto : (offer : Offer) → OfferIs offer h.sessions h.ledger.shown h.ledger.cards h.reports h.left → AllUpTo offer h.ledger.cards
    upto NoOffer is = tt
    upto (Unreported c) is = is.2
    upto (Reported c) is = is.2

-- ---- a session

-- nothing was acted on that isn't settled, or the order in front was
pub record NothingOwed (done : Option Reply) (answers : List (Command × Reply)) : Type 0 where
  pub acted : done ≡ None
  pub owing : answers ≡ []

pub record OneOwed (orders : List Order) (done : Option Reply) (answers : List (Command × Reply)) : Type 0 where
  pub order : Order
  pub rest : List Order
  pub answer : Reply
  pub ahead : orders ≡ order ∷ rest
  pub acted : done ≡ Some answer
  pub owing : answers ≡ (order.command, answer) ∷ []

abbrev pub ActedIs : List Order → Option Reply → List (Command × Reply) → Type 0
ActedIs ahead acted owing = NothingOwed acted owing ⊎ OneOwed ahead acted owing

-- the events of the queue that were offered in this session are counted while its front is offered: one that has lapsed stands there no more
pub record OffersAre (q : EventQueue) (waits : List Event) (stands : ℕ) (offer : Offer) (cards : List Card) : Type 0 where
  pub untold : waits ≡ unreported_in offer
  pub front : q.offered ≡ true → (offer ≡ NoOffer) ⊎ IsOfferedFront offer cards
  pub counts : length q.events ≡ cond q.offered stands 0 + length (not_offered offer cards)

-- no packet of the session has gone out yet
pub record IsUnopened (state : State) (ps qs : List Packet) (d : Due) (done : Option Reply) : Type 0 where
  pub way : is_under_way state ≡ false
  pub to_reader : ps ≡ []
  pub to_controller : qs ≡ []
  pub empty : d ≡ none_due
  pub acted : done ≡ None

-- what a session has of orders: it is under way, or over
pub record Lasts (state : State) (owing : List (Command × Reply)) (ahead : List Order) (now : Option Reply) (still : Option Order) : Type 0 where
  pub way : is_under_way state ≡ true
  pub acted : ActedIs ahead now owing
  pub late : still ≡ None

pub record HasEnded (state : State) (pend : List Command) (now : Option Reply) (still : Option Order) : Type 0 where
  pub closed : state ≡ Closed
  pub acted : now ≡ None
  pub late : commands (option_to_list still) ≡ pend

abbrev pub OrdersAre : State → Due → Ledger → Type 0
OrdersAre state d g = Lasts state d.owing g.ahead g.acted g.late ⊎ HasEnded state d.pend g.acted g.late

abbrev pub SessionIs : State → EventQueue → List Packet → List Packet → Due → Ledger → Type 0
SessionIs state q ps qs d g = IsUnopened state ps qs d g.acted ⊎ (OrdersAre state d g × OffersAre q d.untold d.stands g.offer g.cards)

pub record Ties (state : State) (waiting : List Command) (q : EventQueue) (ps qs : List Packet) (d : Due) (g : Ledger) : Type 0 where
  pub ahead : commands g.ahead ≡ out_of state ++ waiting
  pub is_open : g.is_open ≡ is_under_way state
  pub cards : events g.cards ≡ q.events
  pub front : q.ever_offered ≡ false → FrontUnshown g.shown g.cards
  pub session : SessionIs state q ps qs d g

abbrev pub IsTied : {H : Type 0} → Link H → Due → Ledger → Type 0
IsTied {H} l d g = Ties l.controller.session.state l.controller.waiting l.reader.queue l.to_reader l.to_controller d g

-- steps may happen, and the ledger after them is tied
abbrev pub Leads : List Step → Ledger → (Ledger → Type 0) → Type 0
Leads steps g Tied = AllMay steps g × Tied (after_steps steps g)
