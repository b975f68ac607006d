-- What waits in the device's queue, what it offers, what has left and what is reported was queued.
use Rattle.osdp_ledger.proofs.Common.{true, false, not, ◌==◌, List, [], ◌∷◌, ◌++◌, subst, All, Contains, All-append, All-contains, All-filter, All-head, All-nil, All-push, All-weaker, Contains-push, Contains-append_left, Card, May, NoOffer, Offer, Reported, Unreported, Step, Open, Act, Queue, Offers, Report, Leave, WithdrawEvent, Lapse, RestartDevice, RestartPanel, acted_on, is_in_front, panel_restarted, History, Left, ThrownAway, new_history, steps_on, All-drop, All-map}
use Rattle.osdp_ledger.proofs.Waiting.{Told}

abbrev pub OfferQueued : List Card → Offer → Type 0
OfferQueued queued NoOffer = Unit {0}
OfferQueued queued (Unreported c) = Contains queued c
OfferQueued queued (Reported c) = Unit {0}

abbrev pub WasQueued : List Card → Told → Type 0
WasQueued queued told = Contains queued told.1

abbrev pub HasLeft : List Card → Left → Type 0
HasLeft queued w = Contains queued w.card

pub record AreKnown (cards : List Card) (offer : Offer) (queued : List Card) (left : List Left) (reports : List Told) : Type 0 where
  pub waiting : All (Contains queued) cards
  pub offered : OfferQueued queued offer
  pub gone : All (HasLeft queued) left
  pub told : All (WasQueued queued) reports

abbrev pub Known : History → Type 0
Known h = AreKnown h.ledger.cards h.ledger.offer h.queued h.left h.reports

offer_later : (queued : List Card) (c : Card) (offer : Offer) → OfferQueued queued offer → OfferQueued (queued ++ c ∷ []) offer
offer_later queued c NoOffer i = tt
offer_later queued c (Unreported b) i = Contains-append_left queued (c ∷ []) b i
offer_later queued c (Reported b) i = tt

queued_now : (c : Card) (cards : List Card) (offer : Offer) (queued : List Card) (left : List Left) (reports : List Told)
    → AreKnown cards offer queued left reports → AreKnown (cards ++ c ∷ []) offer (queued ++ c ∷ []) left reports
queued_now c cards offer queued left reports i = record {
  waiting = All-push (Contains (queued ++ c ∷ [])) cards c
      (All-weaker (Contains queued) (Contains (queued ++ c ∷ [])) (λ d. Contains-append_left queued (c ∷ []) d) cards i.waiting) (Contains-push queued c);
  offered = offer_later queued c offer i.offered;
  gone = All-weaker (HasLeft queued) (HasLeft (queued ++ c ∷ [])) (λ w. Contains-append_left queued (c ∷ []) w.card) left i.gone;
  told = All-weaker (WasQueued queued) (WasQueued (queued ++ c ∷ [])) (λ a. Contains-append_left queued (c ∷ []) a.1) reports i.told;
}

front_queued : (c : Card) (h : History) → is_in_front c h.ledger.cards → Known h → Contains h.queued c
front_queued c h front i = All-head (Contains h.queued) c front.0 (subst (All (Contains h.queued)) front.1 i.waiting)

pub keeps_known : (step : Step) (h : History) → May step h.ledger → Known h → Known (steps_on step h)
keeps_known Open h may i = record { waiting = i.waiting; offered = tt; gone = i.gone; told = i.told }
keeps_known (Act o answer) h may i =
    elim h.ledger.is_open as (λ b. (let l = acted_on b answer h.ledger in AreKnown l.cards l.offer h.queued h.left h.reports)) [ true ↦ i | false ↦ i ]
keeps_known (Queue c) h may i = queued_now c h.ledger.cards h.ledger.offer h.queued h.left h.reports i
keeps_known (Offers c) h may i = record {
  waiting = i.waiting;
  offered = front_queued c h may.2 i;
  gone = i.gone;
  told = i.told;
}
keeps_known (Report c) h may i = record {
  waiting = i.waiting;
  offered = tt;
  gone = i.gone;
  told = All-push (WasQueued h.queued) h.reports (h.sessions, c) i.told (subst (OfferQueued h.queued) may.1 i.offered);
}
keeps_known (Leave c) h may i = record {
  waiting = All-drop (Contains h.queued) 1 h.ledger.cards i.waiting;
  offered = tt;
  gone = All-push (HasLeft h.queued) h.left _ i.gone (front_queued c h may.0 i);
  told = i.told;
}
keeps_known (WithdrawEvent c) h may i = record {
  waiting = All-filter (λ d. not (d.place == c.place)) (Contains h.queued) h.ledger.cards i.waiting;
  offered = i.offered;
  gone = All-push (HasLeft h.queued) h.left _ i.gone (All-contains (Contains h.queued) h.ledger.cards c i.waiting may.0);
  told = i.told;
}
keeps_known (Lapse c) h may i = record {
  waiting = All-drop (Contains h.queued) 1 h.ledger.cards i.waiting;
  offered = i.offered;
  gone = All-push (HasLeft h.queued) h.left _ i.gone (front_queued c h may.0 i);
  told = i.told;
}
keeps_known RestartDevice h may i = record {
  waiting = All-nil (Contains h.queued);
  offered = i.offered;
  gone = All-append (HasLeft h.queued) h.left _ i.gone
      (All-map (HasLeft h.queued) (λ c. record { session = h.sessions; card = c; why = ThrownAway }) h.ledger.cards i.waiting);
  told = i.told;
}
keeps_known (RestartPanel on_wire) h may i =
    elim h.ledger.is_open as (λ b. (let l = panel_restarted on_wire b h.ledger in AreKnown l.cards l.offer h.queued h.left h.reports)) [ true ↦ i | false ↦ i ]
keeps_known _ h may i = i

pub none_known : Known new_history
none_known = record { waiting = All-nil (Contains []); offered = tt; gone = All-nil (HasLeft []); told = All-nil (WasQueued []) }
