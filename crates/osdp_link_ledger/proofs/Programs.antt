-- What programs do, and a loss of power: the ledger stays tied.
use Rattle.osdp_link_ledger.proofs.Common.{◌≡◌, ◌+◌, ◌⊎◌, ℕ, Bool, true, false, List, [], ◌∷◌, ◌++◌, length, map, is_some, Option, Some, None, refl, sym, subst, ap, ◌∙◌, inl, inr, arith, append_assoc, append-nil, length-append, length-map, map-append, Packet, Command, Event, Reply, ControllerFault, State, Closed, Waiting, Pausing, Card, Ledger, May, NoOffer, Offer, Order, Reported, RestartDevice, RestartPanel, Unreported, late_after, late_at_restart, panel_restarted, asked, Link, outstanding_command, is_under_way, queues, submits, withdraws, Due, nil_from_length}
use Rattle.std.specs.Prelude.{drop, option_to_list}
use Rattle.osdp_msg.specs.declared.limits.Room.{Room}
use Rattle.osdp_controller.specs.Machine as controllers
use Rattle.osdp_controller_laws.proofs.Closed.{was_closed}
use Rattle.osdp_reader.specs.Queue.{Queue as EventQueue, empty_queue, queued}
use Rattle.osdp_link_laws.specs.Link as link
use Rattle.osdp_link_laws.proofs.OnItsWay.{kept_beside, kept_is, withdrawn_beside, withdrawn_is}
use Rattle.osdp_link_ledger.proofs.Facts.{OutIs, out_of, reopened}
use Rattle.osdp_link_ledger.proofs.Lists.{IsOfferedFront, commands, front_more, front_order, not_offered, one_more_unoffered, still_front}
use Rattle.osdp_link_ledger.proofs.Ties.{ActedIs, IsTied, Lasts, Leads, OffersAre, Placed, SessionIs, Ties}

-- ---- a command is submitted

acted_longer : (ahead : List Order) (o : Order) (acted : Option Reply) (owing : List (Command × Reply)) → ActedIs ahead acted owing → ActedIs (ahead ++ o ∷ []) acted owing
acted_longer ahead o acted owing (inl none) = inl none
acted_longer ahead o acted owing (inr one) = inr (record {
  order = one.order;
  rest = one.rest ++ o ∷ [];
  answer = one.answer;
  ahead = ap (λ os. os ++ o ∷ []) one.ahead;
  acted = one.acted;
  owing = one.owing;
})

submitted_session : (state : State) (q : EventQueue) (ps qs : List Packet) (d : Due) (g : Ledger) (o : Order) → SessionIs state q ps qs d g
    → SessionIs state q ps qs d (record g { submitted = g.submitted + 1; ahead = g.ahead ++ o ∷ [] })
submitted_session state q ps qs d g o (inl s) = inl s
submitted_session state q ps qs d g o (inr (inl s, offers)) =
    inr (inl (record { way = s.way; acted = acted_longer g.ahead o g.acted d.owing s.acted; late = s.late }), offers)
submitted_session state q ps qs d g o (inr (inr s, offers)) = inr (inr s, offers)

pub submitting : {H : Type 0} → (refusal : Option ControllerFault) (c : Command) (l : Link H) (d : Due) (g : Ledger) → IsTied l d g
    → Leads (submits refusal c g) g (IsTied (link.submits refusal c l) d)
submitting {H} (Some fault) c l d g h = (tt, h)
submitting {H} None c l d g h =
    let o : Order = record { place = g.submitted; command = c } in (
      (refl, tt),
      record {
        ahead = map-append (λ (o : Order). o.command) g.ahead (o ∷ []) ∙ ap (λ cs. cs ++ c ∷ []) h.ahead
            ∙ append_assoc (out_of l.controller.session.state) l.controller.waiting (c ∷ []);
        is_open = h.is_open;
        cards = h.cards;
        front = h.front;
        session = submitted_session l.controller.session.state l.reader.queue l.to_reader l.to_controller d g o h.session;
      },
    )

-- ---- an event is queued

queued_offers : (q : EventQueue) (e : Event) (waits : List Event) (stands : ℕ) (g : Ledger) → Placed g → OffersAre q waits stands g.offer g.cards
    → OffersAre (queued e q) waits stands g.offer (g.cards ++ record { place = g.queued; event = e } ∷ [])
queued_offers q e waits stands g placed o =
    let new : Card = record { place = g.queued; event = e } in
    record {
      untold = o.untold;
      front = λ on. by_front (o.front on);
      counts = omega (arith, o.counts, length-append q.events (e ∷ []), one_more_unoffered g.shown g.offer new g.cards placed.stands placed.shown);
    }
  where
    by_front : (g.offer ≡ NoOffer) ⊎ IsOfferedFront g.offer g.cards → (g.offer ≡ NoOffer) ⊎ IsOfferedFront g.offer (g.cards ++ record { place = g.queued; event = e } ∷ [])
    by_front (inl none) = inl none
    by_front (inr front) = inr (still_front g.offer g.cards (record { place = g.queued; event = e } ∷ []) front)

queued_session : (state : State) (q : EventQueue) (ps qs : List Packet) (d : Due) (g : Ledger) (e : Event) → Placed g → SessionIs state q ps qs d g
    → SessionIs state (queued e q) ps qs d (record g { queued = g.queued + 1; cards = g.cards ++ record { place = g.queued; event = e } ∷ [] })
queued_session state q ps qs d g e placed (inl s) = inl s
queued_session state q ps qs d g e placed (inr (orders, o)) = inr (orders, queued_offers q e d.untold d.stands g placed o)

pub queueing : {H : Type 0} → (full : Bool) (e : Event) (l : Link H) (d : Due) (g : Ledger) → Placed g → IsTied l d g
    → Leads (queues full e g) g (IsTied (link.queues full e l) d)
queueing {H} true e l d g placed h = (tt, h)
queueing {H} false e l d g placed h =
    let c : Card = record { place = g.queued; event = e } in (
      (refl, tt),
      record {
        ahead = h.ahead;
        is_open = h.is_open;
        cards = map-append (λ (c : Card). c.event) g.cards (c ∷ []) ∙ ap (λ es. es ++ e ∷ []) h.cards;
        front = λ never. front_more g.shown g.cards c placed.shown (h.front never);
        session = queued_session l.controller.session.state l.reader.queue l.to_reader l.to_controller d g e placed h.session;
      },
    )

-- ---- a command is withdrawn

-- nothing is outstanding: nothing was acted on, and nothing is late
pub nothing_out : (ahead : List Order) (acted : Option Reply) (owing : List (Command × Reply)) (pend : List Command) → ActedIs ahead acted owing
    → [] ≡ pend ++ map asked owing → (acted ≡ None) × (pend ≡ [])
nothing_out ahead acted owing pend acts out =
    let e : 0 ≡ length (pend ++ map asked owing) = ap length out in
    let both = length-append pend (map asked owing) in
    (by_owing acts, nil_from_length pend (omega (arith, e, both)))
  where
    by_owing : ActedIs ahead acted owing → acted ≡ None
    by_owing (inl none) = none.acted
    by_owing (inr one) =
        let e : 0 ≡ length (pend ++ map asked owing) = ap length out in
        let long : length owing ≡ 1 = ap length one.owing in
        absurd (omega (arith, e, long, length-append pend (map asked owing), length-map owing asked))

-- where none is on its way, none was acted on that isn't told
none_on_way : (state : State) (q : EventQueue) (ps qs : List Packet) (d : Due) (g : Ledger) → outstanding_command state ≡ None → OutIs state d → SessionIs state q ps qs d g
    → g.acted ≡ None
none_on_way state q ps qs d g none f (inl s) = s.acted
none_on_way state q ps qs d g none f (inr (inl s, offers)) = (nothing_out g.ahead g.acted d.owing d.pend s.acted (ap option_to_list (sym none) ∙ f s.way)).0
none_on_way state q ps qs d g none f (inr (inr s, offers)) = s.acted

acted_fewer : (ahead fewer : List Order) (acted : Option Reply) (owing : List (Command × Reply)) → acted ≡ None → ActedIs ahead acted owing → ActedIs fewer acted owing
acted_fewer ahead fewer acted owing none (inl is) = inl is
acted_fewer ahead fewer acted owing none (inr one) = absurd (let some : acted ≡ Some one.answer = one.acted in cc)

fewer_session : (state : State) (q : EventQueue) (ps qs : List Packet) (d : Due) (g : Ledger) (ahead : List Order) → g.acted ≡ None → SessionIs state q ps qs d g
    → SessionIs state q ps qs d (record g { ahead = ahead })
fewer_session state q ps qs d g ahead none (inl s) = inl s
fewer_session state q ps qs d g ahead none (inr (inl s, offers)) =
    inr (inl (record { way = s.way; acted = acted_fewer g.ahead ahead g.acted d.owing none s.acted; late = s.late }), offers)
fewer_session state q ps qs d g ahead none (inr (inr s, offers)) = inr (inr s, offers)

pub withdrawing : (state : State) (waiting : List Command) (q : EventQueue) (ps qs : List Packet) (d : Due) (g : Ledger) → OutIs state d → Ties state waiting q ps qs d g
    → Leads (withdraws (controllers.withdrawn_in state waiting) g) g (Ties state (controllers.kept_in state waiting) q ps qs d)
withdrawing state waiting q ps qs d g f h =
    subst (λ (k : Option Command × List Command). Leads (withdraws k.0 g) g (Ties state k.1 q ps qs d))
    (λ i. (sym (withdrawn_is state waiting) i, sym (kept_is state waiting) i)) (beside (outstanding_command state) refl waiting h)
  where
    beside : (o : Option Command) → outstanding_command state ≡ o → (ws : List Command) → Ties state ws q ps qs d g
        → Leads (withdraws (withdrawn_beside o ws) g) g (Ties state (kept_beside o ws) q ps qs d)
    beside (Some c) out ws is = (tt, is)
    beside None out [] is = (tt, is)
    beside None out (w ∷ rest) is =
        let front = front_order g.ahead w rest (is.ahead ∙ ap (λ o. option_to_list o ++ w ∷ rest) out) in
        let none = none_on_way state q ps qs d g out f is.session in (
          ((none, (drop 1 g.ahead, front.0)), tt),
          record {
            ahead = front.1 ∙ sym (ap (λ o. option_to_list o ++ rest) out);
            is_open = is.is_open;
            cards = is.cards;
            front = is.front;
            session = fewer_session state q ps qs d g (drop 1 g.ahead) none is.session;
          },
        )

-- ---- an address is set

pub retargeting : {H : Type 0} → (refusal : Option ControllerFault) (address : ℕ) (l : Link H) (d : Due) (g : Ledger) → IsTied l d g
    → IsTied (link.retargets refusal address l) d g
retargeting {H} (Some fault) address l d g h = h
retargeting {H} None address l d g h = record { ahead = h.ahead; is_open = h.is_open; cards = h.cards; front = h.front; session = h.session }

-- ---- a packet is lost

losing_session : (state : State) (q : EventQueue) (ps qs xs ys : List Packet) (d : Due) (g : Ledger) → (ps ≡ [] → xs ≡ []) → (qs ≡ [] → ys ≡ [])
    → SessionIs state q ps qs d g → SessionIs state q xs ys d g
losing_session state q ps qs xs ys d g first second (inl s) = inl (record {
  way = s.way;
  to_reader = first s.to_reader;
  to_controller = second s.to_controller;
  empty = s.empty;
  acted = s.acted;
})
losing_session state q ps qs xs ys d g first second (inr s) = inr s

pub losing : (state : State) (waiting : List Command) (q : EventQueue) (ps qs xs ys : List Packet) (d : Due) (g : Ledger)
    → (ps ≡ [] → xs ≡ []) → (qs ≡ [] → ys ≡ []) → Ties state waiting q ps qs d g → Ties state waiting q xs ys d g
losing state waiting q ps qs xs ys d g first second h = record {
  ahead = h.ahead;
  is_open = h.is_open;
  cards = h.cards;
  front = h.front;
  session = losing_session state q ps qs xs ys d g first second h.session;
}

-- ---- a session begins again

none_acted : (state : State) (q : EventQueue) (ps qs : List Packet) (d : Due) (g : Ledger) → state ≡ Closed → SessionIs state q ps qs d g → g.acted ≡ None
none_acted state q ps qs d g closed (inl s) = s.acted
none_acted state q ps qs d g closed (inr (inl s, offers)) = absurd (let e : false ≡ true = ap is_under_way (sym closed) ∙ s.way in cc)
none_acted state q ps qs d g closed (inr (inr s, offers)) = s.acted

pub reopening : {H : Type 0} → (refusal : Option ControllerFault) (ps qs : List Packet) (now : ℕ) (l : Link H) (d : Due) (g : Ledger)
    → controllers.begin_refusal l.controller ≡ refusal → l.to_reader ≡ ps → l.to_controller ≡ qs → IsTied l d g
    → IsTied (link.reopens refusal ps qs now l) (reopened refusal ps qs d) g
reopening {H} (Some fault) ps qs now l d g may here there h = h
reopening {H} None (p ∷ ps) qs now l d g may here there h = h
reopening {H} None [] (q ∷ qs) now l d g may here there h = h
reopening {H} None [] [] now l d g may here there h =
    let closed = was_closed l.controller.session.state may in
    record {
      ahead = h.ahead ∙ ap (λ state. out_of state ++ l.controller.waiting) closed;
      is_open = h.is_open ∙ ap is_under_way closed;
      cards = h.cards;
      front = h.front;
      session = inl (record {
        way = refl;
        to_reader = here;
        to_controller = there;
        empty = refl;
        acted = none_acted l.controller.session.state l.reader.queue l.to_reader l.to_controller d g closed h.session;
      });
    }

-- ---- the device loses power

no_cards : (offer : Offer) → length (not_offered offer []) ≡ 0
no_cards NoOffer = refl
no_cards (Unreported c) = refl
no_cards (Reported c) = refl

-- none of its events is left
abbrev pub without_events : Due → Due
without_events d = record d { stands = 0 }

power_offers : (q : EventQueue) (room : Room) (d : Due) (g : Ledger) → OffersAre q d.untold d.stands g.offer g.cards
    → OffersAre (empty_queue room.messages room.bytes) d.untold 0 g.offer []
power_offers q room d g o = record { untold = o.untold; front = λ on. absurd cc; counts = omega (arith, no_cards g.offer) }

power_session : (state : State) (q : EventQueue) (ps qs : List Packet) (d : Due) (g : Ledger) (room : Room) → SessionIs state q ps qs d g
    → SessionIs state (empty_queue room.messages room.bytes) ps qs (without_events d) (record g { cards = [] })
power_session state q ps qs d g room (inl s) = inl (record {
  way = s.way;
  to_reader = s.to_reader;
  to_controller = s.to_controller;
  empty = ap without_events s.empty;
  acted = s.acted;
})
power_session state q ps qs d g room (inr (orders, o)) = inr (orders, power_offers q room d g o)

pub restarting_device : (state : State) (waiting : List Command) (q : EventQueue) (ps qs : List Packet) (d : Due) (g : Ledger) (room : Room) → Ties state waiting q ps qs d g
    → Leads (RestartDevice ∷ []) g (Ties state waiting (empty_queue room.messages room.bytes) ps qs (without_events d))
restarting_device state waiting q ps qs d g room h = (
  (tt, tt),
  record { ahead = h.ahead; is_open = h.is_open; cards = refl; front = λ never. tt; session = power_session state q ps qs d g room h.session },
)

-- ---- a session that ends over the order in front

-- the outstanding one is late where the device hasn't acted on it
pub front_late : (ahead : List Order) (acted : Option Reply) (owing : List (Command × Reply)) (pend : List Command) (o : Order) (c : Command)
    → ActedIs ahead acted owing → c ∷ [] ≡ pend ++ map asked owing → o.command ≡ c → commands (option_to_list (late_after acted o)) ≡ pend
front_late ahead acted owing pend o c acts out command = by_owing acts
  where
    by_owing : ActedIs ahead acted owing → commands (option_to_list (late_after acted o)) ≡ pend
    by_owing (inl none) =
        ap (λ a. commands (option_to_list (late_after a o))) none.acted ∙ ap (λ x. x ∷ []) command ∙ out
        ∙ ap (λ os. pend ++ map asked os) none.owing ∙ append-nil pend
    by_owing (inr one) =
        let e : 1 ≡ length (pend ++ map asked owing) = ap length out in
        let long : length owing ≡ 1 = ap length one.owing in
        ap (λ a. commands (option_to_list (late_after a o))) one.acted
        ∙ sym (nil_from_length pend (omega (arith, e, long, length-append pend (map asked owing), length-map owing asked)))

-- ---- the panel loses power

pub none_outstanding : (state : State) → is_under_way state ≡ false → outstanding_command state ≡ None
none_outstanding (Waiting until sends out) over = cc
none_outstanding (Pausing until out) over = cc
none_outstanding _ over = refl

idle_panel : (state : State) (waiting : List Command) (q : EventQueue) (ps qs : List Packet) (d : Due) (g : Ledger) → is_under_way state ≡ false → g.is_open ≡ false → g.acted ≡ None
    → Ties state waiting q ps qs d g → SessionIs Closed q ps qs d (record g { ahead = [] })
    → Leads (RestartPanel (is_some (outstanding_command state)) ∷ []) g (Ties Closed [] q ps qs d)
idle_panel state waiting q ps qs d g over closed none h session = (
  (subst (λ o. May (RestartPanel (is_some o)) g) (sym (none_outstanding state over)) none, tt),
  subst (λ b. Ties Closed [] q ps qs d (panel_restarted (is_some (outstanding_command state)) b g)) (sym closed) (record {
    ahead = refl;
    is_open = closed;
    cards = h.cards;
    front = h.front;
    session = session;
  }),
)

-- in a session
busy_panel : {H : Type 0} → (l : Link H) (d : Due) (g : Ledger) (out : Option Command) → outstanding_command l.controller.session.state ≡ out → OutIs l.controller.session.state d
    → IsTied l d g → Lasts l.controller.session.state d.owing g.ahead g.acted g.late → OffersAre l.reader.queue d.untold d.stands g.offer g.cards
    → Leads (RestartPanel (is_some out) ∷ []) g (Ties Closed [] l.reader.queue l.to_reader l.to_controller d)
busy_panel {H} l d g out is f h s offers =
    let under_way : g.is_open ≡ true = h.is_open ∙ s.way in (
      (may out is g.ahead refl, tt),
      subst (λ b. Ties Closed [] l.reader.queue l.to_reader l.to_controller d (panel_restarted (is_some out) b g)) (sym under_way) (record {
        ahead = refl;
        is_open = refl;
        cards = h.cards;
        front = h.front;
        session = inr (inr (record { closed = refl; acted = refl; late = late out is g.ahead refl }), offers);
      }),
    )
  where
    may : (out : Option Command) → outstanding_command l.controller.session.state ≡ out → (ahead : List Order) → g.ahead ≡ ahead → May (RestartPanel (is_some out)) g
    may (Some c) is [] same =
        let e : commands [] ≡ option_to_list (Some c) ++ l.controller.waiting = ap commands (sym same) ∙ h.ahead ∙ ap (λ o. option_to_list o ++ l.controller.waiting) is in absurd cc
    may (Some c) is (o ∷ rest) same = (h.is_open ∙ s.way, o, (rest, same))
    may None is ahead same = (nothing_out g.ahead g.acted d.owing d.pend s.acted (ap option_to_list (sym is) ∙ f s.way)).0

    late : (out : Option Command) → outstanding_command l.controller.session.state ≡ out → (ahead : List Order) → g.ahead ≡ ahead
        → commands (option_to_list (late_at_restart (is_some out) g.acted ahead)) ≡ d.pend
    late None is ahead same = sym (nothing_out g.ahead g.acted d.owing d.pend s.acted (ap option_to_list (sym is) ∙ f s.way)).1
    late (Some c) is [] same =
        let e : commands [] ≡ option_to_list (Some c) ++ l.controller.waiting = ap commands (sym same) ∙ h.ahead ∙ ap (λ o. option_to_list o ++ l.controller.waiting) is in absurd cc
    late (Some c) is (o ∷ rest) same =
        let e : commands (o ∷ rest) ≡ option_to_list (Some c) ++ l.controller.waiting = ap commands (sym same) ∙ h.ahead ∙ ap (λ o. option_to_list o ++ l.controller.waiting) is in
        let command : o.command ≡ c = cc in
        front_late g.ahead g.acted d.owing d.pend o c s.acted (ap option_to_list (sym is) ∙ f s.way) command

pub restarting_panel : {H : Type 0} → (l : Link H) (d : Due) (g : Ledger) → OutIs l.controller.session.state d → IsTied l d g
    → Leads (RestartPanel (is_some (outstanding_command l.controller.session.state)) ∷ []) g (Ties Closed [] l.reader.queue l.to_reader l.to_controller d)
restarting_panel {H} l d g f h = by_session h.session
  where
    state : State
    state = l.controller.session.state

    by_session : SessionIs l.controller.session.state l.reader.queue l.to_reader l.to_controller d g
        → Leads (RestartPanel (is_some (outstanding_command l.controller.session.state)) ∷ []) g (Ties Closed [] l.reader.queue l.to_reader l.to_controller d)
    by_session (inl s) =
        idle_panel state l.controller.waiting l.reader.queue l.to_reader l.to_controller d g s.way (h.is_open ∙ s.way) s.acted h
        (inl (record { way = refl; to_reader = s.to_reader; to_controller = s.to_controller; empty = s.empty; acted = s.acted }))
    by_session (inr (inl s, offers)) = busy_panel l d g (outstanding_command state) refl f h s offers
    by_session (inr (inr s, offers)) =
        idle_panel state l.controller.waiting l.reader.queue l.to_reader l.to_controller d g (ap is_under_way s.closed) (h.is_open ∙ ap is_under_way s.closed) s.acted h
        (inr (inr (record { closed = refl; acted = s.acted; late = s.late }), offers))
