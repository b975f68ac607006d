-- What a report says: the ledger stays tied.
use Rattle.osdp_link_ledger.proofs.Common.{◌≡◌, ◌+◌, ◌⊎◌, ℕ, suc, true, cond, List, [], ◌∷◌, ◌++◌, length, map, drop, Option, Some, None, refl, sym, subst, ap, ◌∙◌, inl, inr, arith, length-append, length-map, option_to_list, Packet, Command, Event, Reply, Report, State, Closed, Close, Doubt, Ledger, NoOffer, Offer, Reported, Settle, Unreported, asked, Link, is_under_way, unreported_in, offered_at, order_at, told, Due, IsTold, nil_from_length}
use Rattle.osdp_msg.specs.declared.reply.Reply.TheVariants as reply
use Rattle.osdp_controller.specs.declared.report.Report.TheVariants as report
use Rattle.osdp_ledger.specs.Ledger as ledger
use Rattle.osdp_link_ledger.proofs.Facts.{DueAfterReport, OutIs, none_told, out_of}
use Rattle.osdp_link_ledger.proofs.Lists.{IsOfferedFront, commands, front_order, not_offered}
use Rattle.osdp_link_ledger.proofs.Programs.{front_late, nothing_out}
use Rattle.osdp_link_ledger.proofs.Telling.{Stays, Tells}
use Rattle.osdp_link_ledger.proofs.Ties.{ActedIs, IsTied, Lasts, Leads, OffersAre, Ties}
use Rattle.osdp_link_ledger.proofs.Told.{command_at}

module _ {H : Type 0} (l : Link H) (d : Due) (g : Ledger) (f : OutIs l.controller.session.state d) (h : IsTied l d g) (s : Lasts l.controller.session.state d.owing g.ahead g.acted g.late)
    (o : OffersAre l.reader.queue d.untold d.stands g.offer g.cards) where
  abbrev state : State
  state = l.controller.session.state

  -- the controller is in this state, and this is due
  abbrev pub Becomes : State → List Packet → List Packet → Due → Ledger → Type 0
  Becomes new ps qs e g = Ties new l.controller.waiting l.reader.queue ps qs e g

  under_way : g.is_open ≡ true
  under_way = h.is_open ∙ s.way

  -- as many are counted
  counted : {m n : ℕ} → m ≡ n → cond l.reader.queue.offered m 0 ≡ cond l.reader.queue.offered n 0
  counted same = ap (λ n. cond l.reader.queue.offered n 0) same

  -- what was offered stays so
  offers_stay : (e : Due) → e.untold ≡ d.untold → e.stands ≡ d.stands → OffersAre l.reader.queue e.untold e.stands g.offer g.cards
  offers_stay e untold stands = record { untold = untold ∙ o.untold; front = o.front; counts = omega (arith, o.counts, counted stands) }

  stays : (e : Due) (new : State) (ps qs : List Packet) → e ≡ d → Stays state new → Becomes new ps qs e g
  stays e new ps qs due same = subst (λ x. Becomes new ps qs x g) (sym due) (record {
    ahead = h.ahead ∙ ap (λ cs. cs ++ l.controller.waiting) (sym same.0);
    is_open = h.is_open ∙ sym same.1;
    cards = h.cards;
    front = h.front;
    session = inr (inl (record { way = same.1 ∙ s.way; acted = s.acted; late = s.late }), o);
  })

  -- ---- the answer comes

  settled_is : (c : Command) (a : Reply) (owing : List (Command × Reply)) → d.owing ≡ (c, a) ∷ owing → (g.acted ≡ Some a) × (owing ≡ [])
  settled_is c a owing is = by_owing s.acted
    where
      by_owing : ActedIs g.ahead g.acted d.owing → (g.acted ≡ Some a) × (owing ≡ [])
      by_owing (inl none) = let e : (c, a) ∷ owing ≡ [] = sym is ∙ none.owing in absurd cc
      by_owing (inr one) =
          let e : (c, a) ∷ owing ≡ (one.order.command, one.answer) ∷ [] = sym is ∙ one.owing in
          let pair : ◌≡◌ {A = Command × Reply} (c, a) (one.order.command, one.answer) = cc in
          let rest : owing ≡ [] = cc in
          (one.acted ∙ ap Some (sym (ap (λ (p : Command × Reply). p.1) pair)), rest)

  -- the command was outstanding and is acted on, so none is late
  none_late : (c : Command) (a : Reply) (owing : List (Command × Reply)) → out_of state ≡ c ∷ [] → d.owing ≡ (c, a) ∷ owing → d.pend ≡ []
  none_late c a owing out is =
      let long : length d.owing ≡ suc (length owing) = ap length is in
      let e : 1 ≡ length (d.pend ++ map asked d.owing) = ap length (sym out ∙ f s.way) in
      nil_from_length d.pend (omega (arith, e, long, length-append d.pend (map asked d.owing), length-map d.owing asked))

  settling : (c : Command) (a : Reply) (e : Due) (new : State) (ps qs : List Packet) → out_of state ≡ c ∷ [] → is_under_way new ≡ true → out_of new ≡ []
      → IsTold ((c, a) ∷ []) [] d e → Leads (Settle (order_at g.ahead c) a ∷ []) g (Becomes new ps qs e)
  settling c a e new ps qs out way none later =
      let front = front_order g.ahead c l.controller.waiting (h.ahead ∙ ap (λ cs. cs ++ l.controller.waiting) out) in
      let now = settled_is c a e.owing later.owing in (
        ((under_way, (drop 1 g.ahead, front.0), now.0), tt),
        record {
          ahead = front.1 ∙ ap (λ cs. cs ++ l.controller.waiting) (sym none);
          is_open = under_way ∙ sym way;
          cards = h.cards;
          front = h.front;
          session = inr (
            inl (record { way = way; acted = inl (record { acted = refl; owing = now.1 }); late = s.late }),
            offers_stay e (sym later.untold) later.stands,
          );
        },
      )

  -- .. and moves the device: the session ends
  moving : (c : Command) (a : Reply) (e : Due) (new : State) (ps qs : List Packet) → out_of state ≡ c ∷ [] → new ≡ Closed → IsTold ((c, a) ∷ []) [] d e
      → Leads (Settle (order_at g.ahead c) a ∷ Close ∷ []) g (Becomes new ps qs e)
  moving c a e new ps qs out closed later =
      let front = front_order g.ahead c l.controller.waiting (h.ahead ∙ ap (λ cs. cs ++ l.controller.waiting) out) in
      let now = settled_is c a e.owing later.owing in (
        ((under_way, (drop 1 g.ahead, front.0), now.0), ((under_way, refl), tt)),
        record {
          ahead = front.1 ∙ ap (λ state. out_of state ++ l.controller.waiting) (sym closed);
          is_open = sym (ap is_under_way closed);
          cards = h.cards;
          front = h.front;
          session = inr (
            inr (record {
              closed = closed;
              acted = refl;
              late = ap (λ late. commands (option_to_list late)) s.late ∙ sym (later.pend ∙ none_late c a e.owing out later.owing);
            }),
            offers_stay e (sym later.untold) later.stands,
          );
        },
      )

  -- ---- an event comes

  reporting : (offer : Offer) (event : Event) (e : Due) (new : State) (ps qs : List Packet) → g.offer ≡ offer → Stays state new → IsTold [] (event ∷ []) d e
      → Leads (ledger.Report (offered_at offer event) ∷ []) g (Becomes new ps qs e)
  reporting offer event e new ps qs is same later = by_offer offer is (ap unreported_in (sym is) ∙ sym o.untold ∙ later.untold)
    where
      by_offer : (offer : Offer) → g.offer ≡ offer → unreported_in offer ≡ event ∷ e.untold
          → Leads (ledger.Report (offered_at offer event) ∷ []) g (Becomes new ps qs e)
      by_offer NoOffer is first = absurd cc
      by_offer (Reported c) is first = absurd cc
      by_offer (Unreported c) is first =
          let name : c.event ≡ event = cc in
          let rest : [] ≡ e.untold = cc in
          let card : c ≡ record { place = c.place; event = event } = ap (λ event. record { place = c.place; event = event }) name in (
            ((under_way, is ∙ ap Unreported card), tt),
            record {
              ahead = h.ahead ∙ ap (λ cs. cs ++ l.controller.waiting) (sym same.0);
              is_open = h.is_open ∙ sym same.1;
              cards = h.cards;
              front = h.front;
              session = inr (
                inl (record { way = same.1 ∙ s.way; acted = subst (ActedIs g.ahead g.acted) later.owing s.acted; late = s.late }),
                subst (λ x. OffersAre l.reader.queue e.untold e.stands (Reported x) g.cards) card (record {
                  untold = sym rest;
                  front = λ on. by_front (subst (λ o. (o ≡ NoOffer) ⊎ IsOfferedFront o g.cards) is (o.front on));
                  counts =
                      let all : length l.reader.queue.events ≡ cond l.reader.queue.offered d.stands 0 + length (not_offered (Unreported c) g.cards) =
                      subst (λ o. length l.reader.queue.events ≡ cond l.reader.queue.offered d.stands 0 + length (not_offered o g.cards)) is o.counts in
                      omega (arith, all, counted later.stands);
                }),
              );
            },
          )
        where
          by_front : (Unreported c ≡ NoOffer) ⊎ IsOfferedFront (Unreported c) g.cards → (Reported c ≡ NoOffer) ⊎ IsOfferedFront (Reported c) g.cards
          by_front (inl none) = absurd cc
          by_front (inr front) = inr front

  -- ---- the session ends

  doubting : (c : Command) (e : Due) (new : State) (ps qs : List Packet) → out_of state ≡ c ∷ [] → new ≡ Closed → e ≡ d
      → Leads (Doubt (order_at g.ahead c) ∷ []) g (Becomes new ps qs e)
  doubting c e new ps qs out closed due =
      let front = front_order g.ahead c l.controller.waiting (h.ahead ∙ ap (λ cs. cs ++ l.controller.waiting) out) in
      subst (λ x. Leads (Doubt (order_at g.ahead c) ∷ []) g (Becomes new ps qs x)) (sym due) (
        ((under_way, (drop 1 g.ahead, front.0)), tt),
        record {
          ahead = front.1 ∙ ap (λ state. out_of state ++ l.controller.waiting) (sym closed);
          is_open = sym (ap is_under_way closed);
          cards = h.cards;
          front = h.front;
          session = inr (
            inr (record {
              closed = closed;
              acted = refl;
              late = front_late g.ahead g.acted d.owing d.pend (order_at g.ahead c) c s.acted (sym out ∙ f s.way) (command_at g.ahead c);
            }),
            o,
          );
        },
      )

  closing : (e : Due) (new : State) (ps qs : List Packet) → out_of state ≡ [] → new ≡ Closed → e ≡ d → Leads (Close ∷ []) g (Becomes new ps qs e)
  closing e new ps qs out closed due =
      let none = nothing_out g.ahead g.acted d.owing d.pend s.acted (sym out ∙ f s.way) in
      subst (λ x. Leads (Close ∷ []) g (Becomes new ps qs x)) (sym due) (
        ((under_way, none.0), tt),
        record {
          ahead = h.ahead ∙ ap (λ cs. cs ++ l.controller.waiting) out ∙ ap (λ state. out_of state ++ l.controller.waiting) (sym closed);
          is_open = sym (ap is_under_way closed);
          cards = h.cards;
          front = h.front;
          session = inr (inr (record { closed = closed; acted = none.0; late = ap (λ late. commands (option_to_list late)) s.late ∙ sym none.1 }), o);
        },
      )

  pub reports : (r : Option Report) (e : Due) (new : State) (ps qs : List Packet) → Tells r state new → DueAfterReport r d e → Leads (told r g) g (Becomes new ps qs e)
  reports None e new ps qs tells later = (tt, stays e new ps qs (none_told d e later) tells)
  reports (Some (report.Opened id)) e new ps qs tells later = (tt, stays e new ps qs (none_told d e later) tells)
  reports (Some (report.PollAnswered answer)) e new ps qs tells later = (tt, stays e new ps qs (none_told d e later) tells)
  reports (Some (report.Settled c a)) e new ps qs tells later = settling c a e new ps qs tells.0 tells.1 tells.2 later
  reports (Some (report.Moved c a)) e new ps qs tells later = moving c (reply.Com a) e new ps qs tells.0 tells.1 later
  reports (Some (report.Event event)) e new ps qs tells later = reporting g.offer event e new ps qs refl tells later
  reports (Some (report.Unread c code)) e new ps qs tells later = absurd tells
  reports (Some (report.Lost cause (Some c))) e new ps qs tells later = doubting c e new ps qs tells.0 tells.1 (none_told d e later)
  reports (Some (report.Lost cause None)) e new ps qs tells later = closing e new ps qs tells.0 tells.1 (none_told d e later)
