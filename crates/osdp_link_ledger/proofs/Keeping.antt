-- Each move keeps the ledger tied to the link, and so does each list of moves.
use Rattle.osdp_link_ledger.proofs.Common.{◌≡◌, ◌≢◌, ◌==◌, ℕ, Bool, true, false, cond, List, [], ◌∷◌, ◌++◌, length, Option, Some, None, Result, Ok, refl, sym, subst, ap, ◌∙◌, inl, inr, arith, append-nil, length-map, option_to_list, Packet, event_in, event_reply, Command, Event, MsgFault, Reply, exchange_command, Ticked, ticks, Exchange, Opening, Polling, Asking, Report, reply_packet, EventQueue, event_for, lacks_room, offering, released, unoffered, ReaderState, begun, event_or_answer, kind_of, moved, new_address, outcome, Answer, Kind, Ledger, Open, Step, MaySubmit, MoveFits, Delivered, Delivery, LapseEvent, Link, Lost, LoseToController, LoseToReader, Move, QueueEvent, Reopen, Repeated, RestartController, RestartReader, Retarget, SetBusy, SetHandler, Submit, Tick, ToController, ToReader, Withdraw, WithdrawEvent, after_move, lost_at, told_by_front, no_event, IsRead, all_read, Due, IsSent, MovesTo, ReadsFront, Stays, due_at, Assumed, Stands, standing_so, Premises, After, Each, IsAsked, Restarted, Stage, pending, shown, is_under_way, acts_on, after_steps, gets, leaves, leaves_and_acts, leaving_events, offers, opens, order_acted, steps_of, ticked, told, to_reader, IsAlike, IsTold, alike}
use Rattle.osdp_msg.specs.declared.command.Command.TheVariants as command
use Rattle.osdp_msg.specs.declared.reply.Reply.TheVariants as reply
use Rattle.osdp_controller.specs.Hearing as controller
use Rattle.osdp_controller.specs.Machine as controllers
use Rattle.osdp_controller.specs.declared.report.Report.TheVariants as report
use Rattle.osdp_reader.specs.Table as reader
use Rattle.osdp_reader.specs.declared.kind.Kind.TheVariants as kind
use Rattle.osdp_ledger.specs.Ledger as ledger
use Rattle.osdp_link_laws.specs.Link as link
use Rattle.osdp_link_laws.proofs.Hearing.{closed_hears}
use Rattle.osdp_link_ledger.proofs.Acting.{Acts, IsReady, Polled, acts as acting, leaving, offers_front, offers_none}
use Rattle.osdp_link_ledger.proofs.Events.{withdrawing_event}
use Rattle.osdp_link_ledger.proofs.Facts.{DueAfterReport, DueAfterTick, OutIs, due_hears, due_reopened, due_stays, due_ticks, none_told, out_at, reopened, told_none}
use Rattle.osdp_link_ledger.proofs.Lapsing.{lapsing_event}
use Rattle.osdp_link_ledger.proofs.Lists.{none_counted}
use Rattle.osdp_link_ledger.proofs.Programs.{losing, queueing, reopening, restarting_device, restarting_panel, retargeting, submitting, withdrawing, without_events}
use Rattle.osdp_link_ledger.proofs.Reading.{IsAnswered, IsReadAs, TakesNext, read}
use Rattle.osdp_link_ledger.proofs.Reports.{reports}
use Rattle.osdp_link_ledger.proofs.Telling.{IsEnding, IsOpening, IsQuietTick, TickIs, heard_tells, tick_is}
use Rattle.osdp_link_ledger.proofs.Ties.{ActedIs, IsTied, Leads, OffersAre, OrdersAre, Placed, SessionIs, Ties, after_append, all_may_append}

-- steps, and others after them
pub in_turn : (xs : List Step) (ys : Ledger → List Step) (g : Ledger) (P Q : Ledger → Type 0) → Leads xs g P → ((k : Ledger) → P k → Leads (ys k) k Q)
    → Leads (xs ++ ys (after_steps xs g)) g Q
in_turn xs ys g P Q first second =
    let k = after_steps xs g in
    let last = second k first.1 in
    (all_may_append xs (ys k) g first.0 last.0, subst Q (sym (after_append xs (ys k) g)) last.1)

module _ {H : Type 0} (l : Link H) (d : Due) (g : Ledger) (h : IsTied l d g) where
  -- ---- ticks

  abbrev AfterTick : Ticked → Due → Ledger → Type 0
  AfterTick t e k = Ties t.session.state t.waiting l.reader.queue (l.to_reader ++ option_to_list t.step.frame) l.to_controller e k

  same_offers : (e : Due) → IsAlike d e → OffersAre l.reader.queue d.untold d.stands g.offer g.cards → OffersAre l.reader.queue e.untold e.stands g.offer g.cards
  same_offers e same o = record { untold = same.untold ∙ o.untold; front = o.front; counts = omega (arith, o.counts, ap (λ n. cond l.reader.queue.offered n 0) same.stands) }

  same_acted : (e : Due) → IsAlike d e → ActedIs g.ahead g.acted d.owing → ActedIs g.ahead g.acted e.owing
  same_acted e same acted = subst (ActedIs g.ahead g.acted) (sym same.owing) acted

  -- whatever began
  alike_after : (t : Ticked) (e : Due) → DueAfterTick t d e → IsAlike d e
  alike_after t e (inl same) = alike d e same
  alike_after t e (inr (same, sent)) = same

  -- nothing did where no frame went out, or something was told
  same_after : (t : Ticked) (e : Due) → DueAfterTick t d e → (IsSent t → ⊥) → e ≡ d
  same_after t e (inl same) none = same
  same_after t e (inr (same, sent)) none = absurd (none sent)

  quiet_tick : (t : Ticked) (e : Due) → DueAfterTick t d e → IsQuietTick l.controller.session.state l.controller.waiting t
      → Leads (told None g) g (AfterTick t e)
  quiet_tick t e later q = (
    tt,
    record { ahead = h.ahead ∙ sym q.ahead; is_open = h.is_open ∙ sym q.way; cards = h.cards; front = h.front; session = by_session h.session },
  )
    where
      same : is_under_way l.controller.session.state ≡ false → e ≡ d
      same over = same_after t e later (λ sent. let e : None ≡ Some sent.frame = sym (q.silent over) ∙ sent.sent in cc)

      by_session : SessionIs l.controller.session.state l.reader.queue l.to_reader l.to_controller d g
          → SessionIs t.session.state l.reader.queue (l.to_reader ++ option_to_list t.step.frame) l.to_controller e g
      by_session (inl s) = inl (record {
        way = q.way ∙ s.way;
        to_reader = ap (λ f. l.to_reader ++ option_to_list f) (q.silent s.way) ∙ append-nil l.to_reader ∙ s.to_reader;
        to_controller = s.to_controller;
        empty = same s.way ∙ s.empty;
        acted = s.acted;
      })
      by_session (inr (inl s, offers)) =
          let alike = alike_after t e later in
          inr (inl (record { way = q.way ∙ s.way; acted = same_acted e alike s.acted; late = s.late }), same_offers e alike offers)
      by_session (inr (inr s, offers)) =
          subst (λ x. SessionIs t.session.state l.reader.queue (l.to_reader ++ option_to_list t.step.frame) l.to_controller x g) (sym (same (ap is_under_way s.closed)))
          (inr (inr (record { closed = q.closed s.closed; acted = s.acted; late = s.late }), offers))

  opening_tick : (t : Ticked) (e : Due) → DueAfterTick t d e → IsOpening l.controller.session.state l.controller.waiting t
      → Leads (Open ∷ []) g (AfterTick t e)
  opening_tick t e later q = by_session h.session
    where
      by_session : SessionIs l.controller.session.state l.reader.queue l.to_reader l.to_controller d g → Leads (Open ∷ []) g (AfterTick t e)
      by_session (inl s) =
          let alike = alike_after t e later in (
            (h.is_open ∙ s.way, tt),
            record {
              ahead = h.ahead ∙ sym q.ahead;
              is_open = sym q.way;
              cards = h.cards;
              front = h.front;
              session = inr (
                inl (record { way = q.way; acted = inl (record { acted = refl; owing = alike.owing ∙ ap (λ (x : Due). x.owing) s.empty }); late = refl }),
                record {
                  untold = alike.untold ∙ ap (λ (x : Due). x.untold) s.empty;
                  front = λ on. inl refl;
                  counts =
                      let none : cond l.reader.queue.offered e.stands 0 ≡ 0 =
                      none_counted l.reader.queue.offered e.stands (alike.stands ∙ ap (λ (x : Due). x.stands) s.empty) in
                      let all : length g.cards ≡ length l.reader.queue.events = sym (length-map g.cards (λ (c : ledger.Card). c.event)) ∙ ap length h.cards in
                      omega (arith, none, all);
                },
              );
            },
          )
      by_session (inr (inl s, offers)) = absurd (let e : false ≡ true = sym q.before ∙ s.way in cc)
      by_session (inr (inr s, offers)) = absurd (let e : [] ≡ Open ∷ [] = ap (λ st. opens st t.step.frame) (sym s.closed) ∙ q.opening in cc)

  ending_tick : OutIs l.controller.session.state d → (t : Ticked) (e : Due) → DueAfterTick t d e → IsEnding l.controller.session.state l.controller.waiting t
      → Leads (told t.step.report g) g (Ties t.session.state l.controller.waiting l.reader.queue (l.to_reader ++ option_to_list t.step.frame) l.to_controller e)
  ending_tick f t e later q = by_session h.session
    where
      lost : Option Report
      lost = Some (report.Lost q.cause q.command)

      same : e ≡ d
      same = same_after t e later (λ sent. let e : None ≡ lost = sym sent.told ∙ q.told in cc)

      by_session : SessionIs l.controller.session.state l.reader.queue l.to_reader l.to_controller d g
          → Leads (told t.step.report g) g (Ties t.session.state l.controller.waiting l.reader.queue (l.to_reader ++ option_to_list t.step.frame) l.to_controller e)
      by_session (inl s) = absurd (let e : false ≡ true = sym s.way ∙ q.before in cc)
      by_session (inr (inl s, offers)) =
          subst (λ r. Leads (told r g) g (Ties t.session.state l.controller.waiting l.reader.queue (l.to_reader ++ option_to_list t.step.frame) l.to_controller e)) (sym q.told)
          (reports l d g f h s offers (Some (report.Lost q.cause q.command)) e t.session.state (l.to_reader ++ option_to_list t.step.frame) l.to_controller (q.out, q.closed)
          (told_none d e same))
      by_session (inr (inr s, offers)) = absurd (let e : false ≡ true = ap is_under_way (sym s.closed) ∙ q.before in cc)

  pub ticking : OutIs l.controller.session.state d → (t : Ticked) (e : Due) → DueAfterTick t d e → TickIs l.controller.session.state l.controller.waiting t
      → Leads (ticked l.controller.session.state t g) g (AfterTick t e)
  ticking f t e later (inl q) =
      subst (λ os. Leads (os ++ told t.step.report g) g (AfterTick t e)) (sym q.opening)
      (subst (λ r. Leads (told r g) g (AfterTick t e)) (sym q.told) (quiet_tick t e later q))
  ticking f t e later (inr (inl q)) =
      subst (λ os. Leads (os ++ told t.step.report g) g (AfterTick t e)) (sym q.opening)
      (subst (λ r. Leads (Open ∷ told r g) g (AfterTick t e)) (sym q.told) (opening_tick t e later q))
  ticking f t e later (inr (inr q)) =
      subst (λ os. Leads (os ++ told t.step.report g) g (AfterTick t e)) (sym q.opening)
      (subst (λ ws. Leads (told t.step.report g) g (Ties t.session.state ws l.reader.queue (l.to_reader ++ option_to_list t.step.frame) l.to_controller e)) (sym q.waits)
      (ending_tick f t e later q))

  -- ---- a packet comes to the controller

  not_empty : {A : Type 0} (p : A) (ps qs : List A) → qs ≡ p ∷ ps → qs ≡ [] → ⊥
  not_empty p ps qs is none = let e : p ∷ ps ≡ [] = sym is ∙ none in cc

  -- nothing is heard
  unheard : (e : Due) (ys : List Packet) → (l.to_controller ≡ [] → ys ≡ []) → IsTold [] [] d e
      → Ties l.controller.session.state l.controller.waiting l.reader.queue l.to_reader ys e g
  unheard e ys empty later =
      subst (λ x. Ties l.controller.session.state l.controller.waiting l.reader.queue l.to_reader ys x g) (sym (none_told d e later))
      (losing l.controller.session.state l.controller.waiting l.reader.queue l.to_reader l.to_controller l.to_reader ys d g (λ e. e) empty h)

  heard : OutIs l.controller.session.state d → (p : Packet) (qs rest : List Packet) (now : ℕ) (e : Due) → l.to_controller ≡ p ∷ rest → IsRead p
      → (let heard = controller.hears p now l.controller.session in
      DueAfterReport heard.report d e → Leads (told heard.report g) g (Ties heard.session.state l.controller.waiting l.reader.queue l.to_reader qs e))
  heard f p qs rest now e is reads later = by_session h.session later
    where
      by_session : SessionIs l.controller.session.state l.reader.queue l.to_reader l.to_controller d g
          → (let heard = controller.hears p now l.controller.session in
          DueAfterReport heard.report d e → Leads (told heard.report g) g (Ties heard.session.state l.controller.waiting l.reader.queue l.to_reader qs e))
      by_session (inl s) later = absurd (not_empty p rest l.to_controller is s.to_controller)
      by_session (inr (inl s, offers)) later =
          let heard = controller.hears p now l.controller.session in
          reports l d g f h s offers heard.report e heard.session.state l.to_reader qs (heard_tells p now l.controller.session reads) later
      by_session (inr (inr s, offers)) later =
          subst (λ (heard : controller.Heard). DueAfterReport heard.report d e
          → Leads (told heard.report g) g (Ties heard.session.state l.controller.waiting l.reader.queue l.to_reader qs e))
          (sym (closed_hears p now l.controller.session s.closed)) (λ later. (tt, unheard e qs (λ e. absurd (not_empty p rest l.to_controller is e)) later)) later

  pub hearing : OutIs l.controller.session.state d → (how : Delivery) (ps : List Packet) (now : ℕ) (e : Due) → l.to_controller ≡ ps → Each IsRead ps
      → DueAfterReport (told_by_front how ps now l.controller.session) d e
      → Leads (told (told_by_front how ps now l.controller.session) g) g (IsTied (link.to_controller ps how now l) e)
  hearing f Delivered [] now e is reads k = (tt, unheard e l.to_controller (λ e. e) k)
  hearing f Lost [] now e is reads k = (tt, unheard e l.to_controller (λ e. e) k)
  hearing f Repeated [] now e is reads k = (tt, unheard e l.to_controller (λ e. e) k)
  hearing f Delivered (p ∷ ps) now e is reads k = heard f p ps ps now e is reads.0 k
  hearing f Lost (p ∷ ps) now e is reads k = (tt, unheard e ps (λ e. absurd (not_empty p ps l.to_controller is e)) k)
  hearing f Repeated (p ∷ ps) now e is reads k = heard f p l.to_controller ps now e is reads.0 k

-- ---- a packet comes to the device

moved_queue : {H : Type 0} → (to : Option ℕ) (r : ReaderState H) → (moved to r).queue ≡ r.queue
moved_queue {H} None r = refl
moved_queue {H} (Some address) r = by_test (address == r.config.address)
  where
    by_test : (b : Bool) → (cond b r (record r { config = record r.config { address = address }; last = None; stored = None })).queue ≡ r.queue
    by_test true = refl
    by_test false = refl

acts_is : (c : Command) (a : Reply) (g : Ledger) → c ≢ command.Poll → acts_on c a g ≡ ledger.Act (order_acted c g) a ∷ []
acts_is command.Poll a g other = absurd (other refl)
acts_is c a g other = refl

module _ {H : Type 0} (answer_of : H → Command → Answer) (after : H → Command → H) (tells : (e : Event) → event_in (event_reply e) ≡ Some e)
    (l : Link H) (d : Due) (g : Ledger) (placed : Placed g) (h : IsTied l d g) (f : OutIs l.controller.session.state d) (p : Packet) (ps qs : List Packet) (e : Due)
    (orders : OrdersAre l.controller.session.state d g) (o : OffersAre l.reader.queue d.untold d.stands g.offer g.cards) where
  abbrev Becomes : EventQueue → Ledger → Type 0
  Becomes q k = Ties l.controller.session.state l.controller.waiting q ps qs e k

  -- it stays as it is, but for what is offered now
  unmoved : (q : EventQueue) → q.events ≡ l.reader.queue.events → q.ever_offered ≡ l.reader.queue.ever_offered
      → OffersAre q d.untold d.stands g.offer g.cards → e ≡ d → Becomes q g
  unmoved q same ever new due =
      subst (λ x. Ties l.controller.session.state l.controller.waiting q ps qs x g) (sym due) (record {
        ahead = h.ahead;
        is_open = h.is_open;
        cards = h.cards ∙ sym same;
        front = λ never. h.front (sym ever ∙ never);
        session = inr (orders, new);
      })

  -- what is due where this reply was said to an exchange
  abbrev Answered : Exchange → Reply → Type 0
  Answered x a = IsAnswered x (Some a) e

  same_reply : (x : Exchange) (a : Reply) (s : Answered x a) → s.answer ≡ a
  same_reply x a s = let is : Some a ≡ Some s.answer = s.says in cc

  polled : (n : TakesNext p l d) → n.exchange ≡ Polling → (a : Reply) → Answered Polling a → Polled (option_to_list (event_in a)) d e
  polled n is a s =
      let front : shown Polling s.answer ≡ option_to_list (event_in a) = ap (λ r. option_to_list (event_in r)) (same_reply Polling a s) in
      record {
        pend = s.pend ∙ sym (n.pend ∙ ap pending is);
        owing = s.owing ∙ sym n.owing;
        untold = s.untold ∙ front;
        stands = s.stands ∙ ap length front;
      }

  acted : (n : TakesNext p l d) (c : Command) → n.exchange ≡ Asking c → (a : Reply) → Answered (Asking c) a → Acts c a d e
  acted n c is a s = record {
    before = n.pend ∙ ap pending is;
    pend = s.pend;
    owing = s.owing ∙ ap (λ r. (c, r) ∷ []) (same_reply (Asking c) a s);
    untold = s.untold;
    stands = s.stands;
  }

  polls : (k : Ledger) (n : TakesNext p l d) → IsReady l d k → n.exchange ≡ Polling → (waits : List Event) → (released l.reader.queue).events ≡ waits
      → (let a = (event_or_answer answer_of after (event_for command.Poll waits) l.reader.config l.reader.handler command.Poll).reply in
      Answered Polling a → Leads (offers (event_in a) k) k (Becomes (offering (event_for command.Poll waits) (released l.reader.queue))))
  polls k n r x [] is s = (tt, offers_none p l d k n r ps qs e is (polled n x reply.Ack s))
  polls k n r x (event ∷ rest) is s =
      subst (λ told. Leads (offers told k) k (Becomes (offering (event_for command.Poll (event ∷ rest)) (released l.reader.queue)))) (sym (tells event))
      (offers_front p l d k n r event rest ps qs e is
      (subst (λ told. Polled (option_to_list told) d e) (tells event) (polled n x (event_reply event) s)))

  -- what follows where this command was read
  abbrev Takes : Exchange → Result Command MsgFault → Type 0
  Takes x read =
      let out = reader.taken answer_of after read l.reader p in
      IsAnswered x out.said e → Leads (leaves_and_acts kind.Taken l.reader.queue out.command out.said g) g (Becomes out.reader.queue)

  ready : TakesNext p l d → Leads (leaves (leaving_events kind.Taken l.reader.queue) g) g (IsReady l d)
  ready n = leaving p l d g placed h orders o n

  -- a command other than a POLL
  abbrev Asked : Command → Option Reply → Type 0
  Asked c event =
      let queue = released l.reader.queue in
      let a = event_or_answer answer_of after event l.reader.config l.reader.handler c in
      let back = reply_packet p p.sequence a.reply in
      let next = moved (new_address c) (record l.reader { last = Some p.sequence; stored = Some back; queue = offering event queue; handler = a.handler }) in
      Answered (Asking c) a.reply
      → Leads (leaves (leaving_events kind.Taken l.reader.queue) g ++ acts_on c a.reply (after_steps (leaves (leaving_events kind.Taken l.reader.queue) g) g)) g
      (Becomes next.queue)

  asked_none : (n : TakesNext p l d) (c : Command) → n.exchange ≡ Asking c → MaySubmit c → Asked c None
  asked_none n c x may s =
      let a = event_or_answer answer_of after None l.reader.config l.reader.handler c in
      let next = record l.reader { last = Some p.sequence; stored = Some (reply_packet p p.sequence a.reply); queue = offering None (released l.reader.queue); handler = a.handler } in
      let left = leaves (leaving_events kind.Taken l.reader.queue) g in
      subst (λ q. Leads (left ++ acts_on c a.reply (after_steps left g)) g (Becomes q)) (sym (moved_queue (new_address c) next))
      (in_turn left (λ k. acts_on c a.reply k) g (IsReady l d) (Becomes (offering None (released l.reader.queue))) (ready n)
      (λ k r. subst (λ os. Leads os k (Becomes (offering None (released l.reader.queue)))) (sym (acts_is c a.reply k may.no_poll))
      (acting p l d k n r f c a.reply ps qs e (acted n c x a.reply s))))

  takes : (n : TakesNext p l d) (x : Exchange) → n.exchange ≡ x → IsAsked (After n.past.0 n.past.1 n.past.2) x → Takes x (Ok (exchange_command x))
  takes n Opening x is s = absurd is
  takes n Polling x is s =
      in_turn (leaves (leaving_events kind.Taken l.reader.queue) g)
      (λ k. offers (event_in (event_or_answer answer_of after (event_for command.Poll (released l.reader.queue).events) l.reader.config l.reader.handler command.Poll).reply) k) g
      (IsReady l d) (Becomes (offering (event_for command.Poll (released l.reader.queue).events) (released l.reader.queue)))
      (ready n) (λ k r. polls k n r x (released l.reader.queue).events refl s)
  takes n (Asking c) x is s = subst (Asked c) (sym (no_event c (released l.reader.queue).events is.no_poll)) (asked_none n c x is) s

  -- by the kind of the packet
  by_kind : (k : Kind) → (let out = outcome answer_of after k l.reader p in
      IsReadAs k p l out.said d e → Leads (leaves_and_acts k l.reader.queue out.command out.said g) g (Becomes out.reader.queue))
  by_kind kind.Zero (reads, due, none) =
      subst (λ read. let out = begun answer_of after read l.reader p in
      Leads (leaves_and_acts kind.Zero l.reader.queue out.command out.said g) g (Becomes out.reader.queue))
      (sym reads) (
        tt,
        unmoved (unoffered l.reader.queue) refl refl (record {
          untold = o.untold;
          front = λ on. absurd cc;
          counts = omega (arith, o.counts, none_counted l.reader.queue.offered d.stands none);
        }) due,
      )
  by_kind kind.Taken (n, s) = subst (Takes n.exchange) (sym n.reads) (takes n n.exchange refl n.asked) s
  by_kind _ due = (tt, unmoved l.reader.queue refl refl o due)

module _ {H : Type 0} (answer_of : H → Command → Answer) (after : H → Command → H) (tells : (e : Event) → event_in (event_reply e) ≡ Some e)
    (l : Link H) (d : Due) (g : Ledger) (placed : Placed g) (h : IsTied l d g) (f : OutIs l.controller.session.state d) (e : Due) where
  -- how the device reads a packet
  abbrev IsHeardAs : Packet → Type 0
  IsHeardAs p = let k = kind_of l.reader p in IsReadAs k p l (outcome answer_of after k l.reader p).said d e

  came : (p : Packet) (rest ps qs : List Packet) → l.to_reader ≡ p ∷ rest → IsHeardAs p
      → (let out = reader.hears answer_of after l.reader p in
      Leads (gets answer_of after p l.reader g) g (Ties l.controller.session.state l.controller.waiting out.reader.queue ps qs e))
  came p rest ps qs is r = by_session h.session
    where
      by_session : SessionIs l.controller.session.state l.reader.queue l.to_reader l.to_controller d g
          → (let out = reader.hears answer_of after l.reader p in
          Leads (gets answer_of after p l.reader g) g (Ties l.controller.session.state l.controller.waiting out.reader.queue ps qs e))
      by_session (inl s) = absurd (not_empty l d g h p rest l.to_reader is s.to_reader)
      by_session (inr (orders, offers)) = by_kind answer_of after tells l d g placed h f p ps qs e orders offers (kind_of l.reader p) r

  -- nothing comes
  unread : (xs : List Packet) → (l.to_reader ≡ [] → xs ≡ []) → e ≡ d → Ties l.controller.session.state l.controller.waiting l.reader.queue xs l.to_controller e g
  unread xs empty due =
      subst (λ x. Ties l.controller.session.state l.controller.waiting l.reader.queue xs l.to_controller x g) (sym due)
      (losing l.controller.session.state l.controller.waiting l.reader.queue l.to_reader l.to_controller xs l.to_controller d g empty (λ e. e) h)

  -- .. by what the line does with the packet in front
  abbrev pub IsFrontReadAs : Delivery → List Packet → Type 0
  IsFrontReadAs Delivered (p ∷ rest) = IsHeardAs p
  IsFrontReadAs Repeated (p ∷ rest) = IsHeardAs p
  IsFrontReadAs _ _ = e ≡ d

  pub reading : (how : Delivery) (ps : List Packet) → l.to_reader ≡ ps → IsFrontReadAs how ps
      → Leads (to_reader answer_of after ps how l.reader g) g (IsTied (link.to_reader answer_of after ps how l) e)
  reading Delivered [] is due = (tt, unread l.to_reader (λ e. e) due)
  reading Lost [] is due = (tt, unread l.to_reader (λ e. e) due)
  reading Repeated [] is due = (tt, unread l.to_reader (λ e. e) due)
  reading Delivered (p ∷ rest) is r = came p rest rest (l.to_controller ++ option_to_list (reader.hears answer_of after l.reader p).reply) is r
  reading Lost (p ∷ rest) is due = (tt, unread rest (λ e. absurd (not_empty l d g h p rest l.to_reader is e)) due)
  reading Repeated (p ∷ rest) is r = came p rest l.to_reader (l.to_controller ++ option_to_list (reader.hears answer_of after l.reader p).reply) is r

-- ---- each move

module _ {H : Type 0} (answer_of : H → Command → Answer) (after : H → Command → H) where
  -- what is due at the stage of a session
  abbrev pub due_of : (l : Link H) → Stands answer_of after l → Due
  due_of l s = due_at s.goes.holds.0 s.goes.holds.1

  module _ (given : Assumed answer_of after) (l : Link H) (g : Ledger) (placed : Placed g) (s : Stands answer_of after l) (h : IsTied l (due_of l s) g)
      (new : Restarted) (to : Stage) where
    abbrev since : Restarted
    since = s.goes.holds.0

    abbrev at : Stage
    at = s.goes.holds.1

    out : OutIs l.controller.session.state (due_of l s)
    out way = out_at s.fixed at l.controller.session s.goes.holds.2.controller way

    premises : Premises s.fixed answer_of after
    premises = given s.fixed s.device

    all_are_read : Each IsRead l.to_controller
    all_are_read = all_read s.fixed answer_of after since premises at l s.goes.holds.2

    -- as much is due as this
    with_due : (m : Link H) (steps : List Step) (d : Due) → due_at new to ≡ d → Leads steps g (IsTied m d) → Leads steps g (IsTied m (due_at new to))
    with_due m steps d same leads = (leads.0, subst (λ y. IsTied m y (after_steps steps g)) (sym same) leads.1)

    unchanged : (m : Link H) (steps : List Step) → Stays since at new to → Leads steps g (IsTied m (due_of l s)) → Leads steps g (IsTied m (due_at new to))
    unchanged m steps stays leads = with_due m steps (due_of l s) (due_stays since at new to stays) leads

    front_read : (how : Delivery) (ps : List Packet) → ReadsFront answer_of after ps how l.reader since at new to
        → IsFrontReadAs answer_of after premises.tells l (due_of l s) g placed h out (due_at new to) how ps
    front_read Delivered [] is = due_stays since at new to is
    front_read Lost [] is = due_stays since at new to is
    front_read Repeated [] is = due_stays since at new to is
    front_read Lost (p ∷ rest) is = due_stays since at new to is
    front_read Delivered (p ∷ rest) is =
        let k = kind_of l.reader p in read s.fixed answer_of after k since at new to p (outcome answer_of after k l.reader p).said l s.goes.holds.2 is
    front_read Repeated (p ∷ rest) is =
        let k = kind_of l.reader p in read s.fixed answer_of after k since at new to p (outcome answer_of after k l.reader p).said l s.goes.holds.2 is

    by_move : (move : Move H) → MovesTo answer_of after move l since at new to → Leads (steps_of answer_of after move l g) g (IsTied (after_move answer_of after move l) (due_at new to))
    by_move (Submit c) comes =
        let refusal = controllers.submit_refusal c l.controller in
        unchanged (link.submits refusal c l) (steps_of answer_of after (Submit c) l g) comes (submitting refusal c l (due_of l s) g h)
    by_move (QueueEvent event) comes =
        let full = lacks_room event l.reader.queue in
        unchanged (link.queues full event l) (steps_of answer_of after (QueueEvent event) l g) comes (queueing full event l (due_of l s) g placed h)
    by_move (SetBusy busy) comes = unchanged (after_move answer_of after (SetBusy busy) l) [] comes (tt, h)
    by_move (Tick now) comes =
        let t = ticks now l.controller.session l.controller.waiting in
        ticking l (due_of l s) g h out t (due_at new to) (due_ticks t since at new to (comes.0, comes.1)) (tick_is now l.controller.session l.controller.waiting)
    by_move (ToReader how) comes =
        reading answer_of after premises.tells l (due_of l s) g placed h out (due_at new to) how l.to_reader refl (front_read how l.to_reader comes)
    by_move (ToController how now) comes =
        hearing l (due_of l s) g h out how l.to_controller now (due_at new to) refl all_are_read
        (due_hears (told_by_front how l.to_controller now l.controller.session) since at new to (comes.0, comes.1))
    by_move (Reopen now) comes =
        let refusal = controllers.begin_refusal l.controller in
        with_due (link.reopens refusal l.to_reader l.to_controller now l) [] (reopened refusal l.to_reader l.to_controller (due_of l s))
        (due_reopened answer_of after refusal l.to_reader l.to_controller since at new to comes)
        (tt, reopening refusal l.to_reader l.to_controller now l (due_of l s) g refl refl refl h)
    by_move (SetHandler handler) comes = unchanged (after_move answer_of after (SetHandler handler) l) [] comes (tt, h)
    by_move Withdraw comes =
        unchanged (link.withdraws l) (steps_of answer_of after Withdraw l g) comes
        (withdrawing l.controller.session.state l.controller.waiting l.reader.queue l.to_reader l.to_controller (due_of l s) g out h)
    by_move (Retarget address) comes =
        let refusal = controllers.retarget_refusal address l.controller in
        unchanged (link.retargets refusal address l) [] comes (tt, retargeting refusal address l (due_of l s) g h)
    by_move WithdrawEvent comes =
        unchanged (link.withdraws_event l) (steps_of answer_of after WithdrawEvent l g) comes
        (withdrawing_event l.reader.queue l.controller.session.state l.controller.waiting l.to_reader l.to_controller (due_of l s) g placed h)
    by_move LapseEvent comes =
        unchanged (link.lapses_event l) (steps_of answer_of after LapseEvent l g) comes
        (lapsing_event l.reader.queue l.controller.session.state l.controller.waiting l.to_reader l.to_controller (due_of l s) g placed h)
    by_move (RestartReader config handler room) comes =
        with_due (link.restarts_reader config handler room l) (steps_of answer_of after (RestartReader config handler room) l g) (without_events (due_of l s))
        (λ i. due_at (comes.0 i) (comes.1 i))
        (restarting_device l.controller.session.state l.controller.waiting l.reader.queue l.to_reader l.to_controller (due_of l s) g room h)
    by_move (RestartController config room) comes =
        unchanged (link.restarts_controller config room l) (steps_of answer_of after (RestartController config room) l g) comes
        (restarting_panel l (due_of l s) g out h)
    by_move (LoseToReader place) comes =
        unchanged (after_move answer_of after (LoseToReader place) l) [] comes (
          tt,
          losing l.controller.session.state l.controller.waiting l.reader.queue l.to_reader l.to_controller (lost_at place l.to_reader) l.to_controller (due_of l s) g
              (ap (lost_at place)) (λ e. e) h,
        )
    by_move (LoseToController place) comes =
        unchanged (after_move answer_of after (LoseToController place) l) [] comes (
          tt,
          losing l.controller.session.state l.controller.waiting l.reader.queue l.to_reader l.to_controller l.to_reader (lost_at place l.to_controller) (due_of l s) g
              (λ e. e) (ap (lost_at place)) h,
        )

  pub keeps_one : (given : Assumed answer_of after) (move : Move H) (l : Link H) (g : Ledger) → Placed g → (fits : MoveFits answer_of after move l)
      → (s : Stands answer_of after l) → IsTied l (due_of l s) g
      → Leads (steps_of answer_of after move l g) g (IsTied (after_move answer_of after move l) (due_of (after_move answer_of after move l) (standing_so answer_of after given move l fits s).0))
  keeps_one given move l g placed fits s h =
      let m = standing_so answer_of after given move l fits s in
      by_move given l g placed s h m.0.goes.holds.0 m.0.goes.holds.1 move m.1
