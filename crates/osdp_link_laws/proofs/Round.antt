-- A round that loses nothing, from a tick that is due: the exchange ends, or the session does.
use Rattle.osdp_link_laws.proofs.Common.{◌≡◌, ◌⊎◌, ℕ, List, [], ◌∷◌, ◌++◌, Option, Some, refl, sym, subst, ap, ◌∙◌, inl, inr, option_to_list, Packet, Command, Reply, Heard, at_rest, later, seen, ticks, Plain, ControllerConfig, Exchange, Opening, Polling, Asking, Session, Closed, Idle, Answer, refused, UnexpectedSequence, Report, outstanding_command, submitted_command, SaysWhatFits, Delivered, Link, SetsNoAddress, ahead, told_by_front}
use Rattle.osdp_controller.specs.Answers as packets
use Rattle.osdp_controller.specs.Hearing as controller
use Rattle.osdp_reader.specs.Table.{hears}
use Rattle.osdp_link_laws.specs.Link as link
use Rattle.osdp_link_laws.proofs.Deliveries.{refusal_fits}
use Rattle.osdp_link_laws.proofs.Answering.{IsReady, Refused, Replies, SaysFit, replies_at}
use Rattle.osdp_link_laws.proofs.Due.{Awaits, Sends, ticks_ahead}
use Rattle.osdp_link_laws.proofs.Moves.{Premises}
use Rattle.osdp_link_laws.proofs.Parts.{At}
use Rattle.osdp_link_laws.proofs.Settling.{MovesNone, refusal_ends, report_of, settles_now}
use Rattle.osdp_link_laws.proofs.Stages.{Asks, Behind, Each, Fresh, IsOpen, IsOut, Level, Rest, Restarted, Rests, Stage, Waits, answer, exchange_at, frame, number_at, number_after}
use Rattle.osdp_link_laws.proofs.Ticks.{frame_is}
use Rattle.osdp_link_laws.proofs.Once.{Goes}

-- the link after a tick
abbrev pub at_tick : {H : Type 0} → ℕ → Link H → Link H
at_tick {H} now l = link.ticked (ticks now l.controller.session l.controller.waiting) l

-- .. after the packet to the controller, and what is told then
pub record Passed (H : Type 0) : Type 0 where
  pub next : Link H
  pub told : Option Report

abbrev passes_back : {H : Type 0} → List Packet → ℕ → Link H → Passed H
passes_back {H} qs now l = record { next = link.to_controller qs Delivered now l; told = told_by_front Delivered qs now l.controller.session }

module _ {H : Type 0} (answer_of : H → Command → Answer) (after : H → Command → H) where
  -- .. after the packets in front of both directions, one after the other
  abbrev pub passes : ℕ → Link H → Passed H
  passes now l = let m = link.to_reader answer_of after l.to_reader Delivered l in passes_back m.to_controller now m

  abbrev pub delivered : ℕ → Link H → Link H
  delivered now l = (passes now l).next

  -- .. and after a whole round
  abbrev pub goes : ℕ → Link H → Link H
  goes now l = delivered now (at_tick now l)

module _ (fixed : ControllerConfig) {H : Type 0} (answer_of : H → Command → Answer) (after : H → Command → H) where
  -- the exchange that waits for its answer is the one of the stage
  pub record IsAwaited (x : Exchange) (at : Stage) (s : Session) : Type 0 where
    pub out : IsOut at
    pub exchange : exchange_at at ≡ x
    pub session : IsOpen fixed (number_at at) s

  pub awaited : (since : Restarted) (at : Stage) (l : Link H) (x : Exchange) → At fixed answer_of after since at l → Awaits x l.controller.session.state → IsAwaited x at l.controller.session
  awaited since Fresh l x h (until, k, o, state, is) = absurd (subst (λ st. Waits fixed st l.controller.session) state h.controller)
  awaited since (Behind past y) l x h (until, k, o, state, is) =
      let asks = subst (λ st. Asks fixed st (number_after past) y l.controller.session) state h.controller in
      record { out = tt; exchange = sym asks.1 ∙ is; session = asks.0 }
  awaited since (Level past y a) l x h (until, k, o, state, is) =
      let asks = subst (λ st. Asks fixed st (number_after past) y l.controller.session) state h.controller in
      record { out = tt; exchange = sym asks.1 ∙ is; session = asks.0 }
  awaited since (Rest n y a) l x h (until, k, o, state, is) = absurd (subst (λ st. Rests fixed st n l.controller.session) state h.controller)

  -- none of the commands that have no end is a COMSET to a device's address, so the exchange asks none
  asks_none : (x : Exchange) (waiting : List Command) → Each SetsNoAddress (option_to_list (submitted_command x) ++ waiting) → MovesNone x × Each SetsNoAddress waiting
  asks_none Opening waiting all = (tt, all)
  asks_none Polling waiting all = (tt, all)
  asks_none (Asking c) waiting all = (all.0, all.1)

  awaits_none : (now : ℕ) (x : Exchange) (l : Link H) → Awaits x (at_tick now l).controller.session.state → Each SetsNoAddress (ahead l.controller)
      → MovesNone x × Each SetsNoAddress (at_tick now l).controller.waiting
  awaits_none now x l (until, k, o, state, is) all =
      let t = ticks now l.controller.session l.controller.waiting in
      elim (ticks_ahead now l.controller.session l.controller.waiting) [
        | inl closed ↦ absurd (let e = sym state ∙ closed in cc)
        | inr same ↦
            let out : option_to_list (outstanding_command t.session.state) ≡ option_to_list (submitted_command x) =
            ap (λ st. option_to_list (outstanding_command st)) state ∙ ap (λ y. option_to_list (submitted_command y)) is in
            asks_none x t.waiting (subst (Each SetsNoAddress) (sym same ∙ ap (λ cs. cs ++ t.waiting) out) all)
      ]

  -- both packets come through: the link after them
  abbrev pub answered_link : ℕ → Packet → Exchange → Reply → Link H → Link H
  answered_link now p x a l = record l {
    controller = record l.controller { session = at_rest (seen now l.controller.session) };
    reader = (hears answer_of after l.reader p).reader;
    to_reader = [];
    to_controller = [];
  }

  pub come_through : (now : ℕ) (x : Exchange) (n : ℕ) (a : Reply) (l : Link H) → l.to_reader ≡ frame fixed x n ∷ [] → l.to_controller ≡ []
      → (hears answer_of after l.reader (frame fixed x n)).reply ≡ Some (answer fixed n a)
      → controller.hears (answer fixed n a) now l.controller.session
      ≡ record { session = at_rest (seen now l.controller.session); report = report_of x a }
      → passes answer_of after now l ≡ record { next = answered_link now (frame fixed x n) x a l; told = report_of x a }
  come_through now x n a l asks none says settles =
      let p = frame fixed x n in
      let q = answer fixed n a in
      let m = link.reader_gets answer_of after p (record l { to_reader = [] }) in
      let back : m.to_controller ≡ q ∷ [] =
      ap (λ ps. ps ++ option_to_list (hears answer_of after l.reader p).reply) none ∙ ap option_to_list says in
      ap (λ ps. let k = link.to_reader answer_of after ps Delivered l in passes_back k.to_controller now k) asks
      ∙ ap (λ qs. passes_back qs now m) back
      ∙ ap (λ (heard : Heard).
      let w : Passed H = record { next = record m { to_controller = []; controller = record l.controller { session = heard.session } }; told = heard.report } in w) settles

  -- a number that is refused ends the session
  refused_closes : Premises fixed answer_of after → (now : ℕ) (x : Exchange) (n : ℕ) (l : Link H) → l.to_reader ≡ frame fixed x n ∷ [] → l.to_controller ≡ []
      → Refused fixed answer_of after x n l.reader → Awaits x l.controller.session.state → IsOpen fixed n l.controller.session
      → (delivered answer_of after now l).controller.session.state ≡ Closed
  refused_closes given now x n l asks none says awaits opened =
      let p = frame fixed x n in
      let q = answer fixed n (refused UnexpectedSequence) in
      let m = link.reader_gets answer_of after p (record l { to_reader = [] }) in
      let back : m.to_controller ≡ q ∷ [] =
      ap (λ ps. ps ++ option_to_list (hears answer_of after l.reader p).reply) none ∙ ap option_to_list says in
      ap (λ ps. let k = link.to_reader answer_of after ps Delivered l in (link.to_controller k.to_controller Delivered now k).controller.session.state) asks
      ∙ ap (λ qs. (link.to_controller qs Delivered now m).controller.session.state) back
      ∙ refusal_ends fixed x n now l.controller.session awaits opened (given.hears n (refused UnexpectedSequence) refusal_fits)

  -- the frame of the awaited exchange is answered, and the answer settles it
  pub record IsAnswered (now : ℕ) (x : Exchange) (at : Stage) (l : Link H) : Type 0 where
    pub a : Reply
    pub replies : Replies fixed answer_of after x (number_at at) l.reader a
    pub is : delivered answer_of after now l ≡ answered_link now (frame fixed x (number_at at)) x a l

  -- .. or its number is refused, and the session ends
  abbrev pub IsAnsweredOrEnds : ℕ → Exchange → Stage → Link H → Type 0
  IsAnsweredOrEnds now x at l = IsAnswered now x at l ⊎ ((delivered answer_of after now l).controller.session.state ≡ Closed)

  pub is_answered : Premises fixed answer_of after → (now : ℕ) (x : Exchange) (since : Restarted) (at : Stage) (l : Link H) → At fixed answer_of after since at l
      → Awaits x l.controller.session.state → IsAwaited x at l.controller.session → IsReady fixed answer_of after l.reader
      → MovesNone x → l.to_reader ≡ frame fixed x (number_at at) ∷ [] → l.to_controller ≡ []
      → SaysFit fixed answer_of after (frame fixed x (number_at at)) l.reader
      → IsAnsweredOrEnds now x at l
  is_answered given now x since at l h awaits is ready none asks quiet fits =
      subst (λ y. SaysFit fixed answer_of after (frame fixed y (number_at at)) l.reader → l.to_reader ≡ frame fixed y (number_at at) ∷ []
      → MovesNone y → Awaits y l.controller.session.state → IsAnsweredOrEnds now y at l) is.exchange
      (λ fit line stays waits.
      let n = number_at at in
      elim (replies_at fixed answer_of after given since at l h is.out ready fit) [
        | inl (a, r) ↦
            let says : packets.meaning_of (answer fixed n a) ≡ Plain a = given.hears n a r.acted.0.fits ∙ given.plain a r.acted.0.plain in
            let settles = settles_now fixed (exchange_at at) n a now l.controller.session waits is.session stays r.acted.1 says in
            inl (record { a = a; replies = r; is = ap (λ w. w.next) (come_through now (exchange_at at) n a l line quiet r.sent settles) })
        | inr refuses ↦ inr (refused_closes given now (exchange_at at) n l line quiet refuses waits is.session)
      ])
      fits asks none awaits

  -- a link without losses between two rounds
  pub record IsStill (l : Link H) : Type 0 where
    pub to_reader : l.to_reader ≡ []
    pub to_controller : l.to_controller ≡ []
    pub ready : IsReady fixed answer_of after l.reader
    pub stays : Each SetsNoAddress (ahead l.controller)

  pub record IsIdle (l : Link H) : Type 0 where
    pub idle : (due : ℕ) × (l.controller.session.state ≡ Idle due)
    pub still : IsStill l
    pub known : (n : ℕ) × (l.reader.last ≡ Some n)

  -- a tick that sends leaves the frame of the awaited exchange on the line
  sent_line : (now : ℕ) (l : Link H) (x : Exchange) (at : Stage) → l.to_reader ≡ [] → Sends x (ticks now l.controller.session l.controller.waiting)
      → IsAwaited x at (at_tick now l).controller.session → (at_tick now l).to_reader ≡ frame fixed x (number_at at) ∷ []
  sent_line now l x at empty sends is =
      let t = ticks now l.controller.session l.controller.waiting in
      ap (λ ps. ps ++ option_to_list t.step.frame) empty
      ∙ ap option_to_list sends.frame
      ∙ ap (λ p. p ∷ []) (frame_is fixed (number_at at) x x t.session is.session refl)

  -- a round from a tick that sends: the exchange has ended, or the session has
  pub has_come : Premises fixed answer_of after → (now : ℕ) (x : Exchange) (l : Link H) → IsStill l
      → Sends x (ticks now l.controller.session l.controller.waiting) → Goes fixed answer_of after (at_tick now l)
      → SaysWhatFits answer_of after (at_tick now l).to_reader l.reader
      → ((goes answer_of after now l).controller.session.state ≡ Closed) ⊎ IsIdle (goes answer_of after now l)
  has_come given now x l still sends held fits =
      let m = at_tick now l in
      let since = held.holds.0 in
      let at = held.holds.1 in
      let h = held.holds.2 in
      let is = awaited since at m x h sends.awaits in
      let line = sent_line now l x at still.to_reader sends is in
      let none = awaits_none now x l sends.awaits still.stays in
      let fit = subst (λ ps. SaysWhatFits answer_of after ps l.reader) line fits in
      elim (is_answered given now x since at m h sends.awaits is still.ready none.0 line still.to_controller fit) [
        | inl answer ↦ inr (subst IsIdle (sym answer.is) (record {
          idle = (later m.controller.session.config.poll_interval (seen now m.controller.session), refl);
          still = record {
            to_reader = refl;
            to_controller = refl;
            ready = answer.replies.stays none.0;
            stays = none.1;
          };
          known = (number_at at, answer.replies.known none.0);
        }))
        | inr closed ↦ inl closed
      ]
