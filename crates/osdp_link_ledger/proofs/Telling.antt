-- What a report says of the controller's state before it and after it, and what a tick does.
use Rattle.osdp_link_ledger.proofs.Common.{◌≡◌, ◌⊎◌, ◌+◌, ℕ, true, false, leb, ltb, List, [], ◌∷◌, ◌++◌, Option, Some, None, refl, sym, subst, ap, ◌∙◌, inl, inr, option_to_list, Packet, event_in, Command, Event, Reply, meaning_of, submitted_command, Ticked, begins, idle_way, gives_up, sends_frame, stays, ticks, ticks_in, tries_again, Exchange, Opening, Polling, Asking, NotTaken, NumberRefused, Plain, Report, Session, State, Closed, Quiet, Idle, Waiting, Pausing, Open, IsRead, both, is_under_way, opens}
use Rattle.osdp_msg.specs.declared.command_fields.Communication.{Communication}
use Rattle.osdp_msg.specs.declared.reply_fields.PdId.{PdId}
use Rattle.osdp_controller.specs.Hearing.{Heard, answered, com_of, command_answered, comset_of, hears, hears_busy, hears_in, ignores, is_ack, is_from_reader, is_numbered, loses, moved_by, opening_answered, pausing_hears, pd_id_of, poll_told, rests, waiting_hears}
use Rattle.osdp_controller.specs.Sessions.{later, seen}
use Rattle.osdp_controller.specs.declared.report.LostCause.{LostCause}
use Rattle.osdp_controller.specs.declared.report.LostCause.TheVariants as cause
use Rattle.osdp_controller.specs.declared.report.Report.TheVariants as report
use Rattle.osdp_link_ledger.proofs.Facts.{out_of}

-- nothing is outstanding that wasn't, and a session lasts where one did
abbrev pub Stays : State → State → Type 0
Stays s u = (out_of u ≡ out_of s) × (is_under_way u ≡ is_under_way s)

abbrev pub Tells : Option Report → State → State → Type 0
Tells None s u = Stays s u
Tells (Some (report.Opened id)) s u = Stays s u
Tells (Some (report.PollAnswered answer)) s u = Stays s u
Tells (Some (report.Event event)) s u = Stays s u
Tells (Some (report.Settled c answer)) s u = (out_of s ≡ c ∷ []) × (is_under_way u ≡ true) × (out_of u ≡ [])
Tells (Some (report.Moved c answered)) s u = (out_of s ≡ c ∷ []) × (u ≡ Closed)
Tells (Some (report.Unread c code)) s u = ⊥
Tells (Some (report.Lost cause c)) s u = (out_of s ≡ option_to_list c) × (u ≡ Closed)

abbrev Told : State → Heard → Type 0
Told state h = Tells h.report state h.session.state

ignored : (state : State) (s : Session) → s.state ≡ state → Told state (ignores s)
ignored state s e = (ap out_of e, ap is_under_way e)

-- an exchange is outstanding
abbrev Asks : State → Exchange → Type 0
Asks state x = (out_of state ≡ option_to_list (submitted_command x)) × (is_under_way state ≡ true)

polled : (state : State) (s : Session) (event : Option Event) (a : Reply) → Asks state Polling → Told state (rests (poll_told a event) s)
polled state s (Some event) a asks = (sym asks.0, sym asks.1)
polled state s None a asks =
    both (λ r. Told state (rests r s)) (is_ack a) None (Some (report.PollAnswered a)) (sym asks.0, sym asks.1) (sym asks.0, sym asks.1)

opened : (state : State) (s : Session) (id : Option PdId) → s.state ≡ state → Asks state Opening → Told state (opening_answered id s)
opened state s None e asks = ignored state s e
opened state s (Some id) e asks = (sym asks.0, sym asks.1)

commanded : (state : State) (s : Session) (to : Option Communication) (c : Command) (a : Reply) → Asks state (Asking c) → Told state (command_answered to c a s)
commanded state s None c a asks = (asks.0, refl, refl)
commanded state s (Some to) c a asks = (asks.0, refl)

answers : (state : State) (s : Session) (x : Exchange) (a : Reply) → s.state ≡ state → Asks state x → Told state (answered x a s)
answers state s Opening a e asks = opened state s (pd_id_of a) e asks
answers state s Polling a e asks = polled state s (event_in a) a asks
answers state s (Asking c) a e asks = commanded state s (moved_by (comset_of c) (com_of a)) c a asks

busy_in : (state : State) (number : ℕ) (s : Session) → s.state ≡ state → Told state (hears_in state number NotTaken s)
busy_in (Waiting until k o) number s e =
    both (Told (Waiting until k o)) (is_numbered number NotTaken s) (hears_busy o s) (ignores s)
    (both (Told (Waiting until k o)) (ltb s.config.busy_limit (o.busies + 1)) (loses cause.TooBusy o s)
    (record { session = record s { state = Pausing (later s.config.busy_wait s) (record o { busies = o.busies + 1 }) }; report = None })
    (refl, refl) (refl, refl)) (ignored (Waiting until k o) s e)
busy_in (Pausing until o) number s e =
    both (Told (Pausing until o)) (is_numbered number NotTaken s) (ignores s) (ignores s) (ignored (Pausing until o) s e) (ignored (Pausing until o) s e)
busy_in state number s e = ignored state s e

refused_in : (state : State) (number : ℕ) (s : Session) → s.state ≡ state → Told state (hears_in state number NumberRefused s)
refused_in (Waiting until k o) number s e =
    both (Told (Waiting until k o)) (is_numbered number NumberRefused s) (loses cause.NumberRefused o s) (ignores s) (refl, refl) (ignored (Waiting until k o) s e)
refused_in (Pausing until o) number s e =
    both (Told (Pausing until o)) (is_numbered number NumberRefused s) (loses cause.NumberRefused o s) (ignores s) (refl, refl) (ignored (Pausing until o) s e)
refused_in state number s e = ignored state s e

plain_in : (state : State) (number : ℕ) (a : Reply) (s : Session) → s.state ≡ state → Told state (hears_in state number (Plain a) s)
plain_in (Waiting until k o) number a s e =
    both (Told (Waiting until k o)) (is_numbered number (Plain a) s) (waiting_hears (Plain a) k o s) (ignores s)
    (answers (Waiting until k o) s o.exchange a e (refl, refl)) (ignored (Waiting until k o) s e)
plain_in (Pausing until o) number a s e =
    both (Told (Pausing until o)) (is_numbered number (Plain a) s) (pausing_hears (Plain a) o s) (ignores s)
    (answers (Pausing until o) s o.exchange a e (refl, refl)) (ignored (Pausing until o) s e)
plain_in state number a s e = ignored state s e

-- what a packet that can be read tells
pub heard_tells : (p : Packet) (now : ℕ) (s : Session) → IsRead p → Told s.state (hears p now s)
heard_tells p now s (inl (inl busy)) =
    both (Told s.state) (is_from_reader p s) (hears_in s.state p.sequence (meaning_of p) (seen now s)) (ignores (seen now s))
    (subst (λ a. Told s.state (hears_in s.state p.sequence a (seen now s))) (sym busy) (busy_in s.state p.sequence (seen now s) refl)) (refl, refl)
heard_tells p now s (inl (inr (a, plain))) =
    both (Told s.state) (is_from_reader p s) (hears_in s.state p.sequence (meaning_of p) (seen now s)) (ignores (seen now s))
    (subst (λ b. Told s.state (hears_in s.state p.sequence b (seen now s))) (sym plain) (plain_in s.state p.sequence a (seen now s) refl)) (refl, refl)
heard_tells p now s (inr refused) =
    both (Told s.state) (is_from_reader p s) (hears_in s.state p.sequence (meaning_of p) (seen now s)) (ignores (seen now s))
    (subst (λ a. Told s.state (hears_in s.state p.sequence a (seen now s))) (sym refused) (refused_in s.state p.sequence (seen now s) refl)) (refl, refl)

-- ---- ticks

-- nothing is told, and no session begins: what has no end stays so
pub record IsQuietTick (state : State) (waiting : List Command) (t : Ticked) : Type 0 where
  pub opening : opens state t.step.frame ≡ []
  pub told : t.step.report ≡ None
  pub ahead : out_of t.session.state ++ t.waiting ≡ out_of state ++ waiting
  pub way : is_under_way t.session.state ≡ is_under_way state
  pub silent : is_under_way state ≡ false → t.step.frame ≡ None
  pub closed : state ≡ Closed → t.session.state ≡ Closed

-- a session's first packet goes out
pub record IsOpening (state : State) (waiting : List Command) (t : Ticked) : Type 0 where
  pub opening : opens state t.step.frame ≡ Open ∷ []
  pub told : t.step.report ≡ None
  pub ahead : out_of t.session.state ++ t.waiting ≡ out_of state ++ waiting
  pub before : is_under_way state ≡ false
  pub way : is_under_way t.session.state ≡ true

-- a session ends
pub record IsEnding (state : State) (waiting : List Command) (t : Ticked) : Type 0 where
  pub opening : opens state t.step.frame ≡ []
  pub cause : LostCause
  pub command : Option Command
  pub told : t.step.report ≡ Some (report.Lost cause command)
  pub out : out_of state ≡ option_to_list command
  pub before : is_under_way state ≡ true
  pub closed : t.session.state ≡ Closed
  pub waits : t.waiting ≡ waiting

abbrev pub TickIs : State → List Command → Ticked → Type 0
TickIs state waiting t = IsQuietTick state waiting t ⊎ (IsOpening state waiting t ⊎ IsEnding state waiting t)

opens_none : (state : State) → opens state None ≡ []
opens_none (Quiet until) = refl
opens_none _ = refl

staying : (state : State) (s : Session) (waiting : List Command) → s.state ≡ state → TickIs state waiting (stays s waiting)
staying state s waiting e = inl (record {
  opening = opens_none state;
  told = refl;
  ahead = ap (λ st. out_of st ++ waiting) e;
  way = ap is_under_way e;
  silent = λ way. refl;
  closed = λ closed. e ∙ closed;
})

tick_in : (state : State) (s : Session) (waiting : List Command) → s.state ≡ state → TickIs state waiting (ticks_in state s waiting)
tick_in Closed s waiting e = staying Closed s waiting e
tick_in (Quiet until) s waiting e =
    both (TickIs (Quiet until) waiting) (leb until s.greatest) (begins Opening 0 s waiting) (stays s waiting)
    (inr (inl (record { opening = refl; told = refl; ahead = refl; before = refl; way = refl })))
    (staying (Quiet until) s waiting e)
tick_in (Idle due) s waiting e =
    idle_way (TickIs (Idle due) waiting) due s waiting
    (λ reached. inl (record { opening = refl; told = refl; ahead = refl; way = refl; silent = λ way. absurd cc; closed = λ closed. absurd cc }))
    (λ ahead. staying (Idle due) s waiting e)
    (λ c rest is. inl (record { opening = refl; told = refl; ahead = sym is; way = refl; silent = λ way. absurd cc; closed = λ closed. absurd cc }))
tick_in (Waiting until k o) s waiting e =
    both (TickIs (Waiting until k o) waiting) (leb until s.greatest) (tries_again k o s waiting) (stays s waiting)
    (both (TickIs (Waiting until k o) waiting) (ltb k s.config.sends) (sends_frame (k + 1) o s waiting) (gives_up o s waiting)
    (inl (record { opening = refl; told = refl; ahead = refl; way = refl; silent = λ way. absurd cc; closed = λ closed. absurd cc }))
    (inr (inr (record {
      opening = refl;
      cause = cause.NoReply;
      command = submitted_command o.exchange;
      told = refl;
      out = refl;
      before = refl;
      closed = refl;
      waits = refl;
    }))))
    (staying (Waiting until k o) s waiting e)
tick_in (Pausing until o) s waiting e =
    both (TickIs (Pausing until o) waiting) (leb until s.greatest) (sends_frame 1 o s waiting) (stays s waiting)
    (inl (record { opening = refl; told = refl; ahead = refl; way = refl; silent = λ way. absurd cc; closed = λ closed. absurd cc }))
    (staying (Pausing until o) s waiting e)

pub tick_is : (now : ℕ) (s : Session) (waiting : List Command) → TickIs s.state waiting (ticks now s waiting)
tick_is now s waiting = tick_in s.state (seen now s) waiting refl
