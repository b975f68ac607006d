-- A tick that is due: the frame of an exchange goes out, or the session ends.
use Rattle.osdp_link_laws.proofs.Common.{◌≡◌, ◌⊎◌, ℕ, ◌+◌, true, leb, ltb, List, [], ◌∷◌, ◌++◌, Some, None, refl, sym, ap, subst, inl, inr, option_to_list, next_sequence, Command, acts, is_order, frame_of, later, seen, Ticked, begins, idle_way, gives_up, sends_frame, stays, ticks, ticks_in, tries_again, Exchange, Opening, Polling, Asking, Outstanding, Session, State, Closed, Quiet, Idle, Waiting, Pausing, outstanding_command}
use Rattle.osdp_link_laws.proofs.Lines.{both, chosen}

abbrev pub Acts : Ticked → Type 0
Acts t = acts t.step ≡ true

-- this exchange waits for its answer
abbrev pub Awaits : Exchange → State → Type 0
Awaits x state = (until : ℕ) × (k : ℕ) × (o : Outstanding) × (state ≡ Waiting until k o) × (o.exchange ≡ x)

-- the frame of this exchange goes out, and nothing is told
pub record Sends (x : Exchange) (t : Ticked) : Type 0 where
  pub awaits : Awaits x t.session.state
  pub frame : t.step.frame ≡ Some (frame_of x t.session)
  pub report : t.step.report ≡ None

sent : (x : Exchange) (k : ℕ) (o : Outstanding) (s : Session) (waiting : List Command) → o.exchange ≡ x → Sends x (sends_frame k o s waiting)
sent x k o s waiting is = record {
  awaits = (later s.config.reply_wait s, k, record o { sent = o.sent + 1 }, refl, is);
  frame = ap (λ y. Some (frame_of y s)) is;
  report = refl;
}

begun : (x : Exchange) (n : ℕ) (s : Session) (waiting : List Command) → Sends x (begins x n s waiting)
begun x n s waiting =
    sent x 1 (record { exchange = x; busies = 0; sent = 0 }) (record s { number = n; asked = is_order x }) waiting refl

abbrev pub SendsOrEnds : Ticked → Type 0
SendsOrEnds t = (t.session.state ≡ Closed) ⊎ ((x : Exchange) × Sends x t)

pub stays_rests : {P : Type 0} (s : Session) (waiting : List Command) → Acts (stays s waiting) → P
stays_rests s waiting e = absurd cc

-- nothing is due in a session that is closed
pub closed_rests : (state : State) (s : Session) (waiting : List Command) → state ≡ Closed → Acts (ticks_in state s waiting) → ⊥
closed_rests state s waiting closed due = stays_rests s waiting (subst (λ st. Acts (ticks_in st s waiting)) closed due)

-- the exchange that begins where none is outstanding and no POLL has to come first
abbrev pub next_exchange : List Command → Exchange
next_exchange [] = Polling
next_exchange (c ∷ waiting) = Asking c

idle_sends : (due : ℕ) (s : Session) (waiting : List Command) → Acts (ticks_in (Idle due) s waiting) → SendsOrEnds (ticks_in (Idle due) s waiting)
idle_sends due s waiting =
    idle_way (λ t. Acts t → SendsOrEnds t) due s waiting
    (λ e does. inr (Polling, begun Polling (next_sequence s.number) s waiting)) (λ e does. stays_rests s waiting does)
    (λ c rest e does. inr (Asking c, begun (Asking c) (next_sequence s.number) s rest))

due_in : (state : State) (s : Session) (waiting : List Command) → Acts (ticks_in state s waiting) → SendsOrEnds (ticks_in state s waiting)
due_in Closed s waiting does = stays_rests s waiting does
due_in (Quiet until) s waiting does =
    chosen Acts SendsOrEnds (leb until s.greatest) (begins Opening 0 s waiting) (stays s waiting)
    (λ e. inr (Opening, begun Opening 0 s waiting)) (λ e. stays_rests s waiting e) does
due_in (Idle due) s waiting does = idle_sends due s waiting does
due_in (Waiting until k o) s waiting does =
    chosen Acts SendsOrEnds (leb until s.greatest) (tries_again k o s waiting) (stays s waiting)
    (λ e. chosen Acts SendsOrEnds (ltb k s.config.sends) (sends_frame (k + 1) o s waiting) (gives_up o s waiting)
    (λ f. inr (o.exchange, sent o.exchange (k + 1) o s waiting refl)) (λ f. inl refl) e)
    (λ e. stays_rests s waiting e) does
due_in (Pausing until o) s waiting does =
    chosen Acts SendsOrEnds (leb until s.greatest) (sends_frame 1 o s waiting) (stays s waiting)
    (λ e. inr (o.exchange, sent o.exchange 1 o s waiting refl)) (λ e. stays_rests s waiting e) does

pub due_sends : (now : ℕ) (s : Session) (waiting : List Command) → Acts (ticks now s waiting) → SendsOrEnds (ticks now s waiting)
due_sends now s waiting does = due_in s.state (seen now s) waiting does

-- ---- each tick

-- the commands that have no end stay so, in their order, or the session ends
abbrev ahead_in : State → List Command → List Command
ahead_in state waiting = option_to_list (outstanding_command state) ++ waiting

abbrev AheadOrEnds : State → List Command → Ticked → Type 0
AheadOrEnds state waiting t = (t.session.state ≡ Closed) ⊎ (ahead_in t.session.state t.waiting ≡ ahead_in state waiting)

ahead_stays : (state : State) (s : Session) (waiting : List Command) → s.state ≡ state → AheadOrEnds state waiting (stays s waiting)
ahead_stays state s waiting is = inr (ap (λ st. ahead_in st waiting) is)

ahead_ticked : (state : State) (s : Session) (waiting : List Command) → s.state ≡ state → AheadOrEnds state waiting (ticks_in state s waiting)
ahead_ticked Closed s waiting is = inl is
ahead_ticked (Quiet until) s waiting is =
    both (AheadOrEnds (Quiet until) waiting) (leb until s.greatest) (begins Opening 0 s waiting) (stays s waiting) (inr refl) (ahead_stays (Quiet until) s waiting is)
ahead_ticked (Idle due) s waiting is =
    idle_way (AheadOrEnds (Idle due) waiting) due s waiting (λ e. inr refl) (λ e. ahead_stays (Idle due) s waiting is) (λ c rest e. inr (sym e))
ahead_ticked (Waiting until k o) s waiting is =
    both (AheadOrEnds (Waiting until k o) waiting) (leb until s.greatest) (tries_again k o s waiting) (stays s waiting)
    (both (AheadOrEnds (Waiting until k o) waiting) (ltb k s.config.sends) (sends_frame (k + 1) o s waiting) (gives_up o s waiting) (inr refl) (inl refl))
    (ahead_stays (Waiting until k o) s waiting is)
ahead_ticked (Pausing until o) s waiting is =
    both (AheadOrEnds (Pausing until o) waiting) (leb until s.greatest) (sends_frame 1 o s waiting) (stays s waiting) (inr refl) (ahead_stays (Pausing until o) s waiting is)

pub ticks_ahead : (now : ℕ) (s : Session) (waiting : List Command) → AheadOrEnds s.state waiting (ticks now s waiting)
ticks_ahead now s waiting = ahead_ticked s.state (seen now s) waiting refl
