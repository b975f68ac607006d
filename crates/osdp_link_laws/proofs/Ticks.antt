-- What a tick does to the controller, by how far the session has come.
use Rattle.osdp_link_laws.proofs.Common.{◌≡◌, ◌⊎◌, ℕ, ◌+◌, leb, ltb, List, ◌++◌, Some, None, refl, sym, subst, ap, inl, inr, option_to_list, next_sequence, Command, Reply, ControllerConfig, Exchange, Opening, Polling, Asking, Outstanding, Session, State, Closed, Quiet, Idle, Waiting, Pausing, is_order, submitted_command, frame_of, seen, Ticked, begins, idle_way, gives_up, sends_frame, stays, ticks, ticks_in, tries_again, MaySubmit}
use Rattle.osdp_link_laws.proofs.Lines.{both}
use Rattle.osdp_link_laws.proofs.Stages.{After, Asks, Each, IsAsked, IsFrame, IsOpen, Past, Rests, Start, Waits, frame, pending}

pub submitted_is : (x : Exchange) → option_to_list (submitted_command x) ≡ pending x
submitted_is Opening = refl
submitted_is Polling = refl
submitted_is (Asking c) = refl

module _ (fixed : ControllerConfig) where
  pub frame_is : (n : ℕ) (o x : Exchange) (s : Session) → IsOpen fixed n s → o ≡ x → frame_of o s ≡ frame fixed x n
  frame_is n o x s open_at is = cc

  -- the exchange stays outstanding, or the session ends
  abbrev pub StillAsks : ℕ → Exchange → List Command → Ticked → Type 0
  StillAsks n x waiting t =
      (t.waiting ≡ waiting) × Each (IsFrame fixed x n) (option_to_list t.step.frame) × Asks fixed t.session.state n x t.session

  sends_again : (n : ℕ) (x : Exchange) (k : ℕ) (o : Outstanding) (s : Session) (waiting : List Command)
      → IsOpen fixed n s → o.exchange ≡ x → StillAsks n x waiting (sends_frame k o s waiting)
  sends_again n x k o s waiting at is =
      (refl, (frame_is n o.exchange x s at is, tt), (at, is))

  still : (state : State) (n : ℕ) (x : Exchange) (s : Session) (waiting : List Command) → s.state ≡ state
      → Asks fixed state n x s → StillAsks n x waiting (stays s waiting)
  still state n x s waiting e asks =
      (refl, tt, subst (λ st. Asks fixed st n x s) (sym e) asks)

  tick_asking : (state : State) (n : ℕ) (x : Exchange) (s : Session) (waiting : List Command) → s.state ≡ state
      → Asks fixed state n x s → StillAsks n x waiting (ticks_in state s waiting)
  tick_asking Closed n x s waiting e asks = still Closed n x s waiting e asks
  tick_asking (Quiet until) n x s waiting e asks = absurd asks
  tick_asking (Idle due) n x s waiting e asks = absurd asks
  tick_asking (Waiting until k o) n x s waiting e asks =
      both (StillAsks n x waiting) (leb until s.greatest) (tries_again k o s waiting) (stays s waiting)
      (both (StillAsks n x waiting) (ltb k s.config.sends) (sends_frame (k + 1) o s waiting) (gives_up o s waiting)
      (sends_again n x (k + 1) o s waiting asks.0 asks.1) (refl, tt, tt))
      (still (Waiting until k o) n x s waiting e asks)
  tick_asking (Pausing until o) n x s waiting e asks =
      both (StillAsks n x waiting) (leb until s.greatest) (sends_frame 1 o s waiting) (stays s waiting)
      (sends_again n x 1 o s waiting asks.0 asks.1)
      (still (Pausing until o) n x s waiting e asks)

  pub asks_seen : (state : State) (n : ℕ) (x : Exchange) (s : Session) (now : ℕ) → Asks fixed state n x s → Asks fixed state n x (seen now s)
  asks_seen Closed n x s now asks = tt
  asks_seen _ n x s now asks = asks

  pub ticks_asking : (n : ℕ) (x : Exchange) (s : Session) (waiting : List Command) (now : ℕ) → Asks fixed s.state n x s
      → StillAsks n x waiting (ticks now s waiting)
  ticks_asking n x s waiting now asks =
      tick_asking s.state n x (seen now s) waiting refl (asks_seen s.state n x s now asks)

  -- an exchange begins after another, with the command in front or a POLL
  abbrev pub Begun : Past → ℕ → List Command → Ticked → Type 0
  Begun past n waiting t =
      (x : Exchange) × IsAsked past x × (waiting ≡ pending x ++ t.waiting)
      × (t.step.frame ≡ Some (frame fixed x n)) × (t.step.report ≡ None)
      × Asks fixed t.session.state n x t.session

  -- or nothing happens
  abbrev pub Unchanged : (Session → Type 0) → List Command → Ticked → Type 0
  Unchanged P waiting t =
      (t.waiting ≡ waiting) × (t.step.frame ≡ None) × (t.step.report ≡ None) × P t.session

  abbrev pub RestsOn : ℕ → Session → Type 0
  RestsOn n s = Rests fixed s.state n s

  abbrev pub WaitsOn : Session → Type 0
  WaitsOn s = Waits fixed s.state s

  begun : (past : Past) (x : Exchange) (n : ℕ) (s : Session) (waiting rest : List Command) → IsAsked past x → waiting ≡ pending x ++ rest
      → s.config ≡ fixed → Begun past n waiting (begins x n s rest)
  begun past x n s waiting rest asked is config =
      (x, asked, is, ap Some (frame_is n x x (record s { number = n; asked = is_order x }) (config, refl) refl), refl, ((config, refl), refl))

  tick_resting : (state : State) (n : ℕ) (x : Exchange) (r : Reply) (s : Session) (waiting : List Command) → s.state ≡ state
      → Rests fixed state n s → Each MaySubmit waiting
      → Begun (After n x r) (next_sequence n) waiting (ticks_in state s waiting) ⊎ Unchanged (RestsOn n) waiting (ticks_in state s waiting)
  tick_resting Closed n x r s waiting e rests may =
      inr (refl, refl, refl, subst (λ st. Rests fixed st n s) (sym e) rests)
  tick_resting (Idle due) n x r s waiting e rests may =
      idle_way (λ t. Begun (After n x r) (next_sequence n) waiting t ⊎ Unchanged (RestsOn n) waiting t) due s waiting
      (λ due. inl (subst (λ k. Begun (After n x r) (next_sequence n) waiting (begins Polling (next_sequence k) s waiting)) (sym rests.1)
      (begun (After n x r) Polling (next_sequence n) s waiting waiting tt refl rests.0)))
      (λ due. inr (refl, refl, refl, subst (λ st. Rests fixed st n s) (sym e) rests))
      (λ command rest is. inl (subst (λ k. Begun (After n x r) (next_sequence n) waiting (begins (Asking command) (next_sequence k) s rest)) (sym rests.1)
      (begun (After n x r) (Asking command) (next_sequence n) s waiting rest (subst (Each MaySubmit) is may).0 is rests.0)))
  tick_resting _ n x r s waiting e rests may = absurd rests

  pub rests_seen : (state : State) (n : ℕ) (s : Session) (now : ℕ) → Rests fixed state n s → Rests fixed state n (seen now s)
  rests_seen Closed n s now rests = tt
  rests_seen _ n s now rests = rests

  pub ticks_resting : (n : ℕ) (x : Exchange) (r : Reply) (s : Session) (waiting : List Command) (now : ℕ) → Rests fixed s.state n s
      → Each MaySubmit waiting
      → Begun (After n x r) (next_sequence n) waiting (ticks now s waiting) ⊎ Unchanged (RestsOn n) waiting (ticks now s waiting)
  ticks_resting n x r s waiting now rests may =
      tick_resting s.state n x r (seen now s) waiting refl (rests_seen s.state n s now rests) may

  tick_waiting : (state : State) (s : Session) (waiting : List Command) → s.state ≡ state → Waits fixed state s
      → Begun Start 0 waiting (ticks_in state s waiting) ⊎ Unchanged WaitsOn waiting (ticks_in state s waiting)
  tick_waiting Closed s waiting e waits =
      inr (refl, refl, refl, subst (λ st. Waits fixed st s) (sym e) waits)
  tick_waiting (Quiet until) s waiting e waits =
      both (λ t. Begun Start 0 waiting t ⊎ Unchanged WaitsOn waiting t) (leb until s.greatest) (begins Opening 0 s waiting) (stays s waiting)
      (inl (begun Start Opening 0 s waiting waiting tt refl waits))
      (inr (refl, refl, refl, subst (λ st. Waits fixed st s) (sym e) waits))
  tick_waiting _ s waiting e waits = absurd waits

  pub waits_seen : (state : State) (s : Session) (now : ℕ) → Waits fixed state s → Waits fixed state (seen now s)
  waits_seen Closed s now waits = waits
  waits_seen _ s now waits = waits

  pub ticks_waiting : (s : Session) (waiting : List Command) (now : ℕ) → Waits fixed s.state s
      → Begun Start 0 waiting (ticks now s waiting) ⊎ Unchanged WaitsOn waiting (ticks now s waiting)
  ticks_waiting s waiting now waits = tick_waiting s.state (seen now s) waiting refl (waits_seen s.state s now waits)
