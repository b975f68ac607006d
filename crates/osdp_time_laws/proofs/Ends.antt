-- From the first call to the last: no call comes after the end.
use Rattle.osdp_time_laws.proofs.Common.{◌≡◌, ◌⊎◌, sym, subst, inl, inr, ℕ, ◌+◌, ◌≤◌, Bool, true, false, List, [], ◌∷◌, refl, arith, All, max, All-head, All-tail, ControllerConfig, Outstanding, Session, State, Closed, Idle, Waiting, Machine, after_begin, after_retarget, changed_unless, or_no_device, refused_unless_closed, submit_refusal, seen, is_closed, Call, Submit, Begin, Retarget, Withdraw, Tick, Hear, after_call, after_calls, hears_at_moment, tick_keeps, submit_session, IsBy, IsOwed, KeepsTime, Stays, TicksBy, IsSilent}
use Rattle.osdp_time_laws.proofs.Duties.{due_at, due_seen, until_of}
use Rattle.osdp_time_laws.proofs.Phases.{Holds, Phase, frame_holds, holds_passed, phase_near, phase_seen, still, tick_holds}

-- while there is a session none begins, and its address stays
pub begun_not : (state : State) (m new : Machine) → is_closed state ≡ false → changed_unless (refused_unless_closed state) m new ≡ m
begun_not Closed m new lives = cc
begun_not _ m new lives = refl

pub moved_not : (state : State) (address : ℕ) (m new : Machine) → is_closed state ≡ false
    → changed_unless (or_no_device (refused_unless_closed state) address) m new ≡ m
moved_not Closed address m new lives = cc
moved_not _ address m new lives = refl

-- the moment that is seen after a tick
pub tick_at_moment : (now : ℕ) (m : Machine) → (after_call (Tick now) m).session.greatest ≡ max m.session.greatest now
tick_at_moment now m =
    tick_keeps (λ r greatest c. greatest ≡ max m.session.greatest now) m.session.state (seen now m.session) m.waiting
    (record { same = λ r is. refl; moved = λ command d is. refl })

lives_by : (test : State → Bool) (state : State) → test Closed ≡ false → test state ≡ true → is_closed state ≡ false
lives_by test Closed not_closed so = absurd cc
lives_by test _ not_closed so = refl

module _ (late end : ℕ) (c : ControllerConfig) (more : ℕ) (Counts : Type 0) (test : State → Bool) (not_closed : test Closed ≡ false)
    (counts : (until sends : ℕ) (o : Outstanding) → test (Waiting until sends o) ≡ true → Counts) (many : c.sends ≡ more + 1) where
  abbrev pub Now : List Call → Session → Type 0
  Now calls s = Holds late end c more Counts test not_closed calls s

  -- a duty at a moment that the call reaches
  pub duty_at : (call : Call) (calls : List Call) (m : Machine) → is_closed m.session.state ≡ false
      → ((at : ℕ) → IsOwed at call m → TicksBy (at + late) (call ∷ calls))
      → (at : ℕ) → m.session.greatest ≤ at → at ≤ (after_call call m).session.greatest → until_of m.session.state ≤ at → TicksBy (at + late) (call ∷ calls)
  duty_at call calls m lives owed at not_before not_after reached =
      owed at (record {
        not_before = not_before;
        not_after = not_after;
        due = due_at m.session.state (seen at m.session) m.waiting lives (omega arith);
      })

  -- the phase at the moment of a call that moves it
  pub phase_then : (call : Call) (calls : List Call) (m : Machine) (now : ℕ) → (after_call call m).session.greatest ≡ max m.session.greatest now
      → ((limit : ℕ) → IsBy limit call → now ≤ limit) → is_closed m.session.state ≡ false
      → ((at : ℕ) → IsOwed at call m → TicksBy (at + late) (call ∷ calls))
      → Phase late end c more Counts (call ∷ calls) m.session.state m.session.greatest
      → Phase late end c more Counts (call ∷ calls) m.session.state (max m.session.greatest now)
  phase_then call calls m now moment by_now lives owed phase =
      phase_seen late end c more Counts test not_closed (call ∷ calls) m.session.state m.session.greatest (max m.session.greatest now)
      (λ d due. due_seen late d (until_of m.session.state) m.session.greatest (max m.session.greatest now) call calls (omega arith)
      (λ limit within by_limit. let now_by : now ≤ limit = by_now limit by_limit in omega arith)
      (λ at not_before not_after reached. duty_at call calls m lives owed at not_before (subst (λ (g : ℕ). at ≤ g) (sym moment) not_after) reached) due)
      phase

  -- one call
  abbrev pub Reads : List Call → Type 0
  Reads calls = ((due : ℕ) → test (Idle due) ≡ false) ⊎ All IsSilent calls

  pub step : (call : Call) (calls : List Call) (m : Machine) → Reads (call ∷ calls) → test m.session.state ≡ true
      → ((at : ℕ) → IsOwed at call m → TicksBy (at + late) (call ∷ calls)) → Now (call ∷ calls) m.session → Now calls (after_call call m).session
  step (Submit command) calls m reads so owed holds =
      subst (Now calls) (sym (submit_session (submit_refusal command m) command m))
      (holds_passed late end c more Counts test not_closed (Submit command) calls m.session refl holds)
  step (Begin now) calls m reads so owed holds =
      subst (λ (k : Machine). Now calls k.session) (sym (begun_not m.session.state m (after_begin now m) (lives_by test m.session.state not_closed so)))
      (holds_passed late end c more Counts test not_closed (Begin now) calls m.session refl holds)
  step (Retarget address) calls m reads so owed holds =
      subst (λ (k : Machine). Now calls k.session)
      (sym (moved_not m.session.state address m (after_retarget address m) (lives_by test m.session.state not_closed so)))
      (holds_passed late end c more Counts test not_closed (Retarget address) calls m.session refl holds)
  step Withdraw calls m reads so owed holds = holds_passed late end c more Counts test not_closed Withdraw calls m.session refl holds
  step (Tick now) calls m reads so owed holds =
      let lives = lives_by test m.session.state not_closed so in
      let at = holds.1 so in
      let phase = phase_then (Tick now) calls m now (tick_at_moment now m) (λ limit is. is) lives owed at.1 in
      let near = phase_near late end c more Counts test not_closed (Tick now ∷ calls) m.session.state (max m.session.greatest now) lives phase in
      tick_holds late end c more Counts test not_closed counts many m.session.state (Tick now) calls (seen now m.session) m.waiting near at.0 lives phase
      (λ below. still late end c more Counts test not_closed counts many (Tick now) calls (seen now m.session) near at.0 below phase)
  step (Hear p now) calls m (inr silent) so owed holds = absurd (All-head IsSilent (Hear p now) calls silent)
  step (Hear p now) calls m (inl no_rest) so owed holds =
      let lives = lives_by test m.session.state not_closed so in
      let at = holds.1 so in
      let phase = phase_then (Hear p now) calls m now (hears_at_moment p now m.session) (λ limit is. is) lives owed at.1 in
      let near = phase_near late end c more Counts test not_closed (Hear p now ∷ calls) m.session.state (max m.session.greatest now) lives phase in
      frame_holds late end c more Counts test not_closed no_rest p now calls m.session near at.0 phase
      (holds_passed late end c more Counts test not_closed (Hear p now) calls (seen now m.session) refl (near, λ still_yes. (at.0, phase)))

  reads_on : (call : Call) (calls : List Call) → Reads (call ∷ calls) → Reads calls
  reads_on call calls (inl no_rest) = inl no_rest
  reads_on call calls (inr silent) = inr (All-tail IsSilent call calls silent)

  pub ends : (calls : List Call) (m : Machine) → Reads calls → Stays test calls m → KeepsTime late calls m → Now calls m.session
      → (after_calls calls m).session.greatest ≤ end
  ends [] m reads lasts in_time holds = holds.0
  ends (call ∷ calls) m reads lasts in_time holds =
      ends calls (after_call call m) (reads_on call calls reads) lasts.1 in_time.1 (step call calls m reads lasts.0 in_time.0 holds)
