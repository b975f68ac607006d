-- The moment by which a tick comes, from one call to the next.
use Rattle.osdp_time_laws.proofs.Common.{◌≡◌, ◌⊎◌, inl, inr, ℕ, ◌+◌, ◌≤◌, ◌<◌, Bool, true, false, List, ◌∷◌, refl, sym, ◌∙◌, arith, if◌then◌else◌, nat_le, nat_lt, false≢true, le-leb, Command, Opening, Session, State, Closed, Quiet, Idle, Waiting, Pausing, acts, is_closed, Ticked, begins, gives_up, sends_frame, stays, ticks_in, tries_again, either_way, idle_way, Call, IsBy, TicksBy, is_tick}
use Rattle.std.proofs.lemmas.Bool.Decides.{leb_tells}

-- the moment that a state waits for
abbrev pub until_of : State → ℕ
until_of Closed = 0
until_of (Quiet until) = until
until_of (Idle due) = due
until_of (Waiting until sends o) = until
until_of (Pausing until o) = until

-- a tick comes by `d` and so late: the state waits for no later moment and none has been seen, or the duty has begun
abbrev pub Due : ℕ → ℕ → ℕ → ℕ → List Call → Type 0
Due late d until greatest calls =
    (greatest ≤ d + late) × (((until ≤ d) × (greatest ≤ d)) ⊎ (TicksBy (d + late) calls × (until ≤ greatest)))

-- the next moment that is seen
module _ (late d until greatest next : ℕ) (call : Call) (calls : List Call) (on : greatest ≤ next)
    (by_limit : (limit : ℕ) → greatest ≤ limit → IsBy limit call → next ≤ limit)
    (duty : (at : ℕ) → greatest ≤ at → at ≤ next → until ≤ at → TicksBy (at + late) (call ∷ calls)) where
  seen_first : until ≤ d → greatest ≤ d → greatest ≤ d + late → ((nat_le next d ≡ true) × (next ≤ d)) ⊎ ((nat_le next d ≡ false) × (d < next))
      → Due late d until next (call ∷ calls)
  seen_first before ahead within (inl (test, less)) = (omega arith, inl (before, less))
  seen_first before ahead within (inr (test, more)) =
      let ticks : TicksBy (d + late) (call ∷ calls) = duty d ahead (omega arith) before in
      (by_limit (d + late) within ticks.0, inr (ticks, omega arith))

  pub due_seen : Due late d until greatest (call ∷ calls) → Due late d until next (call ∷ calls)
  due_seen (within, inl (before, ahead)) = seen_first before ahead within (leb_tells next d)
  due_seen (within, inr (ticks, reached)) = (by_limit (d + late) within ticks.0, inr (ticks, omega arith))

-- a call that is no tick ends no duty
pub due_kept : (late d until greatest : ℕ) (call : Call) (calls : List Call) → is_tick call ≡ false → Due late d until greatest (call ∷ calls)
    → Due late d until greatest calls
due_kept late d until greatest call calls other (within, inl ahead) = (within, inl ahead)
due_kept late d until greatest call calls other (within, inr (ticks, reached)) = (within, inr (ticks.1 other, reached))

-- nor is a deadline put off that the call sets to now
pub due_now : (late d until greatest : ℕ) (calls : List Call) → Due late d until greatest calls → Due late d greatest greatest calls
due_now late d until greatest calls (within, inl (before, ahead)) = (within, inl (ahead, ahead))
due_now late d until greatest calls (within, inr (ticks, reached)) = (within, inr (ticks, omega arith))

-- where the moment isn't reached no duty has begun
pub due_ahead : (late d until greatest : ℕ) (calls rest : List Call) → greatest < until → Due late d until greatest calls → Due late d until greatest rest
due_ahead late d until greatest calls rest below (within, inl ahead) = (within, inl ahead)
due_ahead late d until greatest calls rest below (within, inr (ticks, reached)) = absurd (omega arith)

-- a wait begins at the moment that is seen
pub due_anew : (late until greatest wait : ℕ) (calls : List Call) → until ≤ greatest + wait → Due late (greatest + wait) until greatest calls
due_anew late until greatest wait calls before = (omega arith, inl (before, omega arith))

-- at the moment that a state waits for a tick does something
acts_one : (b : Bool) (x y : Ticked) → b ≡ true → acts x.step ≡ true → acts (if b then x else y).step ≡ true
acts_one true x y e h = h
acts_one false x y e h = cc

pub due_at : (state : State) (s : Session) (w : List Command) → is_closed state ≡ false → until_of state ≤ s.greatest
    → acts (ticks_in state s w).step ≡ true
due_at Closed s w lives reached = cc
due_at (Quiet until) s w lives reached =
    acts_one (nat_le until s.greatest) (begins Opening 0 s w) (stays s w) (le-leb until s.greatest reached) refl
due_at (Idle due) s w lives reached =
    idle_way (λ (t : Ticked). acts t.step ≡ true) due s w (λ b. refl) (λ b. absurd (false≢true (sym b ∙ le-leb due s.greatest reached)))
    (λ command rest is. refl)
due_at (Waiting until sends o) s w lives reached =
    acts_one (nat_le until s.greatest) (tries_again sends o s w) (stays s w) (le-leb until s.greatest reached)
    (either_way (λ (t : Ticked). acts t.step ≡ true) (nat_lt sends s.config.sends) (sends_frame (sends + 1) o s w) (gives_up o s w) (λ h. refl) (λ h. refl))
due_at (Pausing until o) s w lives reached =
    acts_one (nat_le until s.greatest) (sends_frame 1 o s w) (stays s w) (le-leb until s.greatest reached) refl
