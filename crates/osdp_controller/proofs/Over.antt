-- The last of the sends.
use Rattle.osdp_controller.proofs.Common.{◌≡◌, ℕ, Bool, true, false, ◌&&◌, not, List, [], ◌∷◌, ◌+◌, None, refl, nat_lt, nat_le, if◌then◌else◌, Command, Session, State, Closed, Quiet, Idle, Waiting, Pausing, outstanding_in, is_over, Ticked, begins, gives_up, sends_frame, stays, ticks_in, Opening, Polling, next_sequence, asks_or_polls, is_poll_next, polls}
use Rattle.osdp_controller.proofs.Choices.{either_way}

second : {A : Type 0} (a b : Bool) (x y z : A) → (a && not b) ≡ true → (if a then (if b then x else y) else z) ≡ y
second true true x y z h = cc
second true false x y z h = refl
second false b x y z h = cc

-- a session that is over gives up
pub over : (state : State) (s : Session) (waiting : List Command) → is_over state s ≡ true → ticks_in state s waiting ≡ gives_up (outstanding_in state) s waiting
over (Waiting until sends o) s waiting h = second (nat_le until s.greatest) (nat_lt sends s.config.sends) _ _ _ h
over _ s waiting h = cc

pub not_second : {A : Type 0} (P : A → Type 0) (a b : Bool) (x y z : A) → (a && not b) ≡ false → P x → P z → P (if a then (if b then x else y) else z)
not_second P true true x y z h p q = p
not_second P true false x y z h p q = cc
not_second P false b x y z h p q = q

poll_tells_nothing : (due : ℕ) (s : Session) (waiting : List Command) → (polls due s waiting).step.report ≡ None
poll_tells_nothing due s waiting =
    either_way (λ (t : Ticked). t.step.report ≡ None) (nat_le due s.greatest) (begins Polling (next_sequence s.number) s waiting) (stays s waiting) (λ e. refl) (λ e. refl)

asking_tells_nothing : (waiting : List Command) (due : ℕ) (s : Session) → (asks_or_polls waiting due s).step.report ≡ None
asking_tells_nothing [] due s = poll_tells_nothing due s []
asking_tells_nothing (command ∷ rest) due s = refl

-- one that isn't over tells nothing by itself
pub tells_nothing : (state : State) (s : Session) (waiting : List Command) → is_over state s ≡ false → (ticks_in state s waiting).step.report ≡ None
tells_nothing Closed s waiting h = refl
tells_nothing (Quiet until) s waiting h =
    either_way (λ (t : Ticked). t.step.report ≡ None) (nat_le until s.greatest) (begins Opening 0 s waiting) (stays s waiting) (λ e. refl) (λ e. refl)
tells_nothing (Idle due) s waiting h =
    either_way (λ (t : Ticked). t.step.report ≡ None) (is_poll_next s) (polls due s waiting) (asks_or_polls waiting due s)
    (λ e. poll_tells_nothing due s waiting) (λ e. asking_tells_nothing waiting due s)
tells_nothing (Waiting until sends o) s waiting h =
    not_second (λ (t : Ticked). t.step.report ≡ None) (nat_le until s.greatest) (nat_lt sends s.config.sends)
    (sends_frame (sends + 1) o s waiting) (gives_up o s waiting) (stays s waiting) h refl refl
tells_nothing (Pausing until o) s waiting h =
    either_way (λ (t : Ticked). t.step.report ≡ None) (nat_le until s.greatest) (sends_frame 1 o s waiting) (stays s waiting) (λ e. refl) (λ e. refl)
