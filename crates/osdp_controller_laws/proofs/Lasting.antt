-- The frames of an exchange as long as it lasts.
use Rattle.osdp_controller_laws.proofs.Common.{◌≡◌, ap, sym, subst, ℕ, ◌+◌, ◌≤◌, true, List, [], ◌∷◌, ◌++◌, Option, Some, None, refl, arith, All, nat_lt, nat_le, option_to_list, All-nil, All-cons, Packet, next_sequence, Command, ReplyMeaning, ControllerConfig, Opening, Polling, ControllerFault, Session, State, Closed, Quiet, Idle, Waiting, Pausing, meaning_of, Heard, hears, numbered_in, Machine, after_begin, after_retarget, after_submit, changed_unless, is_outstanding, or_no_device, refused_unless_closed, sent_in, submit_refusal, Call, Submit, Begin, Retarget, Withdraw, Tick, Hear, Lasts, ResendsTheSame, after_call, frames, sent_by, frame_of, seen, Ticked, begins, gives_up, sends_frame, stays, ticks_in, tries_again, either_way}
use Rattle.osdp_controller_laws.proofs.Frames.{OfEach, either_frame, of_pause, of_wait}
use Rattle.osdp_controller.proofs.Idling.{idle_way}

-- where an exchange is outstanding: this is its packet, it has sent so many frames, and the settings are these
abbrev pub Holds : Packet → ControllerConfig → ℕ → State → Session → Type 0
Holds p c n (Waiting until sends o) s = (frame_of o.exchange s ≡ p) × (o.sent ≡ n) × (s.config ≡ c)
Holds p c n (Pausing until o) s = (frame_of o.exchange s ≡ p) × (o.sent ≡ n) × (s.config ≡ c)
Holds p c n _ s = Unit {0}

abbrev pub more : ℕ → Option Packet → ℕ
more n None = n
more n (Some q) = n + 1

-- ticks

abbrev pub SameSent : Packet → Option Packet → Type 0
SameSent p None = Unit {0}
SameSent p (Some q) = q ≡ p

abbrev HoldsTicked : Packet → ControllerConfig → ℕ → Ticked → Type 0
HoldsTicked p c n t = SameSent p t.step.frame × Holds p c (more n t.step.frame) t.session.state t.session

one_sent : (sent n : ℕ) → sent ≡ n → sent + 1 ≡ n + 1
one_sent sent n e = ap (λ (k : ℕ). k + 1) e

holds_ticks : (p : Packet) (c : ControllerConfig) (n : ℕ) (state : State) (s : Session) (w : List Command) → is_outstanding state ≡ true
    → Holds p c n state s → Holds p c n s.state s → HoldsTicked p c n (ticks_in state s w)
holds_ticks p c n (Waiting until sends o) s w h at same =
    either_way (HoldsTicked p c n) (nat_le until s.greatest) (tries_again sends o s w) (stays s w)
    (λ b. either_way (HoldsTicked p c n) (nat_lt sends s.config.sends) (sends_frame (sends + 1) o s w) (gives_up o s w)
    (λ f. (at.0, (at.0, one_sent o.sent n at.1, at.2))) (λ f. (tt, tt)))
    (λ b. (tt, same))
holds_ticks p c n (Pausing until o) s w h at same =
    either_way (HoldsTicked p c n) (nat_le until s.greatest) (sends_frame 1 o s w) (stays s w)
    (λ b. (at.0, (at.0, one_sent o.sent n at.1, at.2))) (λ b. (tt, same))
holds_ticks p c n _ s w h at same = cc

-- frames from the line

abbrev HoldsHeard : Packet → ControllerConfig → ℕ → Heard → Type 0
HoldsHeard p c n h = Holds p c n h.session.state h.session

holds_each : (p : Packet) (c : ControllerConfig) (n : ℕ) (s : Session) → Holds p c n s.state s → OfEach (HoldsHeard p c n) s
holds_each p c n s same = record { ignored = same; rested = λ told. tt; moved = λ d command. tt; lost = λ cause o. tt }

holds_numbered : (p : Packet) (c : ControllerConfig) (n : ℕ) (state : State) (a : ReplyMeaning) (s : Session) → Holds p c n state s
    → Holds p c n s.state s → HoldsHeard p c n (numbered_in state a s)
holds_numbered p c n (Waiting until sends o) a s at same = of_wait (HoldsHeard p c n) s (holds_each p c n s same) a sends o at at
holds_numbered p c n (Pausing until o) a s at same = of_pause (HoldsHeard p c n) s (holds_each p c n s same) a o
holds_numbered p c n _ a s at same = same

-- a moment that is seen changes none of it
holds_seen : (p : Packet) (c : ControllerConfig) (n now : ℕ) (state : State) (s : Session) → Holds p c n state s → Holds p c n state (seen now s)
holds_seen p c n now (Waiting until sends o) s at = at
holds_seen p c n now (Pausing until o) s at = at
holds_seen p c n now _ s at = tt

holds_hears : (p : Packet) (c : ControllerConfig) (n : ℕ) (q : Packet) (now : ℕ) (s : Session) → Holds p c n s.state s
    → HoldsHeard p c n (hears q now s)
holds_hears p c n q now s at =
    let same = holds_seen p c n now s.state s at in
    either_frame (HoldsHeard p c n) q now s
    (λ from h. holds_numbered p c n s.state (meaning_of q) (seen now s) same same) same

-- calls that are refused while an exchange is outstanding

pub not_begun : (state : State) (m new : Machine) → is_outstanding state ≡ true → changed_unless (refused_unless_closed state) m new ≡ m
not_begun (Waiting until sends o) m new h = refl
not_begun (Pausing until o) m new h = refl
not_begun _ m new h = cc

pub not_moved : (state : State) (address : ℕ) (m new : Machine) → is_outstanding state ≡ true
    → changed_unless (or_no_device (refused_unless_closed state) address) m new ≡ m
not_moved (Waiting until sends o) address m new h = refl
not_moved (Pausing until o) address m new h = refl
not_moved _ address m new h = cc

pub submit_session : (o : Option ControllerFault) (command : Command) (m : Machine) → (changed_unless o m (after_submit command m)).session ≡ m.session
submit_session None command m = refl
submit_session (Some fault) command m = refl

-- each call

abbrev pub HoldsMachine : Packet → ControllerConfig → ℕ → Machine → Type 0
HoldsMachine p c n m = Holds p c n m.session.state m.session

pub holds_call : (p : Packet) (c : ControllerConfig) (n : ℕ) (call : Call) (m : Machine) → is_outstanding m.session.state ≡ true → HoldsMachine p c n m
    → SameSent p (sent_by call m) × HoldsMachine p c (more n (sent_by call m)) (after_call call m)
holds_call p c n (Submit command) m h at =
    (tt, subst (λ (s : Session). Holds p c n s.state s) (sym (submit_session (submit_refusal command m) command m)) at)
holds_call p c n (Begin now) m h at =
    (tt, subst (HoldsMachine p c n) (sym (not_begun m.session.state m (after_begin now m) h)) at)
holds_call p c n (Retarget address) m h at =
    (tt, subst (HoldsMachine p c n) (sym (not_moved m.session.state address m (after_retarget address m) h)) at)
holds_call p c n Withdraw m h at = (tt, at)
holds_call p c n (Tick now) m h at =
    let same = holds_seen p c n now m.session.state m.session at in
    holds_ticks p c n m.session.state (seen now m.session) m.waiting h same same
holds_call p c n (Hear q now) m h at = (tt, holds_hears p c n q now m.session at)

-- the first of the frames

abbrev HoldsSent : ControllerConfig → Ticked → Option Packet → Type 0
HoldsSent c t None = Unit {0}
HoldsSent c t (Some p) = Holds p c (sent_in t.session.state) t.session.state t.session × (1 ≤ sent_in t.session.state)

abbrev HoldsFirst : ControllerConfig → Ticked → Type 0
HoldsFirst c t = HoldsSent c t t.step.frame

holds_first : (state : State) (s : Session) (w : List Command) → HoldsFirst s.config (ticks_in state s w)
holds_first Closed s w = tt
holds_first (Quiet until) s w =
    either_way (HoldsFirst s.config) (nat_le until s.greatest) (begins Opening 0 s w) (stays s w) (λ b. ((refl, refl, refl), omega arith)) (λ b. tt)
holds_first (Idle due) s w =
    idle_way (HoldsFirst s.config) due s w (λ b. ((refl, refl, refl), omega arith)) (λ b. tt) (λ command rest e. ((refl, refl, refl), omega arith))
holds_first (Waiting until sends o) s w =
    either_way (HoldsFirst s.config) (nat_le until s.greatest) (tries_again sends o s w) (stays s w)
    (λ b. either_way (HoldsFirst s.config) (nat_lt sends s.config.sends) (sends_frame (sends + 1) o s w) (gives_up o s w)
    (λ f. ((refl, refl, refl), omega arith)) (λ f. tt))
    (λ b. tt)
holds_first (Pausing until o) s w =
    either_way (HoldsFirst s.config) (nat_le until s.greatest) (sends_frame 1 o s w) (stays s w) (λ b. ((refl, refl, refl), omega arith)) (λ b. tt)

pub first_sent : (call : Call) (m : Machine) (p : Packet) → sent_by call m ≡ Some p
    → HoldsMachine p m.session.config (sent_in (after_call call m).session.state) (after_call call m) × (1 ≤ sent_in (after_call call m).session.state)
first_sent (Tick now) m p e =
    subst (HoldsSent m.session.config (ticks_in m.session.state (seen now m.session) m.waiting)) e (holds_first m.session.state (seen now m.session) m.waiting)
first_sent _ m p e = cc

-- all of the frames

join_all : (p : Packet) (o : Option Packet) (rest : List Packet) → SameSent p o → All (λ q. q ≡ p) rest → All (λ q. q ≡ p) (option_to_list o ++ rest)
join_all p None rest same all = all
join_all p (Some q) rest same all = All-cons (λ (r : Packet). r ≡ p) q rest same all

same_frames : (p : Packet) (c : ControllerConfig) (n : ℕ) (calls : List Call) (m : Machine) → Lasts calls m → HoldsMachine p c n m
    → All (λ q. q ≡ p) (frames calls m)
same_frames p c n [] m h at = All-nil (λ (q : Packet). q ≡ p)
same_frames p c n (call ∷ calls) m h at =
    let next = holds_call p c n call m h.0 at in
    join_all p (sent_by call m) (frames calls (after_call call m)) next.0
    (same_frames p c (more n (sent_by call m)) calls (after_call call m) h.1 next.1)

pub resends_the_same : ResendsTheSame
resends_the_same m call p calls e h =
    same_frames p m.session.config (sent_in (after_call call m).session.state) calls (after_call call m) h (first_sent call m p e).0
