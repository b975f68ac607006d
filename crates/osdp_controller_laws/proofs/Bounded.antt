-- How many frames an exchange sends.
use Rattle.osdp_controller_laws.proofs.Common.{◌≡◌, sym, subst, ℕ, ◌+◌, ◌*◌, ◌≤◌, Bool, true, false, List, [], ◌∷◌, ◌++◌, length, Option, Some, None, refl, arith, if◌then◌else◌, All, nat_lt, nat_le, option_to_list, All-head, Packet, next_sequence, Command, ControllerConfig, Opening, Polling, Asking, Outstanding, Session, State, Closed, Quiet, Idle, Waiting, Pausing, meaning_of, Heard, hears, IsMachine, IsOutstanding, IsSession, IsState, IsSubmitted, Machine, OpensAtZero, after_begin, after_retarget, is_outstanding, sent_in, submit_refusal, Call, Submit, Begin, Retarget, Withdraw, Tick, Hear, Lasts, SendsFew, after_call, frames, sent_by, seen, Ticked, begins, gives_up, sends_frame, stays, ticks_in, tries_again, keeps_begins, keeps_numbered, keeps_seen, keeps_ticks}
use Rattle.std.proofs.lemmas.Nat.{mul-le}
use Rattle.std.proofs.Math.Nat.{mul-add}
use Rattle.osdp_controller_laws.proofs.Frames.{either_frame}
use Rattle.osdp_controller_laws.proofs.Lasting.{Holds, HoldsMachine, first_sent, holds_call, more, not_begun, not_moved, submit_session}
use Rattle.osdp_controller.proofs.Idling.{idle_way}

-- what holds of a session is kept, whatever waits

same_session : (b : Bool) (t u v w : Ticked) → t.session ≡ v.session → u.session ≡ w.session
    → (if b then t else u).session ≡ (if b then v else w).session
same_session true t u v w e f = e
same_session false t u v w e f = f

pub keeps_tick : (state : State) (s : Session) (w : List Command) → IsSession s → IsState s.config state → OpensAtZero state s.number → All IsSubmitted w
    → IsSession (ticks_in state s w).session
keeps_tick Closed s w same is opening all = same
keeps_tick (Quiet until) s w same is opening all =
    subst IsSession (same_session (nat_le until s.greatest) (begins Opening 0 s []) (stays s []) (begins Opening 0 s w) (stays s w) refl refl)
    (keeps_ticks (Quiet until) s same is opening)
keeps_tick (Idle due) s w same is opening all =
    idle_way (λ (t : Ticked). IsSession t.session) due s w (λ b. keeps_begins Polling (next_sequence s.number) s same.config tt (λ e. cc)) (λ b. same)
    (λ command rest e. keeps_begins (Asking command) (next_sequence s.number) s same.config (let each = rw e at all in All-head IsSubmitted command rest each) (λ e. cc))
keeps_tick (Waiting until sends o) s w same is opening all =
    subst IsSession (same_session (nat_le until s.greatest) (tries_again sends o s []) (stays s []) (tries_again sends o s w) (stays s w)
    (same_session (nat_lt sends s.config.sends) (sends_frame (sends + 1) o s []) (gives_up o s []) (sends_frame (sends + 1) o s w) (gives_up o s w) refl refl) refl)
    (keeps_ticks (Waiting until sends o) s same is opening)
keeps_tick (Pausing until o) s w same is opening all =
    subst IsSession (same_session (nat_le until s.greatest) (sends_frame 1 o s []) (stays s []) (sends_frame 1 o s w) (stays s w) refl refl)
    (keeps_ticks (Pausing until o) s same is opening)

-- where an exchange is outstanding the waiting commands say nothing
keeps_out : (state : State) (s : Session) (w : List Command) → is_outstanding state ≡ true → IsSession (ticks_in state s []).session
    → IsSession (ticks_in state s w).session
keeps_out (Waiting until sends o) s w h is =
    subst IsSession (same_session (nat_le until s.greatest) (tries_again sends o s []) (stays s []) (tries_again sends o s w) (stays s w)
    (same_session (nat_lt sends s.config.sends) (sends_frame (sends + 1) o s []) (gives_up o s []) (sends_frame (sends + 1) o s w) (gives_up o s w) refl refl) refl)
    is
keeps_out (Pausing until o) s w h is =
    subst IsSession (same_session (nat_le until s.greatest) (sends_frame 1 o s []) (stays s []) (sends_frame 1 o s w) (stays s w) refl refl) is
keeps_out _ s w h is = cc

pub keeps_hears : (p : Packet) (now : ℕ) (s : Session) → IsSession s → IsSession (hears p now s).session
keeps_hears p now s is =
    let after = keeps_seen now s is in
    either_frame (λ (h : Heard). IsSession h.session) p now s
    (λ from h. keeps_numbered s.state (meaning_of p) (seen now s) is.state is.opening after) after

keeps_call : (call : Call) (m : Machine) → is_outstanding m.session.state ≡ true → IsSession m.session → IsSession (after_call call m).session
keeps_call (Submit command) m h is = subst IsSession (sym (submit_session (submit_refusal command m) command m)) is
keeps_call (Begin now) m h is =
    subst (λ (k : Machine). IsSession k.session) (sym (not_begun m.session.state m (after_begin now m) h)) is
keeps_call (Retarget address) m h is =
    subst (λ (k : Machine). IsSession k.session) (sym (not_moved m.session.state address m (after_retarget address m) h)) is
keeps_call Withdraw m h is = is
keeps_call (Tick now) m h is =
    keeps_out m.session.state (seen now m.session) m.waiting h (keeps_ticks m.session.state (seen now m.session) (keeps_seen now m.session is) is.state is.opening)
keeps_call (Hear p now) m h is = keeps_hears p now m.session is

keeps_sent : (call : Call) (m : Machine) (p : Packet) → IsMachine m → sent_by call m ≡ Some p → IsSession (after_call call m).session
keeps_sent (Tick now) m p is e =
    keeps_tick m.session.state (seen now m.session) m.waiting (keeps_seen now m.session is.session) is.session.state is.session.opening is.waiting
keeps_sent _ m p is e = cc

-- the most that an exchange has sent

most_out : (c : ControllerConfig) (sends : ℕ) (o : Outstanding) → sends ≤ c.sends → IsOutstanding c sends o → o.sent ≤ c.sends * (c.busy_limit + 1)
most_out c sends o within is =
    let sent : o.sent ≤ c.sends * o.busies + sends = is.sent in
    let busies : o.busies ≤ c.busy_limit = is.busies in
    let some : c.sends * o.busies ≤ c.sends * c.busy_limit = mul-le c.sends o.busies c.sends c.busy_limit (omega arith) busies in
    let split : c.sends * (c.busy_limit + 1) ≡ c.sends * c.busy_limit + c.sends * 1 = mul-add c.sends c.busy_limit 1 in
    omega arith

abbrev IsWithin : ℕ → ControllerConfig → Type 0
IsWithin n c = n ≤ c.sends * (c.busy_limit + 1)

most_sent : (p : Packet) (c : ControllerConfig) (n : ℕ) (state : State) (s : Session) → is_outstanding state ≡ true → Holds p c n state s
    → IsState s.config state → IsWithin n c
most_sent p c n (Waiting until sends o) s h at is =
    subst (IsWithin n) at.2 (subst (λ (k : ℕ). IsWithin k s.config) at.1 (most_out s.config sends o is.1 is.2))
most_sent p c n (Pausing until o) s h at is =
    subst (IsWithin n) at.2 (subst (λ (k : ℕ). IsWithin k s.config) at.1 (most_out s.config 0 o (omega arith) is))
most_sent p c n _ s h at is = cc

join_count : (n : ℕ) (o : Option Packet) (rest : List Packet) (c : ControllerConfig) → IsWithin (more n o + length rest) c
    → IsWithin (n + length (option_to_list o ++ rest)) c
join_count n None rest c h = h
join_count n (Some q) rest c h = omega arith

few_frames : (p : Packet) (c : ControllerConfig) (n : ℕ) (calls : List Call) (m : Machine) → Lasts calls m → IsSession m.session → HoldsMachine p c n m
    → IsWithin (n + length (frames calls m)) c
few_frames p c n [] m h is at =
    let most : n ≤ c.sends * (c.busy_limit + 1) = most_sent p c n m.session.state m.session h at is.state in omega arith
few_frames p c n (call ∷ calls) m h is at =
    join_count n (sent_by call m) (frames calls (after_call call m)) c
    (few_frames p c (more n (sent_by call m)) calls (after_call call m) h.1 (keeps_call call m h.0 is) (holds_call p c n call m h.0 at).1)

pub sends_few : SendsFew
sends_few m call p calls is e h =
    let first = first_sent call m p e in
    let n : ℕ = sent_in (after_call call m).session.state in
    let one : 1 ≤ n = first.1 in
    let few : n + length (frames calls (after_call call m)) ≤ m.session.config.sends * (m.session.config.busy_limit + 1) =
    few_frames p m.session.config n calls (after_call call m) h (keeps_sent call m p is e) first.0 in
    omega arith
