-- What a state waits for lies no further away than its own wait.
use Rattle.osdp_time_laws.proofs.Common.{sym, subst, ℕ, ◌+◌, ◌≤◌, List, [], ◌∷◌, Option, Some, None, arith, max, nat_le, nat_lt, Packet, Command, ControllerConfig, Opening, ControllerFault, ReplyMeaning, Session, State, Closed, Quiet, Idle, Waiting, Pausing, meaning_of, Heard, hears, Machine, after_begin, after_retarget, changed_unless, refused_unless_closed, retarget_refusal, submit_refusal, numbered_in, seen, Ticked, begins, gives_up, sends_frame, stays, ticks_in, tries_again, either_way, idle_way, Call, Submit, Begin, Retarget, Withdraw, Tick, Hear, after_call, after_calls, OfEach, either_frame, of_pause, of_wait, submit_session, IsTimely, StaysTimely, WaitsItsTime}
use Rattle.osdp_time_laws.proofs.Phases.{later_within}

-- a later moment that is seen
no_nearer : (until greatest next wait : ℕ) → greatest ≤ next → until ≤ greatest + wait → until ≤ next + wait
no_nearer until greatest next wait on near = omega arith

pub timely_then : (c : ControllerConfig) (state : State) (greatest next : ℕ) → greatest ≤ next → WaitsItsTime c greatest state → WaitsItsTime c next state
timely_then c Closed greatest next on w = tt
timely_then c (Quiet until) greatest next on w = no_nearer until greatest next c.quiet_wait on w
timely_then c (Idle due) greatest next on w = no_nearer due greatest next c.poll_interval on w
timely_then c (Waiting until sends o) greatest next on w = no_nearer until greatest next c.reply_wait on w
timely_then c (Pausing until o) greatest next on w = no_nearer until greatest next c.busy_wait on w

abbrev OfSession : Session → Type 0
OfSession s = WaitsItsTime s.config s.greatest s.state

timely_seen : (s : Session) (now : ℕ) → OfSession s → OfSession (seen now s)
timely_seen s now w = timely_then s.config s.state s.greatest (max s.greatest now) (omega arith) w

-- ---- ticks

abbrev TickTimely : Ticked → Type 0
TickTimely t = OfSession t.session

tick_timely : (state : State) (s : Session) (w : List Command) → OfSession s → TickTimely (ticks_in state s w)
tick_timely Closed s w is = is
tick_timely (Quiet until) s w is =
    either_way TickTimely (nat_le until s.greatest) (begins Opening 0 s w) (stays s w) (λ b. later_within s.config.reply_wait s) (λ b. is)
tick_timely (Idle due) s w is =
    idle_way TickTimely due s w (λ b. later_within s.config.reply_wait s) (λ b. is) (λ command rest has. later_within s.config.reply_wait s)
tick_timely (Waiting until sends o) s w is =
    either_way TickTimely (nat_le until s.greatest) (tries_again sends o s w) (stays s w)
    (λ b. either_way TickTimely (nat_lt sends s.config.sends) (sends_frame (sends + 1) o s w) (gives_up o s w)
    (λ f. later_within s.config.reply_wait s) (λ f. tt))
    (λ b. is)
tick_timely (Pausing until o) s w is =
    either_way TickTimely (nat_le until s.greatest) (sends_frame 1 o s w) (stays s w) (λ b. later_within s.config.reply_wait s) (λ b. is)

-- ---- frames

abbrev HeardTimely : Heard → Type 0
HeardTimely h = OfSession h.session

each_timely : (s : Session) → OfSession s → OfEach HeardTimely s
each_timely s is = record { ignored = is; rested = λ told. later_within s.config.poll_interval s; moved = λ d command. tt; lost = λ cause o. tt }

numbered_timely : (state : State) (a : ReplyMeaning) (s : Session) → OfSession s → HeardTimely (numbered_in state a s)
numbered_timely (Waiting until sends o) a s is =
    let near : s.greatest ≤ s.greatest + s.config.reply_wait = omega arith in
    of_wait HeardTimely s (each_timely s is) a sends o near (later_within s.config.busy_wait s)
numbered_timely (Pausing until o) a s is = of_pause HeardTimely s (each_timely s is) a o
numbered_timely _ a s is = is

frame_timely : (p : Packet) (now : ℕ) (s : Session) → OfSession s → HeardTimely (hears p now s)
frame_timely p now s is =
    either_frame HeardTimely p now s (λ from number. numbered_timely s.state (meaning_of p) (seen now s) (timely_seen s now is)) (timely_seen s now is)

-- ---- the other calls

begin_timely : (now : ℕ) (state : State) (m : Machine) → IsTimely m → IsTimely (changed_unless (refused_unless_closed state) m (after_begin now m))
begin_timely now Closed m is = later_within m.session.config.quiet_wait (seen now m.session)
begin_timely now _ m is = is

at_address : (c : ControllerConfig) (address greatest : ℕ) (state : State) → WaitsItsTime c greatest state → WaitsItsTime (record c { address = address }) greatest state
at_address c address greatest Closed w = tt
at_address c address greatest _ w = w

retarget_timely : (f : Option ControllerFault) (address : ℕ) (m : Machine) → IsTimely m → IsTimely (changed_unless f m (after_retarget address m))
retarget_timely None address m is = at_address m.session.config address m.session.greatest m.session.state is
retarget_timely (Some fault) address m is = is

call_timely : (call : Call) (m : Machine) → IsTimely m → IsTimely (after_call call m)
call_timely (Submit command) m is = subst OfSession (sym (submit_session (submit_refusal command m) command m)) is
call_timely (Begin now) m is = begin_timely now m.session.state m is
call_timely (Retarget address) m is = retarget_timely (retarget_refusal address m) address m is
call_timely Withdraw m is = is
call_timely (Tick now) m is = tick_timely m.session.state (seen now m.session) m.waiting (timely_seen m.session now is)
call_timely (Hear p now) m is = frame_timely p now m.session is

calls_timely : (calls : List Call) (m : Machine) → IsTimely m → IsTimely (after_calls calls m)
calls_timely [] m is = is
calls_timely (call ∷ calls) m is = calls_timely calls (after_call call m) (call_timely call m is)

pub stays_timely : StaysTimely
stays_timely = record { new = λ config capacity room. tt; later = λ m calls is. calls_timely calls m is }
