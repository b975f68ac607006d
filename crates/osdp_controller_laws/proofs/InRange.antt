-- Numbers, deadlines and packets stay in their ranges.
use Rattle.osdp_controller_laws.proofs.Common.{◌≡◌, ◌∙◌, true, cond, ap, sym, subst, ℕ, ◌+◌, ◌-◌, ◌^◌, ◌<◌, ◌≤◌, List, [], ◌∷◌, length, Option, Some, None, refl, arith, ◌≢◌, min, max, nat_lt, nat_le, IfSome, le-leb, IsPacket, Packet, next_sequence, Command, CommandFits, command_code, command_data, command_laws, ReplyMeaning, Exchange, Opening, Polling, Asking, Outstanding, ControllerFault, Session, State, Closed, Quiet, Idle, Waiting, Pausing, meaning_of, ComesDue, IsInRange, SendsPackets, StaysInRange, latest, longest_wait, command_of, exchange_command, submitted_command, Heard, hears, numbered_in, exchange_in, Machine, acts, after_begin, after_retarget, after_submit, changed_unless, refused_unless_closed, retarget_refusal, submit_refusal, Call, Submit, Begin, Retarget, Withdraw, Tick, Hear, after_call, after_calls, sent_by, frame_of, later, seen, Ticked, begins, gives_up, sends_frame, stays, ticks_in, tries_again, either_way}
use Rattle.osdp_frame.specs.declared.check_kind.CheckKind.{CheckKind}
use Rattle.osdp_frame.specs.declared.check_kind.CheckKind.TheVariants.{Sum, Crc}
use Rattle.osdp_frame.specs.Check.{check_size}
use Rattle.osdp_controller_laws.proofs.Frames.{OfEach, either_frame, of_pause, of_wait}
use Rattle.osdp_controller_laws.proofs.Stepwise.{sends_its_frame}
use Rattle.osdp_controller_laws.proofs.Well.{keeps_each}
use Rattle.osdp_controller.proofs.Idling.{idle_way}
use Rattle.std.proofs.lemmas.Bool.{leb-false}

-- by the state: the number, the moment that is waited for, and the number of an exchange that isn't the opening
abbrev Near : State → ℕ → ℕ → Type 0
Near Closed number limit = number < 4
Near (Quiet until) number limit = (number < 4) × (until ≤ limit)
Near (Idle due) number limit = (number < 4) × (due ≤ limit)
Near (Waiting until sends o) number limit = (number < 4) × (until ≤ limit) × (o.exchange ≢ Opening → 0 < number)
Near (Pausing until o) number limit = (number < 4) × (until ≤ limit) × (o.exchange ≢ Opening → 0 < number)

of_near : (s : Session) → IsInRange s → (state : State) → s.state ≡ state → Near state s.number (latest s)
of_near s is Closed e = is.number
of_near s is (Quiet until) e = (is.number, rw e at is.deadline)
of_near s is (Idle due) e = (is.number, rw e at is.deadline)
of_near s is (Waiting until sends o) e = (is.number, (rw e at is.deadline), λ other. is.above_zero o.exchange (ap exchange_in e) other)
of_near s is (Pausing until o) e = (is.number, (rw e at is.deadline), λ other. is.above_zero o.exchange (ap exchange_in e) other)

above_zero : (x y : Exchange) (number : ℕ) → (x ≢ Opening → 0 < number) → Some x ≡ Some y → y ≢ Opening → 0 < number
above_zero x y number above e other = above (λ o. other (let same : x ≡ y = cc in sym same ∙ o))

to_near : (s : Session) → (state : State) → s.state ≡ state → Near state s.number (latest s) → IsInRange s
to_near s Closed e near = record { number = near; above_zero = λ x h other. cc; deadline = rw e tt }
to_near s (Quiet until) e near = record { number = near.0; above_zero = λ x h other. cc; deadline = rw e near.1 }
to_near s (Idle due) e near = record { number = near.0; above_zero = λ x h other. cc; deadline = rw e near.1 }
to_near s (Waiting until sends o) e near = record {
  number = near.0;
  above_zero = λ x h other. above_zero o.exchange x s.number near.2 (sym (ap exchange_in e) ∙ h) other;
  deadline = rw e near.1;
}
to_near s (Pausing until o) e near = record {
  number = near.0;
  above_zero = λ x h other. above_zero o.exchange x s.number near.2 (sym (ap exchange_in e) ∙ h) other;
  deadline = rw e near.1;
}

-- deadlines

later_soon : (wait : ℕ) (s : Session) → wait ≤ longest_wait s.config → later wait s ≤ latest s
later_soon wait s is = soon_by s.greatest wait (longest_wait s.config) is
  where
    soon_by : (g w longest : ℕ) → w ≤ longest → min (g + w) (2 ^ 64 - 1) ≤ max g (min (g + longest) (2 ^ 64 - 1))
    soon_by g w longest h = omega arith

reply_soon : (s : Session) → later s.config.reply_wait s ≤ latest s
reply_soon s = later_soon s.config.reply_wait s (omega arith)

poll_soon : (s : Session) → later s.config.poll_interval s ≤ latest s
poll_soon s = later_soon s.config.poll_interval s (omega arith)

busy_soon : (s : Session) → later s.config.busy_wait s ≤ latest s
busy_soon s = later_soon s.config.busy_wait s (omega arith)

quiet_soon : (s : Session) → later s.config.quiet_wait s ≤ latest s
quiet_soon s = later_soon s.config.quiet_wait s (omega arith)

now_soon : (s : Session) → s.greatest ≤ latest s
now_soon s = omega arith

-- a moment that is seen
seen_soon : (moment : ℕ) (s : Session) (now : ℕ) → moment ≤ latest s → moment ≤ latest (seen now s)
seen_soon moment s now h = by_greatest s.greatest (longest_wait s.config) h
  where
    by_greatest : (g w : ℕ) → moment ≤ max g (min (g + w) (2 ^ 64 - 1)) → moment ≤ max (max g now) (min (max g now + w) (2 ^ 64 - 1))
    by_greatest g w h = omega arith

near_seen : (state : State) (number : ℕ) (s : Session) (now : ℕ) → Near state number (latest s) → Near state number (latest (seen now s))
near_seen Closed number s now near = near
near_seen (Quiet until) number s now near = (near.0, seen_soon until s now near.1)
near_seen (Idle due) number s now near = (near.0, seen_soon due s now near.1)
near_seen (Waiting until sends o) number s now near = (near.0, seen_soon until s now near.1, near.2)
near_seen (Pausing until o) number s now near = (near.0, seen_soon until s now near.1, near.2)

-- ticks

next_below : (n : ℕ) → next_sequence n < 4
next_below n = omega arith

next_above : (n : ℕ) → 0 < next_sequence n
next_above n = omega arith

abbrev TickNear : Ticked → Type 0
TickNear t = Near t.session.state t.session.number (latest t.session)

begins_near : (x : Exchange) (number : ℕ) (s : Session) (w : List Command) → number < 4 → (x ≢ Opening → 0 < number)
    → TickNear (begins x number s w)
begins_near x number s w below above = (below, reply_soon s, above)

sends_near : (sends : ℕ) (o : Outstanding) (s : Session) (w : List Command) → s.number < 4 → (o.exchange ≢ Opening → 0 < s.number)
    → TickNear (sends_frame sends o s w)
sends_near sends o s w below above = (below, reply_soon s, above)

tick_near : (state : State) (s : Session) (w : List Command) → Near state s.number (latest s) → Near s.state s.number (latest s)
    → TickNear (ticks_in state s w)
tick_near Closed s w near same = same
tick_near (Quiet until) s w near same =
    either_way TickNear (nat_le until s.greatest) (begins Opening 0 s w) (stays s w)
    (λ b. begins_near Opening 0 s w (omega arith) (λ other. absurd (other refl))) (λ b. same)
tick_near (Idle due) s w near same =
    idle_way TickNear due s w
    (λ b. begins_near Polling (next_sequence s.number) s w (next_below s.number) (λ other. next_above s.number)) (λ b. same)
    (λ command rest e. begins_near (Asking command) (next_sequence s.number) s rest (next_below s.number) (λ other. next_above s.number))
tick_near (Waiting until sends o) s w near same =
    either_way TickNear (nat_le until s.greatest) (tries_again sends o s w) (stays s w)
    (λ b. either_way TickNear (nat_lt sends s.config.sends) (sends_frame (sends + 1) o s w) (gives_up o s w)
    (λ c. sends_near (sends + 1) o s w near.0 near.2) (λ c. near.0))
    (λ b. same)
tick_near (Pausing until o) s w near same =
    either_way TickNear (nat_le until s.greatest) (sends_frame 1 o s w) (stays s w)
    (λ b. sends_near 1 o s w near.0 near.2) (λ b. same)

-- frames

abbrev FrameNear : Heard → Type 0
FrameNear h = Near h.session.state h.session.number (latest h.session)

each_near : (s : Session) → s.number < 4 → Near s.state s.number (latest s) → OfEach FrameNear s
each_near s below same = record { ignored = same; rested = λ told. (below, poll_soon s); moved = λ d command. below; lost = λ cause o. below }

numbered_near : (state : State) (a : ReplyMeaning) (s : Session) → Near state s.number (latest s) → Near s.state s.number (latest s)
    → FrameNear (numbered_in state a s)
numbered_near (Waiting until sends o) a s near same =
    of_wait FrameNear s (each_near s near.0 same) a sends o (near.0, now_soon s, near.2) (near.0, busy_soon s, near.2)
numbered_near (Pausing until o) a s near same = of_pause FrameNear s (each_near s near.0 same) a o
numbered_near _ a s near same = same

frame_near : (p : Packet) (now : ℕ) (s : Session) → Near s.state s.number (latest s) → FrameNear (hears p now s)
frame_near p now s near =
    let same = near_seen s.state s.number s now near in
    either_frame FrameNear p now s
    (λ from h. numbered_near s.state (meaning_of p) (seen now s) same same) same

-- each call

abbrev MachineNear : Machine → Type 0
MachineNear m = Near m.session.state m.session.number (latest m.session)

number_below : (state : State) (number limit : ℕ) → Near state number limit → number < 4
number_below Closed number limit near = near
number_below _ number limit near = near.0

submit_near : (f : Option ControllerFault) (command : Command) (m : Machine) → MachineNear m → MachineNear (changed_unless f m (after_submit command m))
submit_near None command m near = near
submit_near (Some fault) command m near = near

begin_near : (now : ℕ) (f : Option ControllerFault) (m : Machine) → MachineNear m
    → MachineNear (changed_unless f m (after_begin now m))
begin_near now None m near =
    (number_below m.session.state m.session.number (latest m.session) near, quiet_soon (seen now m.session))
begin_near now (Some fault) m near = near

retarget_near : (f : Option ControllerFault) (address : ℕ) (m : Machine) → MachineNear m → MachineNear (changed_unless f m (after_retarget address m))
retarget_near None address m near = near
retarget_near (Some fault) address m near = near

call_near : (call : Call) (m : Machine) → MachineNear m → MachineNear (after_call call m)
call_near (Submit command) m near = submit_near (submit_refusal command m) command m near
call_near (Begin now) m near = begin_near now (refused_unless_closed m.session.state) m near
call_near (Retarget address) m near = retarget_near (retarget_refusal address m) address m near
call_near Withdraw m near = near
call_near (Tick now) m near =
    let same = near_seen m.session.state m.session.number m.session now near in
    tick_near m.session.state (seen now m.session) m.waiting same same
call_near (Hear p now) m near = frame_near p now m.session near

near_after : (m : Machine) (call : Call) → IsInRange m.session → IsInRange (after_call call m).session
near_after m call near =
    to_near (after_call call m).session (after_call call m).session.state refl
    (call_near call m (of_near m.session near m.session.state refl))

near_all : (m : Machine) (calls : List Call) → IsInRange m.session → IsInRange (after_calls calls m).session
near_all m [] near = near
near_all m (call ∷ calls) near = near_all (after_call call m) calls (near_after m call near)

pub stays_near : StaysInRange
stays_near = record {
  new = λ config capacity room. record { number = omega arith; above_zero = λ x h other. cc; deadline = tt };
  later = near_all;
}

-- ticks that come so late

abbrev Acts : Ticked → Type 0
Acts t = acts t.step ≡ true

-- a moment is reached: the tick takes the first branch
reached : (until : ℕ) (s : Session) (t u : Ticked) → until ≤ s.greatest → Acts t → Acts (cond (nat_le until s.greatest) t u)
reached until s t u h first = subst (λ b. Acts (cond b t u)) (sym (le-leb until s.greatest h)) first

due_by : (state : State) (s : Session) (w : List Command) (limit : ℕ) → state ≢ Closed → limit ≤ s.greatest → Near state s.number limit
    → Acts (ticks_in state s w)
due_by Closed s w limit unended late near = absurd (unended refl)
due_by (Quiet until) s w limit unended late near = reached until s (begins Opening 0 s w) (stays s w) (omega (arith, near.1)) refl
due_by (Idle due) s w limit unended late near =
    idle_way Acts due s w (λ b. refl) (λ b. absurd (let below = leb-false due s.greatest b in let by = near.1 in omega (arith, below, by, late))) (λ command rest e. refl)
due_by (Waiting until sends o) s w limit unended late near =
    reached until s (tries_again sends o s w) (stays s w) (omega (arith, near.1))
    (either_way Acts (nat_lt sends s.config.sends) (sends_frame (sends + 1) o s w) (gives_up o s w) (λ b. refl) (λ b. refl))
due_by (Pausing until o) s w limit unended late near = reached until s (sends_frame 1 o s w) (stays s w) (omega (arith, near.1)) refl

pub comes_due : ComesDue
comes_due now m near unended late =
    due_by m.session.state (seen now m.session) m.waiting (latest m.session) unended (omega (arith, late)) (of_near m.session near m.session.state refl)

-- packets

small_check : (kind : CheckKind) → check_size kind ≤ 2
small_check Sum = omega arith
small_check Crc = omega arith

exchange_fits : (x : Exchange) → IfSome (submitted_command x) CommandFits → CommandFits (exchange_command x)
exchange_fits Opening fits = omega arith
exchange_fits Polling fits = tt
exchange_fits (Asking command) fits = fits

frame_is_packet : (x : Exchange) (s : Session) → s.config.address < 127 → s.number < 4 → CommandFits (exchange_command x) → IsPacket (frame_of x s)
frame_is_packet x s address number fits =
    let body = command_laws.fits (command_code (exchange_command x)) (command_data (exchange_command x)) (exchange_command x)
    (record { code_is = refl; data_is = refl; fits = fits }) in
    let room : 1 + length (command_data (exchange_command x)) ≤ 1433 = body.1 in
    let check : check_size s.config.check ≤ 2 = small_check s.config.check in record {
      address = omega arith;
      sequence = number;
      reserved = omega arith;
      body = body.0;
      code = omega arith;
      room = omega arith;
    }

frame_sent : (call : Call) (m : Machine) (p : Packet) → sent_by call m ≡ Some p
    → (x : Exchange) × (exchange_in (after_call call m).session.state ≡ Some x) × (p ≡ frame_of x (after_call call m).session)
frame_sent (Tick now) m p e = sends_its_frame now m.session m.waiting p e
frame_sent _ m p e = cc

pub sends_packets : SendsPackets
sends_packets m call p is near e fits =
    let later = keeps_each call m is in
    let session = later.session in
    let config = session.config in
    let ranges = near_after m call near in
    let frame = frame_sent call m p e in
    let asked = subst (λ (o : Option Exchange). IfSome (command_of o) CommandFits) frame.1 fits in
    subst IsPacket (sym frame.2) (frame_is_packet frame.0 (after_call call m).session config.address ranges.number (exchange_fits frame.0 asked))
