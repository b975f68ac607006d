-- The numbers of the exchanges over a run of calls.
use Rattle.osdp_controller_laws.proofs.Common.{◌≡◌, ◌∙◌, ap, subst, ℕ, suc, ◌+◌, ◌≤◌, true, List, [], ◌∷◌, Option, Some, None, refl, arith, ne_eqb, Packet, next_sequence, Command, ReplyMeaning, Opening, Polling, Outstanding, ControllerFault, Session, State, Closed, Quiet, Idle, Waiting, Pausing, meaning_of, Heard, hears, numbered_in, Machine, after_begin, after_retarget, after_submit, changed_unless, is_outstanding, refused_unless_closed, retarget_refusal, sent_in, submit_refusal, Call, Submit, Begin, Retarget, Withdraw, Tick, Hear, HasNumberOfPlace, NumbersByPlace, after_call, after_calls, count_after, count_from, exchanges_begun, sent_by, seen, is_closed, Ticked, begins, gives_up, sends_frame, stays, ticks_in, tries_again, either_way}
use Rattle.std.specs.Prelude.{if◌then◌else◌, ◌&&◌, ◌==◌, nat_lt, nat_le, is_some}
use Rattle.osdp_controller_laws.proofs.Frames.{OfEach, either_frame, of_pause, of_wait}
use Rattle.osdp_controller_laws.proofs.Ticks.{numbers_turn}
use Rattle.osdp_controller.proofs.Idling.{idle_way}

-- by the state: the latest of so many exchanges has this number, and an outstanding one has sent a frame
abbrev Placed : ℕ → State → ℕ → Type 0
Placed count Closed number = Unit {0}
Placed count (Quiet until) number = count ≡ 0
Placed count (Idle due) number = HasNumberOfPlace count number
Placed count (Waiting until sends o) number = (1 ≤ o.sent) × HasNumberOfPlace count number
Placed count (Pausing until o) number = (1 ≤ o.sent) × HasNumberOfPlace count number

next_place : (count number : ℕ) → HasNumberOfPlace count number → HasNumberOfPlace (count + 1) (next_sequence number)
next_place count number at = (
  suc at.0,
  (let e : count ≡ at.0 + 1 = at.1 in omega arith),
  ap next_sequence at.2 ∙ (numbers_turn at.0).next,
)

-- ticks

abbrev PlacedAfter : ℕ → Ticked → Type 0
PlacedAfter count t =
    Placed (if is_some t.step.frame && sent_in t.session.state == 1 then count + 1 else count) t.session.state t.session.number

not_first : (sent count : ℕ) → 1 ≤ sent → (if sent + 1 == 1 then count + 1 else count) ≡ count
not_first sent count some = let no = ne_eqb (sent + 1) 1 (λ e. omega arith) in rw no refl

placed_again : (count sends : ℕ) (o : Outstanding) (s : Session) (w : List Command) → 1 ≤ o.sent → HasNumberOfPlace count s.number
    → PlacedAfter count (sends_frame sends o s w)
placed_again count sends o s w some at = let e = not_first o.sent count some in rw e (omega arith, at)

placed_ticks : (count : ℕ) (state : State) (s : Session) (w : List Command) → Placed count state s.number → Placed count s.state s.number
    → PlacedAfter count (ticks_in state s w)
placed_ticks count Closed s w at same = same
placed_ticks count (Quiet until) s w at same =
    either_way (PlacedAfter count) (nat_le until s.greatest) (begins Opening 0 s w) (stays s w)
    (λ b. (omega arith, (0, (let e : count ≡ 0 = at in omega arith), refl))) (λ b. same)
placed_ticks count (Idle due) s w at same =
    idle_way (PlacedAfter count) due s w (λ b. (omega arith, next_place count s.number at)) (λ b. same) (λ command rest e. (omega arith, next_place count s.number at))
placed_ticks count (Waiting until sends o) s w at same =
    either_way (PlacedAfter count) (nat_le until s.greatest) (tries_again sends o s w) (stays s w)
    (λ b. either_way (PlacedAfter count) (nat_lt sends s.config.sends) (sends_frame (sends + 1) o s w) (gives_up o s w)
    (λ c. placed_again count (sends + 1) o s w at.0 at.1) (λ c. tt))
    (λ b. same)
placed_ticks count (Pausing until o) s w at same =
    either_way (PlacedAfter count) (nat_le until s.greatest) (sends_frame 1 o s w) (stays s w)
    (λ b. placed_again count 1 o s w at.0 at.1) (λ b. same)

-- frames

abbrev PlacedIn : ℕ → Heard → Type 0
PlacedIn count h = Placed count h.session.state h.session.number

placed_each : (count : ℕ) (s : Session) → HasNumberOfPlace count s.number → Placed count s.state s.number → OfEach (PlacedIn count) s
placed_each count s at same = record { ignored = same; rested = λ told. at; moved = λ d command. tt; lost = λ cause o. tt }

placed_numbered : (count : ℕ) (state : State) (a : ReplyMeaning) (s : Session) → Placed count state s.number → Placed count s.state s.number
    → PlacedIn count (numbered_in state a s)
placed_numbered count (Waiting until sends o) a s at same = of_wait (PlacedIn count) s (placed_each count s at.1 same) a sends o at at
placed_numbered count (Pausing until o) a s at same = of_pause (PlacedIn count) s (placed_each count s at.1 same) a o
placed_numbered count _ a s at same = same

placed_hears : (count : ℕ) (p : Packet) (now : ℕ) (s : Session) → Placed count s.state s.number → PlacedIn count (hears p now s)
placed_hears count p now s at =
    either_frame (PlacedIn count) p now s
    (λ from h. placed_numbered count s.state (meaning_of p) (seen now s) at at) at

-- calls that may be refused

either_machine : (P : Machine → Type 0) (f : Option ControllerFault) (old new : Machine) → P old → P new → P (changed_unless f old new)
either_machine P None old new p q = q
either_machine P (Some fault) old new p q = p

abbrev PlacedMachine : ℕ → Machine → Type 0
PlacedMachine count m = Placed count m.session.state m.session.number

placed_begins : (count now : ℕ) (state : State) (m : Machine) → PlacedMachine count m
    → PlacedMachine (if is_closed state then 0 else count) (changed_unless (refused_unless_closed state) m (after_begin now m))
placed_begins count now Closed m at = refl
placed_begins count now _ m at = at

-- each call

placed_call : (count : ℕ) (call : Call) (m : Machine) → PlacedMachine count m → PlacedMachine (count_after call m count) (after_call call m)
placed_call count (Submit command) m at =
    either_machine (PlacedMachine count) (submit_refusal command m) m (after_submit command m) at at
placed_call count (Begin now) m at = placed_begins count now m.session.state m at
placed_call count (Retarget address) m at =
    either_machine (PlacedMachine count) (retarget_refusal address m) m (after_retarget address m) at at
placed_call count Withdraw m at = at
placed_call count (Tick now) m at = placed_ticks count m.session.state (seen now m.session) m.waiting at at
placed_call count (Hear p now) m at = placed_hears count p now m.session at

placed_calls : (count : ℕ) (calls : List Call) (m : Machine) → PlacedMachine count m
    → PlacedMachine (count_from count calls m) (after_calls calls m)
placed_calls count [] m at = at
placed_calls count (call ∷ calls) m at =
    placed_calls (count_after call m count) calls (after_call call m) (placed_call count call m at)

closed_placed : (state : State) (count number : ℕ) → is_closed state ≡ true → Placed count state number
closed_placed Closed count number h = tt
closed_placed _ count number h = cc

place_of : (state : State) (count number : ℕ) → is_outstanding state ≡ true → Placed count state number → HasNumberOfPlace count number
place_of (Waiting until sends o) count number h at = at.1
place_of (Pausing until o) count number h at = at.1
place_of _ count number h at = cc

-- a frame has the number of the session after it, and its exchange is outstanding then

abbrev SentAs : Ticked → Option Packet → Type 0
SentAs t None = Unit {0}
SentAs t (Some p) = (p.sequence ≡ t.session.number) × (is_outstanding t.session.state ≡ true)

abbrev SendsAs : Ticked → Type 0
SendsAs t = SentAs t t.step.frame

sends_as : (state : State) (s : Session) (w : List Command) → SendsAs (ticks_in state s w)
sends_as Closed s w = tt
sends_as (Quiet until) s w = either_way SendsAs (nat_le until s.greatest) (begins Opening 0 s w) (stays s w) (λ b. (refl, refl)) (λ b. tt)
sends_as (Idle due) s w = idle_way SendsAs due s w (λ b. (refl, refl)) (λ b. tt) (λ command rest e. (refl, refl))
sends_as (Waiting until sends o) s w =
    either_way SendsAs (nat_le until s.greatest) (tries_again sends o s w) (stays s w)
    (λ b. either_way SendsAs (nat_lt sends s.config.sends) (sends_frame (sends + 1) o s w) (gives_up o s w) (λ c. (refl, refl)) (λ c. tt))
    (λ b. tt)
sends_as (Pausing until o) s w = either_way SendsAs (nat_le until s.greatest) (sends_frame 1 o s w) (stays s w) (λ b. (refl, refl)) (λ b. tt)

pub sent_as : (call : Call) (m : Machine) (p : Packet) → sent_by call m ≡ Some p
    → (p.sequence ≡ (after_call call m).session.number) × (is_outstanding (after_call call m).session.state ≡ true)
sent_as (Tick now) m p e =
    let t = ticks_in m.session.state (seen now m.session) m.waiting in
    subst (SentAs t) e (sends_as m.session.state (seen now m.session) m.waiting)
sent_as _ m p e = cc

number_sent : (count n sequence : ℕ) → sequence ≡ n → HasNumberOfPlace count n → HasNumberOfPlace count sequence
number_sent count n sequence e at = (at.0, at.1, e ∙ at.2)

pub numbers_by_place : (m : Machine) (calls : List Call) → is_closed m.session.state ≡ true → NumbersByPlace m calls
numbers_by_place m calls h =
    let at = placed_calls 0 calls m (closed_placed m.session.state 0 m.session.number h) in record {
      outstanding = λ out. place_of (after_calls calls m).session.state (exchanges_begun calls m) (after_calls calls m).session.number out at;
      sent = λ call p e.
          let is = sent_as call (after_calls calls m) p e in
          let later = placed_call (exchanges_begun calls m) call (after_calls calls m) at in
          number_sent (count_after call (after_calls calls m) (exchanges_begun calls m)) (after_call call (after_calls calls m)).session.number p.sequence is.0
          (place_of (after_call call (after_calls calls m)).session.state (count_after call (after_calls calls m) (exchanges_begun calls m)) (after_call call (after_calls calls m)).session.number is.1 later);
    }
