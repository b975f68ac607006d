-- What holds of each controller is kept by each call.
use Rattle.osdp_controller_laws.proofs.Common.{◌≡◌, ℕ, ◌+◌, ◌-◌, ◌<◌, ◌≤◌, ◌&&◌, Bool, true, false, List, [], ◌∷◌, length, Option, Some, None, refl, arith, rules, ◌≢◌, if◌then◌else◌, All, drop, nat_lt, nat_le, ltb-true, All-nil, All-push, All-tail, next_sequence, Command, Poll, ControllerConfig, Opening, Polling, Outstanding, ControllerFault, Session, State, Closed, Quiet, Idle, Waiting, Pausing, IsMachine, IsOutstanding, IsState, IsSubmitted, Machine, after_begin, after_retarget, after_submit, after_withdraw, bytes_kept, changed_unless, command_size, or_no_device, refused_unless_closed, retarget_refusal, submit_refusal, Call, Submit, Begin, Retarget, Withdraw, Tick, Hear, StaysWell, after_call, after_calls, seen, is_some, on_its_way, Ticked, begins, gives_up, sends_frame, stays, ticks_in, tries_again, either_way, first_true, keeps_seen}
use Rattle.std.proofs.lemmas.List.{length_push}
use Rattle.osdp_controller.specs.Settings.{IsConfig}
use Rattle.osdp_controller_laws.proofs.Bounded.{keeps_hears, keeps_tick}
use Rattle.osdp_controller.proofs.Idling.{idle_way}

accepted : (fault : ControllerFault) (b : Bool) → (if b then None else Some fault) ≡ None → b ≡ true
accepted fault true h = refl
accepted fault false h = cc

-- submitting

finds_room : (command : Command) (m : Machine) → submit_refusal command m ≡ None → (command ≢ Poll) × (length m.waiting < m.capacity)
finds_room Poll m h = cc
finds_room command m h =
    let place = nat_lt (length m.waiting) m.capacity in
    let bytes = nat_le (command_size command) (m.room - bytes_kept m) in
    ((λ e. cc), ltb-true (length m.waiting) m.capacity (first_true place bytes (accepted _ (place && bytes) h)))

keeps_submit : (f : Option ControllerFault) (command : Command) (m : Machine) → (f ≡ None → (command ≢ Poll) × (length m.waiting < m.capacity))
    → IsMachine m → IsMachine (changed_unless f m (after_submit command m))
keeps_submit None command m ok is =
    let room : length m.waiting < m.capacity = (ok refl).1 in
    let long = length_push m.waiting command in record {
      session = is.session;
      capacity = is.capacity;
      waiting = All-push IsSubmitted m.waiting command is.waiting (ok refl).0;
      room = omega arith;
    }
keeps_submit (Some fault) command m ok is = is

-- a session begins

keeps_begin : (now : ℕ) (state : State) (m : Machine) → IsMachine m → IsMachine (changed_unless (refused_unless_closed state) m (after_begin now m))
keeps_begin now Closed m is = record {
  session = record { config = is.session.config; state = tt; opening = tt };
  capacity = is.capacity;
  waiting = is.waiting;
  room = is.room;
}
keeps_begin now _ m is = is

-- another address

is_device : (f : Option ControllerFault) (address : ℕ) → or_no_device f address ≡ None → address < 127
is_device None address h = ltb-true address 127 (accepted _ (nat_lt address 127) h)
is_device (Some fault) address h = cc

same_outstanding : (c : ControllerConfig) (address sends : ℕ) (o : Outstanding) → IsOutstanding c sends o
    → IsOutstanding (record c { address = address }) sends o
same_outstanding c address sends o is = record { command = is.command; busies = is.busies; some = is.some; sent = is.sent }

same_state : (c : ControllerConfig) (address : ℕ) (state : State) → IsState c state → IsState (record c { address = address }) state
same_state c address (Waiting until sends o) is = (is.0, is.1, same_outstanding c address sends o is.2)
same_state c address (Pausing until o) is = same_outstanding c address 0 o is
same_state c address _ is = tt

pub keeps_config : (c : ControllerConfig) (address : ℕ) → address < 127 → IsConfig c → IsConfig (record c { address = address })
keeps_config c address device is = search rules

keeps_retarget : (f : Option ControllerFault) (address : ℕ) (m : Machine) → (f ≡ None → address < 127) → IsMachine m
    → IsMachine (changed_unless f m (after_retarget address m))
keeps_retarget None address m device is = record {
  session = record {
    config = keeps_config m.session.config address (device refl) is.session.config;
    state = same_state m.session.config address m.session.state is.session.state;
    opening = is.session.opening;
  };
  capacity = is.capacity;
  waiting = is.waiting;
  room = is.room;
}
keeps_retarget (Some fault) address m device is = is

-- withdrawing: the front leaves, or none

rest_well : (capacity : ℕ) (b : Bool) (w : List Command) → All IsSubmitted w → length w ≤ capacity
    → All IsSubmitted (if b then w else drop 1 w) × (length (if b then w else drop 1 w) ≤ capacity)
rest_well capacity true w all room = (all, room)
rest_well capacity false [] all room = (all, room)
rest_well capacity false (command ∷ w) all room = (All-tail IsSubmitted command w all, omega arith)

keeps_withdraw : (m : Machine) → IsMachine m → IsMachine (after_withdraw m)
keeps_withdraw m is =
    let rest = rest_well m.capacity (is_some (on_its_way m.session.state)) m.waiting is.waiting is.room in record {
      session = is.session;
      capacity = is.capacity;
      waiting = rest.0;
      room = rest.1;
    }

-- ticks take the front of the waiting commands or none

abbrev WaitWell : ℕ → Ticked → Type 0
WaitWell capacity t = All IsSubmitted t.waiting × (length t.waiting ≤ capacity)

wait_well : (capacity : ℕ) (state : State) (s : Session) (w : List Command) → All IsSubmitted w → length w ≤ capacity
    → WaitWell capacity (ticks_in state s w)
wait_well capacity Closed s w all room = (all, room)
wait_well capacity (Quiet until) s w all room =
    either_way (WaitWell capacity) (nat_le until s.greatest) (begins Opening 0 s w) (stays s w) (λ b. (all, room)) (λ b. (all, room))
wait_well capacity (Idle due) s w all room =
    idle_way (WaitWell capacity) due s w (λ b. (all, room)) (λ b. (all, room))
    (λ command rest e. let each = rw e at all in let fits = rw e at room in (All-tail IsSubmitted command rest each, omega (arith, fits)))
wait_well capacity (Waiting until sends o) s w all room =
    either_way (WaitWell capacity) (nat_le until s.greatest) (tries_again sends o s w) (stays s w)
    (λ b. either_way (WaitWell capacity) (nat_lt sends s.config.sends) (sends_frame (sends + 1) o s w) (gives_up o s w) (λ c. (all, room)) (λ c. (all, room)))
    (λ b. (all, room))
wait_well capacity (Pausing until o) s w all room =
    either_way (WaitWell capacity) (nat_le until s.greatest) (sends_frame 1 o s w) (stays s w) (λ b. (all, room)) (λ b. (all, room))

-- each call

pub keeps_each : (call : Call) (m : Machine) → IsMachine m → IsMachine (after_call call m)
keeps_each (Submit command) m is = keeps_submit (submit_refusal command m) command m (finds_room command m) is
keeps_each (Begin now) m is = keeps_begin now m.session.state m is
keeps_each (Retarget address) m is =
    keeps_retarget (retarget_refusal address m) address m (is_device (refused_unless_closed m.session.state) address) is
keeps_each Withdraw m is = keeps_withdraw m is
keeps_each (Tick now) m is =
    let waits = wait_well m.capacity m.session.state (seen now m.session) m.waiting is.waiting is.room in record {
      session =
          keeps_tick m.session.state (seen now m.session) m.waiting (keeps_seen now m.session is.session) is.session.state is.session.opening is.waiting;
      capacity = is.capacity;
      waiting = waits.0;
      room = waits.1;
    }
keeps_each (Hear p now) m is = record {
  session = keeps_hears p now m.session is.session;
  capacity = is.capacity;
  waiting = is.waiting;
  room = is.room;
}

keeps_all : (m : Machine) (calls : List Call) → IsMachine m → IsMachine (after_calls calls m)
keeps_all m [] is = is
keeps_all m (call ∷ calls) is = keeps_all (after_call call m) calls (keeps_each call m is)

pub stays_well : StaysWell
stays_well = record {
  new = λ config capacity room settings. record {
    session = record { config = settings.config_in_range; state = tt; opening = tt };
    capacity = (settings.room, settings.limit);
    waiting = All-nil IsSubmitted;
    room = omega arith;
  };
  later = keeps_all;
}
