-- Commands that wait as their bytes, after the one that is on its way.
use Rattle.osdp_controller.proofs.Common.{◌≡◌, ◌+◌, ◌-◌, ◌*◌, ◌≤◌, ◌<◌, ◌&&◌, not, Bool, true, false, ℕ, List, [], ◌∷◌, ◌++◌, length, map, drop, Option, Some, None, refl, sym, ap, ◌∙◌, subst, arith, length-append, All, option_map_or, IfSome, if◌then◌else◌, is_some, nat_le, nat_lt, le-leb, leb-true, lt-ltb, length-map, length-drop, All-drop, All-head, All-nil, All-push, All-tail, next_sequence, Command, Room, command_kept, most_data, Opening, Polling, Asking, Session, State, Closed, Quiet, Idle, Waiting, Pausing, IsCommand, on_its_way, state_in, new_session, after_act, next_in, popped_if, submitted_if, Ticked, gives_up, sends_frame, stays, ticks_in, tries_again, begins_exchange, polls, asks_or_polls, is_poll_next, IsController, bytes_for, first_of, machine_of, session_of, waiting_in, AreSettings, IsSession, IsSubmitted, bytes_waiting, command_size, has_room}
use Rattle.osdp_msg.specs.declared.command.Command.TheVariants.{Poll, Id, Cap, LocalStatus, InputStatus, OutputStatus, ReaderStatus, Output, Led, Buzzer, Text, Comset, Maker}
use Rattle.osdp_msg.specs.CommandTable.{command_at, command_code, command_data, command_fault, command_of}
use Rattle.osdp_controller.specs.declared.config.ControllerConfig.{ControllerConfig}
use Rattle.osdp_controller.specs.declared.session.KeptSession.{KeptSession}
use Rattle.osdp_controller.specs.Comsets.{has_comset, is_comset}
use Rattle.osdp_controller.specs.Machine.{after_withdraw}
use Rattle.osdp_controller.proofs.OnItsWay.{Follows, asked_before, follows_same, of_none, same_state, still_its_own}
use Rattle.osdp_ring.specs.Ring.{Strings, begins, empty_ring, fits_in, has_first, popped, pushed_if, total}

-- what was written is kept as itself
pub is_command : (c : Command) (bytes : List ℕ) → length bytes ≤ 1 + most_data → bytes ≡ command_code c ∷ command_data c → command_kept bytes ≡ c → IsCommand bytes
is_command c bytes size spelled kept = record { size = size; spelled = spelled ∙ ap (λ (m : Command). command_code m ∷ command_data m) (sym kept) }

pub size_is : (bytes : List ℕ) → IsCommand bytes → command_size (command_kept bytes) ≡ length bytes
size_is bytes is = sym (ap length is.spelled)

pub bytes_total : (ss : List (List ℕ)) → All IsCommand ss → bytes_waiting (map command_kept ss) ≡ total ss
bytes_total [] commands = refl
bytes_total (s ∷ ss) commands =
    ap (λ (k : ℕ). k + bytes_waiting (map command_kept ss)) (size_is s (All-head IsCommand s ss commands))
    ∙ ap (λ (k : ℕ). length s + k) (bytes_total ss (All-tail IsCommand s ss commands))

-- the commands of strings, one more or the first one less
pub map_push : (ss : List (List ℕ)) (s : List ℕ) → map command_kept (ss ++ s ∷ []) ≡ map command_kept ss ++ command_kept s ∷ []
map_push [] s = refl
map_push (t ∷ ss) s = ap (λ (cs : List Command). command_kept t ∷ cs) (map_push ss s)

pub map_pop : (ss : List (List ℕ)) → map command_kept (drop 1 ss) ≡ drop 1 (map command_kept ss)
map_pop [] = refl
map_pop (s ∷ ss) = refl

-- what waits, where one more does, and where the first one may leave
waiting_pushed : (b : Bool) (items : List (List ℕ)) (s : List ℕ) → (b ≡ true → 1 ≤ length items)
    → (if b then drop 1 (items ++ s ∷ []) else items ++ s ∷ []) ≡ (if b then drop 1 items else items) ++ s ∷ []
waiting_pushed true [] s some = absurd (let e = some refl in omega (arith, e))
waiting_pushed true (t ∷ items) s some = refl
waiting_pushed false items s some = refl

waiting_settled : (a b : Bool) (q : Strings) → (b ≡ true → a ≡ true)
    → (if b then drop 1 (popped_if (a && not b) q).items else (popped_if (a && not b) q).items) ≡ (if a then drop 1 q.items else q.items)
waiting_settled true true q follows = refl
waiting_settled true false q follows = refl
waiting_settled false true q follows = absurd (let e = follows refl in cc)
waiting_settled false false q follows = refl

pub settled_waiting : (old new : State) (q : Strings) → Follows old new
    → waiting_in new (popped_if (is_some (on_its_way old) && not (is_some (on_its_way new))) q).items ≡ waiting_in old q.items
settled_waiting old new q follows = waiting_settled (is_some (on_its_way old)) (is_some (on_its_way new)) q (asked_before old new follows)

pub pushed_waiting : (session : Session) (q : Strings) (room : Room) (s : List ℕ) → IsController session q room
    → waiting_in session.state (q.items ++ s ∷ []) ≡ waiting_in session.state q.items ++ s ∷ []
pushed_waiting session q room s is = waiting_pushed (is_some (on_its_way session.state)) q.items s is.first

popped_commands : (t : Bool) (q : Strings) → All IsCommand q.items → All IsCommand (popped_if t q).items
popped_commands true q commands = All-drop IsCommand 1 q.items commands
popped_commands false q commands = commands

popped_places : (t : Bool) (q : Strings) → (popped_if t q).capacity ≡ q.capacity
popped_places true q = refl
popped_places false q = refl

popped_room : (t : Bool) (q : Strings) → (popped_if t q).room ≡ q.room
popped_room true q = refl
popped_room false q = refl

popped_first : (a b : Bool) (q : Strings) → (b ≡ true → a ≡ true) → (a ≡ true → 1 ≤ length q.items) → b ≡ true → 1 ≤ length (popped_if (a && not b) q).items
popped_first true true q follows first asks = first refl
popped_first true false q follows first asks = cc
popped_first false true q follows first asks = absurd (let e = follows refl in cc)
popped_first false false q follows first asks = cc

-- ---- what holds of each controller is kept

-- where as much waits as before
with_waiting : (old session : Session) (q r : Strings) (room : Room) → IsSession session → waiting_in session.state r.items ≡ waiting_in old.state q.items
    → All IsCommand r.items → (is_some (on_its_way session.state) ≡ true → 1 ≤ length r.items) → r.capacity ≡ q.capacity → r.room ≡ q.room
    → IsController old q room → IsController session r room
with_waiting old session q r room kept same commands first places bytes is = record {
  machine = record {
    session = kept;
    capacity = is.machine.capacity;
    waiting = subst (λ (w : List (List ℕ)). All IsSubmitted (map command_kept w)) (sym same) is.machine.waiting;
    room = subst (λ (w : List (List ℕ)). length (map command_kept w) ≤ room.messages) (sym same) is.machine.room;
  };
  commands = commands;
  first = first;
  places = places ∙ is.places;
  bytes = bytes ∙ is.bytes;
}

-- .. or the first of what waits is on its way or gone
with_less : (old session : Session) (q r : Strings) (room : Room) → IsSession session → waiting_in session.state r.items ≡ drop 1 (waiting_in old.state q.items)
    → All IsCommand r.items → (is_some (on_its_way session.state) ≡ true → 1 ≤ length r.items) → r.capacity ≡ q.capacity → r.room ≡ q.room
    → IsController old q room → IsController session r room
with_less old session q r room kept same commands first places bytes is =
    let w = waiting_in old.state q.items in
    record {
      machine = record {
        session = kept;
        capacity = is.machine.capacity;
        waiting = subst (λ (v : List (List ℕ)). All IsSubmitted (map command_kept v)) (sym same)
            (subst (λ (cs : List Command). All IsSubmitted cs) (sym (map_pop w)) (All-drop IsSubmitted 1 (map command_kept w) is.machine.waiting));
        room = subst (λ (v : List (List ℕ)). length (map command_kept v) ≤ room.messages) (sym same)
            (let fewer = length-map (drop 1 w) command_kept in let all = length-map w command_kept in let left = length-drop 1 w in let most = is.machine.room in omega (arith, fewer, all, left, most));
      };
      commands = commands;
      first = first;
      places = places ∙ is.places;
      bytes = bytes ∙ is.bytes;
    }

pub keeps_settled : (old session : Session) (q : Strings) (room : Room) → Follows old.state session.state → IsSession session → IsController old q room
    → IsController session (popped_if (is_some (on_its_way old.state) && not (is_some (on_its_way session.state))) q) room
keeps_settled old session q room follows kept is =
    let a = is_some (on_its_way old.state) in
    let b = is_some (on_its_way session.state) in
    with_waiting old session q (popped_if (a && not b) q) room kept (settled_waiting old.state session.state q follows) (popped_commands (a && not b) q is.commands)
    (popped_first a b q (asked_before old.state session.state follows) is.first) (popped_places (a && not b) q) (popped_room (a && not b) q) is

-- a session that asks a command where the one before did
pub keeps_session : (old session : Session) (q : Strings) (room : Room) → is_some (on_its_way session.state) ≡ is_some (on_its_way old.state) → IsSession session
    → IsController old q room → IsController session q room
keeps_session old session q room same kept is =
    with_waiting old session q q room kept (ap (λ (b : Bool). if b then drop 1 q.items else q.items) same) is.commands (λ asks. is.first (sym same ∙ asks)) refl refl is

-- the first of those that wait is on its way
pub keeps_begun : (old session : Session) (q : Strings) (room : Room) → is_some (on_its_way old.state) ≡ false → 1 ≤ length q.items → is_some (on_its_way session.state) ≡ true
    → IsSession session → IsController old q room → IsController session q room
keeps_begun old session q room none some asks kept is =
    with_less old session q q room kept (rw (asks, none) refl) is.commands (λ asks. some) refl refl is

-- .. or it leaves
pub keeps_popped : (session : Session) (q : Strings) (room : Room) → is_some (on_its_way session.state) ≡ false → IsController session q room
    → IsController session (popped q) room
keeps_popped session q room none is =
    with_less session session q (popped q) room is.machine.session (rw none refl) (All-drop IsCommand 1 q.items is.commands)
    (λ asks. absurd (let e = sym none ∙ asks in cc)) refl refl is

-- a command is put after the others
pub keeps_pushed : (fits : Bool) (bytes : List ℕ) (session : Session) (q : Strings) (room : Room) → IsSubmitted (command_kept bytes) → IsCommand bytes
    → length (map command_kept (waiting_in session.state q.items)) < room.messages → IsController session q room → IsController session (pushed_if fits bytes q) room
keeps_pushed false bytes session q room submitted command fewer is = is
keeps_pushed true bytes session q room submitted command fewer is =
    let w = waiting_in session.state q.items in
    let same = pushed_waiting session q room bytes is in
    record {
      machine = record {
        session = is.machine.session;
        capacity = is.machine.capacity;
        waiting = subst (λ (v : List (List ℕ)). All IsSubmitted (map command_kept v)) (sym same)
            (subst (λ (cs : List Command). All IsSubmitted cs) (sym (map_push w bytes)) (All-push IsSubmitted (map command_kept w) (command_kept bytes) is.machine.waiting submitted));
        room = subst (λ (v : List (List ℕ)). length (map command_kept v) ≤ room.messages) (sym same)
            (let more = length-map (w ++ bytes ∷ []) command_kept in let all = length-map w command_kept in let longer = length-append w (bytes ∷ []) in omega (arith, more, all, longer, fewer));
      };
      commands = All-push IsCommand q.items bytes is.commands command;
      first = λ asks. let longer = length-append q.items (bytes ∷ []) in omega (arith, longer);
      places = is.places;
      bytes = is.bytes;
    }

-- ---- the session, by what stands first

pub poll_is : IsCommand (0x60 ∷ [])
unfolding command_of command_fault command_at
poll_is = record { size = omega arith; spelled = refl }

-- where no command is on its way it makes no difference
pub other_first : (k : KeptSession) (a b : List ℕ) → is_some (on_its_way (state_in k.at a)) ≡ false → session_of k b ≡ session_of k a
other_first k a b none =
    ap (λ (state : State). record { config = k.config; state = state; number = k.number; asked = k.asked; greatest = k.greatest })
    (same_state k.at a b (of_none (on_its_way (state_in k.at a)) (λ c. c ≡ command_kept b) none))

-- a new controller
pub new_is : (k : KeptSession) (config : ControllerConfig) (q : Strings) (room : Room) → ((bytes : List ℕ) → session_of k bytes ≡ new_session config)
    → AreSettings config room.messages room.bytes → q ≡ empty_ring (room.messages + 1) (bytes_for room) → IsController (session_of k (first_of q.items)) q room
new_is k config q room is settings same =
    subst (λ (r : Strings). IsController (session_of k (first_of r.items)) r room) (sym same)
    (subst (λ (s : Session). IsController s (empty_ring (room.messages + 1) (bytes_for room)) room) (sym (is (first_of []))) (record {
      machine = record {
        session = record { config = settings.config_in_range; state = tt; opening = tt };
        capacity = (settings.room, settings.limit);
        waiting = All-nil IsSubmitted;
        room = omega arith;
      };
      commands = All-nil IsCommand;
      first = λ asks. cc;
      places = refl;
      bytes = refl;
    }))

-- the first one leaves while none is on its way
pub keeps_withdrawn : (k : KeptSession) (q : Strings) (room : Room) → is_some (on_its_way (state_in k.at (first_of q.items))) ≡ false
    → IsController (session_of k (first_of q.items)) q room → IsController (session_of k (first_of (popped q).items)) (popped q) room
keeps_withdrawn k q room none is =
    subst (λ (s : Session). IsController s (popped q) room) (sym (other_first k (first_of q.items) (first_of (popped q).items) none))
    (keeps_popped (session_of k (first_of q.items)) q room none is)

pub withdrawn_machine : (k : KeptSession) (q : Strings) (room : Room) → is_some (on_its_way (state_in k.at (first_of q.items))) ≡ false
    → machine_of (session_of k (first_of (popped q).items)) (popped q) room ≡ after_withdraw (machine_of (session_of k (first_of q.items)) q room)
withdrawn_machine k q room none =
    let s = session_of k (first_of q.items) in
    ap (λ (t : Session). machine_of t (popped q) room) (other_first k (first_of q.items) (first_of (popped q).items) none)
    ∙ rw none (ap (λ (w : List Command). record { session = s; waiting = w; capacity = room.messages; room = room.bytes }) (map_pop q.items))

-- a command is put after the others
by_first : (k : KeptSession) (items : List (List ℕ)) (bytes : List ℕ) → (is_some (on_its_way (state_in k.at (first_of items))) ≡ true → 1 ≤ length items)
    → session_of k (first_of (items ++ bytes ∷ [])) ≡ session_of k (first_of items)
by_first k [] bytes first = by_test (is_some (on_its_way (state_in k.at (first_of [])))) refl
  where
    by_test : (t : Bool) → is_some (on_its_way (state_in k.at (first_of []))) ≡ t → session_of k bytes ≡ session_of k (first_of [])
    by_test true asks = absurd (let e = first asks in omega (arith, e))
    by_test false none = other_first k (first_of []) bytes none
by_first k (s ∷ ss) bytes first = refl

pub pushed_session : (fits : Bool) (bytes : List ℕ) (k : KeptSession) (q : Strings) (room : Room) → IsController (session_of k (first_of q.items)) q room
    → session_of k (first_of (pushed_if fits bytes q).items) ≡ session_of k (first_of q.items)
pushed_session false bytes k q room is = refl
pushed_session true bytes k q room is = by_first k q.items bytes is.first

pub pushed_machine : (fits : Bool) (bytes : List ℕ) (k : KeptSession) (q : Strings) (room : Room) → IsController (session_of k (first_of q.items)) q room
    → machine_of (session_of k (first_of (pushed_if fits bytes q).items)) (pushed_if fits bytes q) room
    ≡ submitted_if fits (command_kept bytes) (machine_of (session_of k (first_of q.items)) q room)
pushed_machine false bytes k q room is = refl
pushed_machine true bytes k q room is =
    let s = session_of k (first_of q.items) in
    ap (λ (t : Session). machine_of t (pushed_if true bytes q) room) (pushed_session true bytes k q room is)
    ∙ ap (λ (w : List Command). record { session = s; waiting = w; capacity = room.messages; room = room.bytes })
    (ap (λ (v : List (List ℕ)). map command_kept v) (pushed_waiting s q room bytes is) ∙ map_push (waiting_in s.state q.items) bytes)

pub keeps_put : (fits : Bool) (bytes : List ℕ) (k : KeptSession) (q : Strings) (room : Room) → IsSubmitted (command_kept bytes) → IsCommand bytes
    → length (map command_kept (waiting_in (state_in k.at (first_of q.items)) q.items)) < room.messages → IsController (session_of k (first_of q.items)) q room
    → IsController (session_of k (first_of (pushed_if fits bytes q).items)) (pushed_if fits bytes q) room
keeps_put fits bytes k q room submitted command fewer is =
    subst (λ (s : Session). IsController s (pushed_if fits bytes q) room) (sym (pushed_session fits bytes k q room is))
    (keeps_pushed fits bytes (session_of k (first_of q.items)) q room submitted command fewer is)

-- ---- the session is kept again: what its bytes say of it is `keep`

abbrev pub IsKept : KeptSession → Session → Type 0
IsKept k s = (bytes : List ℕ) → IfSome (on_its_way s.state) (λ command. command ≡ command_kept bytes) → session_of k bytes ≡ s

-- after what settles its command, or leaves it
pub settled_session : (old k : KeptSession) (s : Session) (q : Strings) → Follows (state_in old.at (first_of q.items)) s.state → IsKept k s
    → let r = popped_if (is_some (on_its_way (state_in old.at (first_of q.items))) && not (is_some (on_its_way s.state))) q in session_of k (first_of r.items) ≡ s
settled_session old k s q follows kept =
    kept (first_of r.items) (by_test (is_some (on_its_way (state_in old.at (first_of q.items)))) (is_some (on_its_way s.state)) refl refl)
  where
    before : State
    before = state_in old.at (first_of q.items)

    r : Strings
    r = popped_if (is_some (on_its_way before) && not (is_some (on_its_way s.state))) q

    by_test : (a b : Bool) → is_some (on_its_way before) ≡ a → is_some (on_its_way s.state) ≡ b → IfSome (on_its_way s.state) (λ c. c ≡ command_kept (first_of r.items))
    by_test a false asked none = of_none (on_its_way s.state) (λ c. c ≡ command_kept (first_of r.items)) none
    by_test a true asked asks =
        let both = asked_before before s.state follows asks in
        subst (λ (t : Bool). IfSome (on_its_way s.state) (λ c. c ≡ command_kept (first_of (popped_if t q).items)))
        (sym (ap (λ (t : Bool). t && not (is_some (on_its_way s.state))) both ∙ ap (λ (t : Bool). not t) asks))
        (still_its_own old.at (first_of q.items) s.state follows)

pub settled_machine : (old k : KeptSession) (s : Session) (q : Strings) (room : Room) → Follows (state_in old.at (first_of q.items)) s.state → IsKept k s
    → let r = popped_if (is_some (on_its_way (state_in old.at (first_of q.items))) && not (is_some (on_its_way s.state))) q in
    machine_of (session_of k (first_of r.items)) r room ≡ record (machine_of (session_of old (first_of q.items)) q room) { session = s }
settled_machine old k s q room follows kept =
    let before = state_in old.at (first_of q.items) in
    let r = popped_if (is_some (on_its_way before) && not (is_some (on_its_way s.state))) q in
    ap (λ (t : Session). machine_of t r room) (settled_session old k s q follows kept)
    ∙ ap (λ (v : List (List ℕ)). record { session = s; waiting = map command_kept v; capacity = room.messages; room = room.bytes }) (settled_waiting before s.state q follows)

pub keeps_settling : (old k : KeptSession) (s : Session) (q : Strings) (room : Room) → Follows (state_in old.at (first_of q.items)) s.state → IsKept k s → IsSession s
    → IsController (session_of old (first_of q.items)) q room
    → let r = popped_if (is_some (on_its_way (state_in old.at (first_of q.items))) && not (is_some (on_its_way s.state))) q in
    IsController (session_of k (first_of r.items)) r room
keeps_settling old k s q room follows kept session is =
    let before = state_in old.at (first_of q.items) in
    let r = popped_if (is_some (on_its_way before) && not (is_some (on_its_way s.state))) q in
    subst (λ (t : Session). IsController t r room) (sym (settled_session old k s q follows kept))
    (keeps_settled (session_of old (first_of q.items)) s q room follows session is)

-- the same of what the calls leave
module _ (old k : KeptSession) (first s : Session) (q r : Strings) (asked settled : Bool) (start : first ≡ session_of old (first_of q.items))
    (asks : asked ≡ is_some (on_its_way first.state)) (is_settled : settled ≡ (asked && not (is_some (on_its_way s.state)))) (popped_is : r ≡ popped_if settled q)
    (follows : Follows first.state s.state) (kept : IsKept k s) where
  abbrev left : Strings
  left = popped_if (is_some (on_its_way (state_in old.at (first_of q.items))) && not (is_some (on_its_way s.state))) q

  left_is : left ≡ r
  left_is = sym (popped_is ∙ ap (λ (t : Bool). popped_if t q) (is_settled ∙ ap (λ (t : Bool). t && not (is_some (on_its_way s.state)))
      (asks ∙ ap (λ (x : Session). is_some (on_its_way x.state)) start)))

  goes_on : Follows (state_in old.at (first_of q.items)) s.state
  goes_on = subst (λ (x : Session). Follows x.state s.state) start follows

  pub after_settling : (room : Room) → IsSession s → IsController (session_of old (first_of q.items)) q room → IsController (session_of k (first_of r.items)) r room
  after_settling room session is =
      subst (λ (x : Strings). IsController (session_of k (first_of x.items)) x room) left_is (keeps_settling old k s q room goes_on kept session is)

  pub machine_settled : (room : Room) → machine_of (session_of k (first_of r.items)) r room ≡ record (machine_of (session_of old (first_of q.items)) q room) { session = s }
  machine_settled room =
      subst (λ (x : Strings). machine_of (session_of k (first_of x.items)) x room ≡ record (machine_of (session_of old (first_of q.items)) q room) { session = s }) left_is
      (settled_machine old k s q room goes_on kept)

-- ---- the first of those that wait

pub first_waits : (state : State) (poll_next : Bool) (items : List (List ℕ)) (bytes : List ℕ) → next_in state poll_next items ≡ Some bytes
    → (is_some (on_its_way state) ≡ false) × (first_of items ≡ bytes) × (1 ≤ length items)
first_waits Closed poll_next items bytes e = cc
first_waits (Quiet until) poll_next items bytes e = cc
first_waits (Idle due) true items bytes e = cc
first_waits (Idle due) false [] bytes e = cc
first_waits (Idle due) false (s ∷ ss) bytes e = (refl, (let same : s ≡ bytes = cc in same), omega arith)
first_waits (Waiting until sends o) poll_next items bytes e = cc
first_waits (Pausing until o) poll_next items bytes e = cc

-- .. by whether a POLL comes next
idle_begins : (poll_next : Bool) (due : ℕ) (s : Session) (items : List (List ℕ)) (bytes : List ℕ) → next_in (Idle due) poll_next items ≡ Some bytes
    → (if poll_next then polls due s (map command_kept items) else asks_or_polls (map command_kept items) due s)
    ≡ begins_exchange (Asking (command_kept bytes)) (next_sequence s.number) s (map command_kept (drop 1 items))
idle_begins true due s items bytes e = cc
idle_begins false due s [] bytes e = cc
idle_begins false due s (b ∷ items) bytes e =
    let same : b ≡ bytes = cc in
    ap (λ (x : List ℕ). begins_exchange (Asking (command_kept x)) (next_sequence s.number) s (map command_kept items)) same

pub begins_first : (state : State) (s : Session) (items : List (List ℕ)) (bytes : List ℕ) → next_in state (is_poll_next s) items ≡ Some bytes
    → ticks_in state s (map command_kept (waiting_in state items)) ≡ begins_exchange (Asking (command_kept bytes)) (next_sequence s.number) s (map command_kept (drop 1 items))
begins_first Closed s items bytes e = cc
begins_first (Quiet until) s items bytes e = cc
begins_first (Idle due) s items bytes e = idle_begins (is_poll_next s) due s items bytes e
begins_first (Waiting until sends o) s items bytes e = cc
begins_first (Pausing until o) s items bytes e = cc

branches : (b : Bool) (x y v z : Ticked) (w : List Command) → v ≡ record x { waiting = w } → z ≡ record y { waiting = w }
    → (if b then v else z) ≡ record (if b then x else y) { waiting = w }
branches true x y v z w p q = p
branches false x y v z w p q = q

polls_leave : (due : ℕ) (s : Session) (w : List Command) → polls due s w ≡ record (polls due s []) { waiting = w }
polls_leave due s w =
    branches (nat_le due s.greatest) (begins_exchange Polling (next_sequence s.number) s []) (stays s [])
    (begins_exchange Polling (next_sequence s.number) s w) (stays s w) w refl refl

idle_leaves : (poll_next : Bool) (due : ℕ) (s : Session) (items : List (List ℕ)) → next_in (Idle due) poll_next items ≡ None
    → let w = map command_kept items in
    (if poll_next then polls due s w else asks_or_polls w due s) ≡ record (if poll_next then polls due s [] else asks_or_polls [] due s) { waiting = w }
idle_leaves true due s items e = polls_leave due s (map command_kept items)
idle_leaves false due s [] e = polls_leave due s []
idle_leaves false due s (b ∷ items) e = cc

-- where none begins, a tick leaves those that wait
pub ticks_leave : (state : State) (s : Session) (items : List (List ℕ)) → next_in state (is_poll_next s) items ≡ None
    → let w = map command_kept (waiting_in state items) in ticks_in state s w ≡ record (ticks_in state s []) { waiting = w }
ticks_leave Closed s items e = refl
ticks_leave (Quiet until) s items e =
    let w = map command_kept items in
    branches (nat_le until s.greatest) (begins_exchange Opening 0 s []) (stays s []) (begins_exchange Opening 0 s w) (stays s w) w refl refl
ticks_leave (Idle due) s items e = idle_leaves (is_poll_next s) due s items e
ticks_leave (Waiting until sends o) s items e =
    let w = map command_kept (waiting_in (Waiting until sends o) items) in
    branches (nat_le until s.greatest) (tries_again sends o s []) (stays s []) (tries_again sends o s w) (stays s w) w
    (branches (nat_lt sends s.config.sends) (sends_frame (sends + 1) o s []) (gives_up o s []) (sends_frame (sends + 1) o s w) (gives_up o s w) w refl refl) refl
ticks_leave (Pausing until o) s items e =
    let w = map command_kept (waiting_in (Pausing until o) items) in
    branches (nat_le until s.greatest) (sends_frame 1 o s []) (stays s []) (sends_frame 1 o s w) (stays s w) w refl refl

-- the command of the first one is on its way
pub keeps_beginning : (old k : KeptSession) (s : Session) (q : Strings) (room : Room) (bytes : List ℕ) (poll_next : Bool) → next_in (state_in old.at (first_of q.items)) poll_next q.items ≡ Some bytes
    → on_its_way s.state ≡ Some (command_kept bytes) → IsKept k s → IsSession s → IsController (session_of old (first_of q.items)) q room
    → IsController (session_of k (first_of q.items)) q room
keeps_beginning old k s q room bytes poll_next next asks kept session is =
    let first = first_waits (state_in old.at (first_of q.items)) poll_next q.items bytes next in
    let own = subst (λ (o : Option Command). IfSome o (λ c. c ≡ command_kept (first_of q.items))) (sym asks) (ap command_kept (sym first.1)) in
    subst (λ (t : Session). IsController t q room) (sym (kept (first_of q.items) own))
    (keeps_begun (session_of old (first_of q.items)) s q room first.0 first.2 (ap (λ (o : Option Command). is_some o) asks) session is)

-- no command begins, and the session goes on
module _ (old k : KeptSession) (s : Session) (q : Strings) (asks : on_its_way s.state ≡ on_its_way (state_in old.at (first_of q.items))) (kept : IsKept k s) where
  pub session_ticked : session_of k (first_of q.items) ≡ s
  session_ticked = kept (first_of q.items) (still_its_own old.at (first_of q.items) s.state (follows_same (state_in old.at (first_of q.items)) s.state asks))

  pub keeps_ticking : (room : Room) → IsSession s → IsController (session_of old (first_of q.items)) q room → IsController (session_of k (first_of q.items)) q room
  keeps_ticking room session is =
      subst (λ (t : Session). IsController t q room) (sym session_ticked)
      (keeps_session (session_of old (first_of q.items)) s q room (ap (λ (o : Option Command). is_some o) asks) session is)

  pub machine_ticked : (room : Room) → let first = session_of old (first_of q.items) in next_in first.state (is_poll_next first) q.items ≡ None → s ≡ (ticks_in first.state first []).session
      → machine_of (session_of k (first_of q.items)) q room ≡ after_act (machine_of first q room)
  machine_ticked room none is =
      let first = session_of old (first_of q.items) in
      let w = map command_kept (waiting_in first.state q.items) in
      ap (λ (t : Session). machine_of t q room) session_ticked
      ∙ ap (λ (o : Option Command). record { session = s; waiting = map command_kept (if is_some o then drop 1 q.items else q.items); capacity = room.messages; room = room.bytes }) asks
      ∙ ap (λ (t : Session). record { session = t; waiting = w; capacity = room.messages; room = room.bytes }) is
      ∙ sym (ap (λ (t : Ticked). record { session = t.session; waiting = t.waiting; capacity = room.messages; room = room.bytes }) (ticks_leave first.state first q.items none))

-- a COMSET by its code
comset_begins : (c : Command) → begins 0x6E (command_code c ∷ command_data c) ≡ is_comset c
comset_begins Poll = refl
comset_begins _ = refl

comset_is : (ss : List (List ℕ)) → All IsCommand ss → has_first 0x6E ss ≡ has_comset (map command_kept ss)
comset_is [] commands = refl
comset_is (s ∷ ss) commands =
    let head = All-head IsCommand s ss commands in
    let first : begins 0x6E s ≡ is_comset (command_kept s) = ap (begins 0x6E) head.spelled ∙ comset_begins (command_kept s) in
    rw (first, comset_is ss (All-tail IsCommand s ss commands)) refl

-- among those that wait
pub comsets_after : (state : State) (items : List (List ℕ)) → is_some (on_its_way state) ≡ true → All IsCommand items
    → has_first 0x6E (drop 1 items) ≡ has_comset (map command_kept (waiting_in state items))
comsets_after state items asks commands = rw asks (comset_is (drop 1 items) (All-drop IsCommand 1 items commands))

pub comsets_of_all : (state : State) (items : List (List ℕ)) → is_some (on_its_way state) ≡ false → All IsCommand items
    → has_first 0x6E items ≡ has_comset (map command_kept (waiting_in state items))
comsets_of_all state items none commands = rw none (comset_is items commands)
