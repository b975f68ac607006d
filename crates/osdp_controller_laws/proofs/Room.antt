-- What each call leaves of the commands that wait, and of the room for them.
use Rattle.osdp_controller_laws.proofs.Common.{◌≡◌, ◌∙◌, ap, sym, subst, ◌≤◌, ◌<◌, ◌+◌, ◌-◌, ◌*◌, ◌&&◌, ltb, leb, ℕ, Bool, true, false, List, [], ◌∷◌, ◌++◌, length, Option, Some, None, refl, arith, IfSome, if◌then◌else◌, All, drop, nat_le, nat_lt, le-leb, leb-false, leb-true, lt-leb, ltb-true, All-head, All-nil, All-push, All-tail, next_sequence, CommandFits, command_code, command_data, Command, Poll, command_laws, ControllerConfig, Opening, Polling, ControllerFault, Session, State, Closed, Quiet, Idle, Waiting, Pausing, Machine, after_begin, after_retarget, after_submit, begin_refusal, bytes_kept, bytes_on_its_way, bytes_waiting, changed_unless, command_size, has_room, new_machine, refused_unless_closed, retarget_refusal, submit_refusal, submitted_command, hears, seen, is_some, on_its_way, Ticked, begins, gives_up, sends_frame, stays, ticks_in, tries_again, either_way, asked_in, Call, Submit, Begin, Retarget, Withdraw, Tick, Hear, after_call, after_calls}
use Rattle.std.specs.Option.{option_map_or}
use Rattle.osdp_msg.specs.Limits.{most_data}
use Rattle.osdp_controller.proofs.OnItsWay.{hears_follows}
use Rattle.osdp_controller_laws.specs.Room.{HasRoom, RefusesForItsBytes, RefusesForItsPlace, StaysInRoom, SubmitsFitting, bytes_asked}
use Rattle.osdp_controller.proofs.Idling.{idle_way}

-- ---- what waits: what a command that has room and a front that leaves keep

accepted : (fault : ControllerFault) (b : Bool) → (if b then None else Some fault) ≡ None → b ≡ true
accepted fault true h = refl
accepted fault false h = cc

finds_room : (command : Command) (m : Machine) → submit_refusal command m ≡ None → has_room command m ≡ true
finds_room Poll m h = cc
finds_room command m h = accepted _ (has_room command m) h

-- a fact of the commands that wait, of how many may and of their bytes; and what is known of each command that is submitted
module _ (P : List Command → ℕ → ℕ → Type 0) (Fits : Command → Type 0) where
  record IsKeptByQueue : Type 0 where
    pub joins : (command : Command) (m : Machine) → Fits command → has_room command m ≡ true → P m.waiting m.capacity m.room
        → P (m.waiting ++ command ∷ []) m.capacity m.room
    pub leaves : (command : Command) (w : List Command) (capacity room : ℕ) → P (command ∷ w) capacity room → P w capacity room

  abbrev Holds : Machine → Type 0
  Holds m = P m.waiting m.capacity m.room

  unless_refused : (f : Option ControllerFault) (m n : Machine) → Holds m → (f ≡ None → Holds n) → Holds (changed_unless f m n)
  unless_refused None m n is changed = changed refl
  unless_refused (Some fault) m n is changed = is

  withdraw_holds : (b : Bool) (w : List Command) (capacity room : ℕ) → IsKeptByQueue → P w capacity room → P (if b then w else drop 1 w) capacity room
  withdraw_holds true w capacity room kept is = is
  withdraw_holds false [] capacity room kept is = is
  withdraw_holds false (command ∷ w) capacity room kept is = kept.leaves command w capacity room is

  tick_holds : (state : State) (s : Session) (w : List Command) (capacity room : ℕ) → IsKeptByQueue → P w capacity room
      → P (ticks_in state s w).waiting capacity room
  tick_holds Closed s w capacity room kept is = is
  tick_holds (Quiet until) s w capacity room kept is =
      either_way (λ (t : Ticked). P t.waiting capacity room) (nat_le until s.greatest) (begins Opening 0 s w) (stays s w) (λ b. is) (λ b. is)
  tick_holds (Idle due) s w capacity room kept is =
      idle_way (λ (t : Ticked). P t.waiting capacity room) due s w (λ b. is) (λ b. is)
      (λ command rest e. kept.leaves command rest capacity room (subst (λ (l : List Command). P l capacity room) e is))
  tick_holds (Waiting until sends o) s w capacity room kept is =
      either_way (λ (t : Ticked). P t.waiting capacity room) (nat_le until s.greatest) (tries_again sends o s w) (stays s w)
      (λ b. either_way (λ (t : Ticked). P t.waiting capacity room) (nat_lt sends s.config.sends) (sends_frame (sends + 1) o s w) (gives_up o s w)
      (λ c. is) (λ c. is))
      (λ b. is)
  tick_holds (Pausing until o) s w capacity room kept is =
      either_way (λ (t : Ticked). P t.waiting capacity room) (nat_le until s.greatest) (sends_frame 1 o s w) (stays s w) (λ b. is) (λ b. is)

  -- what a call submits
  abbrev SubmitsFor : Call → Type 0
  SubmitsFor (Submit command) = Fits command
  SubmitsFor _ = Unit {0}

  call_holds : (call : Call) (m : Machine) → IsKeptByQueue → SubmitsFor call → Holds m → Holds (after_call call m)
  call_holds (Submit command) m kept fits is =
      unless_refused (submit_refusal command m) m (after_submit command m) is
      (λ free. kept.joins command m fits (finds_room command m free) is)
  call_holds (Begin now) m kept fits is = unless_refused (begin_refusal m) m (after_begin now m) is (λ free. is)
  call_holds (Retarget address) m kept fits is = unless_refused (retarget_refusal address m) m (after_retarget address m) is (λ free. is)
  call_holds Withdraw m kept fits is = withdraw_holds (is_some (on_its_way m.session.state)) m.waiting m.capacity m.room kept is
  call_holds (Tick now) m kept fits is =
      tick_holds m.session.state (seen now m.session) m.waiting m.capacity m.room kept is
  call_holds (Hear p now) m kept fits is = is

-- ---- bytes within their room

bytes_append : (cs ds : List Command) → bytes_waiting (cs ++ ds) ≡ bytes_waiting cs + bytes_waiting ds
bytes_append [] ds = omega arith
bytes_append (c ∷ cs) ds = let rest = bytes_append cs ds in omega (arith, rest)

second_true : (a b : Bool) → (a && b) ≡ true → b ≡ true
second_true true b e = e
second_true false b e = cc

-- the bytes of the command on its way, where they count
abbrev counted : Bool → Option Command → ℕ
counted ample o = if ample then 0 else option_map_or command_size o 0

abbrev Within : Bool → Option Command → List Command → ℕ → Type 0
Within ample o w room = counted ample o + bytes_waiting w ≤ room

none_counts : (ample : Bool) (o : Option Command) → counted ample None ≤ counted ample o
none_counts true o = omega arith
none_counts false o = omega arith

settles : (ample : Bool) (o : Option Command) (w : List Command) (room : ℕ) → Within ample o w room → Within ample None w room
settles ample o w room is = let less = none_counts ample o in omega (arith, less, is)

begins_first : (ample : Bool) (c : Command) (w : List Command) (room : ℕ) → Within ample None (c ∷ w) room → Within ample (Some c) w room
begins_first true c w room is = omega (arith, is)
begins_first false c w room is = omega (arith, is)

leaves_first : (ample stays : Bool) (o : Option Command) (w : List Command) (room : ℕ) → Within ample o w room → Within ample o (if stays then w else drop 1 w) room
leaves_first ample true o w room is = is
leaves_first ample false o [] room is = is
leaves_first ample false o (c ∷ w) room is = omega (arith, is)

follows_within : (ample : Bool) (o p : Option Command) (w : List Command) (room : ℕ) → IfSome o (λ c. p ≡ Some c) → Within ample p w room → Within ample o w room
follows_within ample None p w room follows is = settles ample p w room is
follows_within ample (Some c) p w room follows is = subst (λ (x : Option Command). Within ample x w room) follows is

abbrev TickedWithin : Bool → ℕ → Ticked → Type 0
TickedWithin ample room t = Within ample (on_its_way t.session.state) t.waiting room

tick_within : (ample : Bool) (state : State) (s : Session) (w : List Command) (room : ℕ) → on_its_way s.state ≡ on_its_way state → Within ample (on_its_way state) w room
    → TickedWithin ample room (ticks_in state s w)
tick_within ample Closed s w room same is = subst (λ (o : Option Command). Within ample o w room) (sym same) is
tick_within ample (Quiet until) s w room same is =
    either_way (TickedWithin ample room) (nat_le until s.greatest) (begins Opening 0 s w) (stays s w) (λ b. is)
    (λ b. subst (λ (o : Option Command). Within ample o w room) (sym same) is)
tick_within ample (Idle due) s w room same is =
    idle_way (TickedWithin ample room) due s w (λ b. is) (λ b. subst (λ (o : Option Command). Within ample o w room) (sym same) is)
    (λ command rest e. begins_first ample command rest room (subst (λ (l : List Command). Within ample None l room) e is))
tick_within ample (Waiting until sends o) s w room same is =
    either_way (TickedWithin ample room) (nat_le until s.greatest) (tries_again sends o s w) (stays s w)
    (λ b. either_way (TickedWithin ample room) (nat_lt sends s.config.sends) (sends_frame (sends + 1) o s w) (gives_up o s w)
    (λ c. is) (λ c. settles ample (submitted_command o.exchange) w room is))
    (λ b. subst (λ (x : Option Command). Within ample x w room) (sym same) is)
tick_within ample (Pausing until o) s w room same is =
    either_way (TickedWithin ample room) (nat_le until s.greatest) (sends_frame 1 o s w) (stays s w) (λ b. is)
    (λ b. subst (λ (x : Option Command). Within ample x w room) (sym same) is)

abbrev Keeps : Machine → Type 0
Keeps m = bytes_kept m ≤ m.room

either_keeps : (f : Option ControllerFault) (m n : Machine) → Keeps m → (f ≡ None → Keeps n) → Keeps (changed_unless f m n)
either_keeps None m n is changed = changed refl
either_keeps (Some fault) m n is changed = is

begin_keeps : (now : ℕ) (state : State) (m : Machine) → m.session.state ≡ state → Keeps m → Keeps (changed_unless (refused_unless_closed state) m (after_begin now m))
begin_keeps now Closed m same is =
    subst (λ (x : State). counted (nat_le (m.capacity * (1 + most_data)) m.room) (on_its_way x) + bytes_waiting m.waiting ≤ m.room) same is
begin_keeps now (Quiet until) m same is = is
begin_keeps now (Idle due) m same is = is
begin_keeps now (Waiting until sends o) m same is = is
begin_keeps now (Pausing until o) m same is = is

call_keeps : (call : Call) (m : Machine) → Keeps m → Keeps (after_call call m)
call_keeps (Submit command) m is =
    either_keeps (submit_refusal command m) m (after_submit command m) is
    (λ free.
    let fits = second_true (nat_lt (length m.waiting) m.capacity) (nat_le (command_size command) (m.room - bytes_kept m)) (finds_room command m free) in
    let bytes = leb-true (command_size command) (m.room - bytes_kept m) fits in
    let sum = bytes_append m.waiting (command ∷ []) in
    omega (arith, bytes, sum, is))
call_keeps (Begin now) m is = begin_keeps now m.session.state m refl is
call_keeps (Retarget address) m is = either_keeps (retarget_refusal address m) m (after_retarget address m) is (λ free. is)
call_keeps Withdraw m is =
    leaves_first (nat_le (m.capacity * (1 + most_data)) m.room) (is_some (on_its_way m.session.state)) (on_its_way m.session.state) m.waiting m.room is
call_keeps (Tick now) m is =
    tick_within (nat_le (m.capacity * (1 + most_data)) m.room) m.session.state (seen now m.session) m.waiting m.room refl is
call_keeps (Hear p now) m is =
    follows_within (nat_le (m.capacity * (1 + most_data)) m.room) (on_its_way (hears p now m.session).session.state) (on_its_way m.session.state) m.waiting m.room
    (hears_follows p now m.session) is

calls_keep : (calls : List Call) (m : Machine) → Keeps m → Keeps (after_calls calls m)
calls_keep [] m is = is
calls_keep (call ∷ calls) m is = calls_keep calls (after_call call m) (call_keeps call m is)

new_keeps : (config : ControllerConfig) (capacity room : ℕ) → Keeps (new_machine config capacity room)
new_keeps config capacity room = by_test (nat_le (capacity * (1 + most_data)) room)
  where
    by_test : (ample : Bool) → Within ample None [] room
    by_test true = omega arith
    by_test false = omega arith

asked_same : (state : State) → on_its_way state ≡ asked_in state
asked_same Closed = refl
asked_same (Quiet until) = refl
asked_same (Idle due) = refl
asked_same (Waiting until sends o) = refl
asked_same (Pausing until o) = refl

kept_of_room : (m : Machine) → HasRoom m → Keeps m
kept_of_room m is = by_test (nat_le (m.capacity * (1 + most_data)) m.room) refl
  where
    by_test : (t : Bool) → nat_le (m.capacity * (1 + most_data)) m.room ≡ t → Keeps m
    by_test true ample =
        let counts = ap (λ (t : Bool). counted t (on_its_way m.session.state)) ample in
        let waiting = is.waiting in
        omega (arith, counts, waiting)
    by_test false few =
        let counts = ap (λ (t : Bool). counted t (on_its_way m.session.state)) few in
        let asked = ap (λ (o : Option Command). option_map_or command_size o 0) (asked_same m.session.state) in
        let together = is.together (leb-false (m.capacity * (1 + most_data)) m.room few) in
        omega (arith, counts, asked, together)

room_of_kept : (m : Machine) → Keeps m → HasRoom m
room_of_kept m is = record {
  waiting = omega (arith, is);
  together = λ less.
      let few = lt-leb (m.capacity * (1 + most_data)) m.room less in
      let counts = ap (λ (t : Bool). counted t (on_its_way m.session.state)) few in
      let asked = ap (λ (o : Option Command). option_map_or command_size o 0) (asked_same m.session.state) in
      omega (arith, is, counts, asked);
}

pub stays_in_room : StaysInRoom
stays_in_room = record {
  new = λ config capacity room. room_of_kept (new_machine config capacity room) (new_keeps config capacity room);
  later = λ m calls is. room_of_kept (after_calls calls m) (calls_keep calls m (kept_of_room m is));
}

-- ---- a place alone

command_is_short : (c : Command) → CommandFits c → command_size c ≤ 1 + most_data
command_is_short c fits =
    let short = (command_laws.fits (command_code c) (command_data c) c (record { code_is = refl; data_is = refl; fits = fits })).1 in
    omega (arith, short)

commands_are_short : (cs : List Command) → All CommandFits cs → bytes_waiting cs ≤ length cs * (1 + most_data)
commands_are_short [] fit = omega arith
commands_are_short (c ∷ cs) fit =
    let first = command_is_short c (All-head CommandFits c cs fit) in
    let rest = commands_are_short cs (All-tail CommandFits c cs fit) in
    omega (arith, first, rest)

place_alone : (n size places room more : ℕ) → size ≤ n * (1 + most_data) → places * (1 + most_data) ≤ room → more ≤ 1 + most_data
    → (ltb n places && leb more (room - size)) ≡ ltb n places
place_alone n size places room more held ample short = by_test (ltb n places) refl
  where
    by_test : (b : Bool) → ltb n places ≡ b → (b && leb more (room - size)) ≡ b
    by_test true is = let place = ltb-true n places is in le-leb more (room - size) (omega (arith, place, held, ample, short))
    by_test false is = refl

-- the command that is on its way has room beside them
not_counted : (m : Machine) → m.capacity * (1 + most_data) ≤ m.room → bytes_on_its_way m ≡ 0
not_counted m ample =
    ap (λ (t : Bool). if t then 0 else option_map_or command_size (on_its_way m.session.state) 0) (le-leb (m.capacity * (1 + most_data)) m.room ample)

-- the commands that wait have their fields in their ranges, and as many may wait, with as many bytes, as a controller was made for
abbrev AreAmple : ℕ → ℕ → List Command → ℕ → ℕ → Type 0
AreAmple places bytes w capacity room = All CommandFits w × (capacity ≡ places) × (room ≡ bytes)

ample_kept : (places bytes : ℕ) → IsKeptByQueue (AreAmple places bytes) CommandFits
ample_kept places bytes = record {
  joins = λ command m fits free is. (All-push CommandFits m.waiting command is.0 fits, is.1, is.2);
  leaves = λ command w capacity room is. (All-tail CommandFits command w is.0, is.1, is.2);
}

first_fits : (places bytes : ℕ) (call : Call) (calls : List Call) → SubmitsFitting (call ∷ calls)
    → SubmitsFor (AreAmple places bytes) CommandFits call × SubmitsFitting calls
first_fits places bytes (Submit command) calls fit = fit
first_fits places bytes _ calls fit = (tt, fit)

ample_stays : (places bytes : ℕ) (m : Machine) (calls : List Call) → SubmitsFitting calls → AreAmple places bytes m.waiting m.capacity m.room
    → let n = after_calls calls m in AreAmple places bytes n.waiting n.capacity n.room
ample_stays places bytes m [] fit is = is
ample_stays places bytes m (call ∷ calls) fit is =
    let fits = first_fits places bytes call calls fit in
    ample_stays places bytes (after_call call m) calls fits.1
    (call_holds (AreAmple places bytes) CommandFits call m (ample_kept places bytes) fits.0 is)

pub refuses_for_its_place : RefusesForItsPlace
refuses_for_its_place config capacity room calls command ample fit fits =
    let m = after_calls calls (new_machine config capacity room) in
    let is = ample_stays capacity room (new_machine config capacity room) calls fit (All-nil CommandFits, refl, refl) in
    let short = commands_are_short m.waiting is.0 in
    let all : m.capacity * (1 + most_data) ≤ m.room = omega (arith, ample, is.1, is.2) in
    ap (λ (n : ℕ). nat_lt (length m.waiting) m.capacity && nat_le (command_size command) (m.room - (n + bytes_waiting m.waiting))) (not_counted m all)
    ∙ place_alone (length m.waiting) (0 + bytes_waiting m.waiting) m.capacity m.room (command_size command) (omega (arith, short)) all (command_is_short command fits)
    ∙ ap (λ (places : ℕ). nat_lt (length m.waiting) places) is.1

-- ---- little room

counted_so : (m : Machine) → m.room < m.capacity * (1 + most_data) → bytes_on_its_way m ≡ bytes_asked m.session.state
counted_so m less =
    ap (λ (t : Bool). if t then 0 else option_map_or command_size (on_its_way m.session.state) 0) (lt-leb (m.capacity * (1 + most_data)) m.room less)
    ∙ ap (λ (o : Option Command). option_map_or command_size o 0) (asked_same m.session.state)

pub refuses_for_its_bytes : (m : Machine) (command : Command) → RefusesForItsBytes m command
refuses_for_its_bytes m command = record {
  size = omega arith;
  little = λ less. ap (λ (n : ℕ). nat_lt (length m.waiting) m.capacity && nat_le (command_size command) (m.room - (n + bytes_waiting m.waiting))) (counted_so m less);
}
