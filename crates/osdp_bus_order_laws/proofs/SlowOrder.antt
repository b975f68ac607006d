-- The bound of an order is reached where a POLL stands between any two, by a line of two entries.
use Rattle.osdp_bus_order_laws.proofs.Common.{◌≡◌, ◌∙◌, ap, sym, subst, ℕ, ◌+◌, ◌*◌, ◌≤◌, ◌<◌, ◌||◌, Bool, true, false, max, List, [], ◌∷◌, length, Some, None, refl, arith, Command, Id, State, Closed, Idle, is_idle, Entry, BusState, device_of, has_report, holder, new_bus, new_device, holds, is_entry_due, DoneBy, IsOwed, KeepsTime, exchange_of, HasFew, after_calls, IsAccepted, IsBusConfig, goes_out, waiting_orders}
use Rattle.std.specs.List.{list_any}
use Rattle.osdp_frame.specs.Items.{items, left_over}
use Rattle.osdp_frame.specs.Held.{decided}
use Rattle.osdp_msg.specs.CommandTable.{command_at, command_fault, command_of}
use Rattle.osdp_msg.specs.ReplyTable.{reply_at, reply_fault, reply_of}
use Rattle.osdp_time_laws.proofs.Duties.{until_of}
use Rattle.osdp_bus.specs.Deadlines.{acts}
use Rattle.osdp_bus.specs.Remembering.{Remembered}
use Rattle.osdp_bus_laws.specs.Calls.{Begin, Call, NextReport, OnBytes, Submit, Tick, after_call}
use Rattle.osdp_bus_time_laws.specs.Instances.{ack_bytes, pd_id_bytes}
use Rattle.osdp_bus_time_laws.proofs.Acting.{device_in, either_acts, free_due, owed_from, reached_of}
use Rattle.osdp_controller.proofs.Idling.{poll_way, polls_first}
use Rattle.osdp_controller.specs.Machine.{acts as acts_of}
use Rattle.osdp_controller.specs.Sessions.{is_poll_next, seen as seen_session}
use Rattle.osdp_controller.specs.Ticking.{Ticked, ticks_in}
use Rattle.osdp_controller.specs.declared.session.Session.{Session}
use Rattle.std.proofs.lemmas.Bool.{leb-true}
use Rattle.osdp_bus_order_laws.specs.Instances.{OrderIsReached, before_it, between_line, first_gone, ordered, second_ack, with_it}

-- ---- the calls

abbrev from_last : List Call
from_last = Tick 21 ∷ []

abbrev from_other : List Call
from_other = OnBytes (ack_bytes 129 228) 21 ∷ NextReport ∷ from_last

abbrev from_poll : List Call
from_poll = OnBytes second_ack 18 ∷ Tick 18 ∷ from_other

abbrev from_opening : List Call
from_opening = OnBytes (pd_id_bytes 129 167) 15 ∷ NextReport ∷ Tick 15 ∷ Submit 1 (Id 0) ∷ from_poll

abbrev from_first : List Call
from_first = OnBytes (ack_bytes 128 229) 7 ∷ NextReport ∷ Tick 7 ∷ Begin 1 8 ∷ Tick 12 ∷ from_opening

-- ---- duties of any bus

same_moment : (n : ℕ) → n ≤ n
same_moment n = omega arith

-- an entry that holds the line is due only once the moment of its wait is reached
held_until : (call : Call) (b : BusState) (entry at until g : ℕ) (d : Entry) → b.held ≡ [] → has_report b ≡ false → holder b ≡ Some entry → device_of entry b ≡ Some d
    → holds d ≡ true → d.controller.session.greatest ≡ g → b.greatest ≡ g → until_of d.controller.session.state ≡ until → IsOwed at call b → until ≤ at
held_until call b entry at until g d none untold held there stands seen now is owed =
    let due = owed_from call b entry at d none untold held there stands (omega (arith, seen, now)) owed in omega (arith, due, is)

-- and one of two that hold no line
free_until : (call : Call) (b : BusState) (at until g : ℕ) (d e : Entry) → b.held ≡ [] → has_report b ≡ false → holder b ≡ None → b.devices.entries ≡ d ∷ e ∷ []
    → b.greatest ≡ g → g < until
    → (is_entry_due (max b.greatest at) d ≡ true → until ≤ max b.greatest at) → (is_entry_due (max b.greatest at) e ≡ true → until ≤ max b.greatest at)
    → IsOwed at call b → until ≤ at
free_until call b at until g d e none untold free are now later first other owed =
    by_due (is_entry_due (max b.greatest at) d) (is_entry_due (max b.greatest at) e) refl refl
    (sym (ap (λ l. list_any (is_entry_due (max b.greatest at)) l) are)
    ∙ free_due b none untold at (either_acts (has_report b) (acts at b) untold owed.due) free)
  where
    by_due : (x y : Bool) → is_entry_due (max b.greatest at) d ≡ x → is_entry_due (max b.greatest at) e ≡ y
        → (is_entry_due (max b.greatest at) d || (is_entry_due (max b.greatest at) e || false)) ≡ true → until ≤ at
    by_due true y due other_due so = let reached : until ≤ max b.greatest at = first due in omega (arith, reached, now, later)
    by_due false true due other_due so = let reached : until ≤ max b.greatest at = other other_due in omega (arith, reached, now, later)
    by_due false false due other_due so = absurd cc

-- a controller with no command that waits
waits_until : (at until : ℕ) (b : BusState) (d : Entry) → (is_idle d.controller.session.state ≡ true → d.controller.waiting ≡ [])
    → d.controller.session.greatest ≤ b.greatest → until_of d.controller.session.state ≡ until → is_entry_due (max b.greatest at) d ≡ true → until ≤ max b.greatest at
waits_until at until b d rests seen is due = let reached = reached_of at b d rests seen due in omega (arith, reached, is)

-- .. and one that waits for a POLL to come first
polls_in : (state : State) (s : Session) (w : List Command) → is_idle state ≡ true → is_poll_next s ≡ true → acts_of (ticks_in state s w).step ≡ true
    → until_of state ≤ s.greatest
polls_in (Idle due) s w idle next so =
    poll_way (λ (t : Ticked). acts_of t.step ≡ true → due ≤ s.greatest) due s w (λ b h. leb-true due s.greatest b) (λ b h. cc)
    (subst (λ (t : Ticked). acts_of t.step ≡ true) (polls_first due s w next) so)
polls_in _ s w idle next so = absurd cc

pub polls_until : (at until : ℕ) (b : BusState) (d : Entry) → is_idle d.controller.session.state ≡ true → is_poll_next d.controller.session ≡ true
    → d.controller.session.greatest ≤ b.greatest → until_of d.controller.session.state ≡ until → is_entry_due (max b.greatest at) d ≡ true → until ≤ max b.greatest at
polls_until at until b d idle next seen is due =
    let reached : until_of d.controller.session.state ≤ max d.controller.session.greatest (max b.greatest at) =
    polls_in d.controller.session.state (seen_session (max b.greatest at) d.controller.session) d.controller.waiting idle next due in
    omega (arith, reached, is, seen)

less : (g h k l : ℕ) → g ≡ k → h ≡ l → k ≤ l → g ≤ h
less g h k l is are near = omega arith

-- what ends a duty in time
done_tick : (limit now : ℕ) (calls : List Call) (b : BusState) → has_report b ≡ false → now ≤ limit → DoneBy limit (Tick now ∷ calls) b
done_tick limit now calls b untold near = (near, λ other. absurd cc)

done_bytes : (limit now : ℕ) (bytes : List ℕ) (calls : List Call) (b : BusState) → now ≤ limit → DoneBy limit calls (after_call (OnBytes bytes now) b)
    → DoneBy limit (OnBytes bytes now ∷ calls) b
done_bytes limit now bytes calls b near rest = (near, λ other. rest)

done_next : (limit : ℕ) (calls : List Call) (b : BusState) → DoneBy limit calls (after_call NextReport b) → DoneBy limit (NextReport ∷ calls) b
done_next limit calls b rest = (tt, λ other. rest)

done_submit : (limit entry : ℕ) (c : Command) (calls : List Call) (b : BusState) → DoneBy limit calls (after_call (Submit entry c) b)
    → DoneBy limit (Submit entry c ∷ calls) b
done_submit limit entry c calls b rest = (tt, λ other. rest)

done_begin : (limit entry now : ℕ) (calls : List Call) (b : BusState) → now ≤ limit → DoneBy limit calls (after_call (Begin entry now) b)
    → DoneBy limit (Begin entry now ∷ calls) b
done_begin limit entry now calls b near rest = (near, λ other. rest)

-- a moment that has been seen
seen_by : (call : Call) (b : BusState) (at now : ℕ) → b.greatest ≡ now → IsOwed at call b → now ≤ at + 0
seen_by call b at now is owed = let before : b.greatest ≤ at = owed.not_before in omega (arith, before, is)

more : (now at : ℕ) → now ≤ at → now ≤ at + 0
more now at near = omega arith

earlier : (now until at : ℕ) → now ≤ until → until ≤ at → now ≤ at + 0
earlier now until at near due = omega arith

two : (b : BusState) → length b.devices.entries ≡ 2 → length b.devices.entries ≤ 2
two b is = omega (arith, is)

-- ---- a bus of the two, as it is where no exchange is outstanding and no report waits, whatever it remembers

abbrev of_address : ℕ → State → ℕ → Bool → ℕ → List Command → Entry
of_address address state number order greatest waiting = record (new_device address between_line) {
  controller = record (new_device address between_line).controller {
    session = record (new_device address between_line).controller.session { state = state; number = number; asked = order; greatest = greatest };
    waiting = waiting;
  };
}

abbrev rests_at : ℕ → ℕ → Entry → Entry → List Remembered → BusState
rests_at now first d e remembered = record (new_bus between_line) {
  devices = record { entries = d ∷ e ∷ []; report = None };
  last = now;
  greatest = now;
  first = first;
  remembered = remembered;
}

-- a bus with these
rests_so : (b : BusState) (now first : ℕ) (d e : Entry) → b.config ≡ between_line → b.devices ≡ record { entries = d ∷ e ∷ []; report = None } → b.held ≡ [] → b.last ≡ now
    → b.greatest ≡ now → b.first ≡ first → b ≡ rests_at now first d e b.remembered
rests_so b now first d e config devices held last greatest at =
    (λ i. record {
      config = config i;
      devices = devices i;
      held = held i;
      last = last i;
      greatest = greatest i;
      first = at i;
      remembered = b.remembered;
    })

-- ---- from the answer to the POLL on

abbrev as_answered : List Remembered → BusState
as_answered remembered = rests_at 18 1 (of_address 0 (Idle 23) 2 false 18 (Id 0 ∷ [])) (of_address 1 (Idle 20) 0 false 15 (Id 0 ∷ [])) remembered

module _ (remembered : List Remembered) where
  abbrev other_asked : BusState
  other_asked = after_call (Tick 18) (as_answered remembered)

  abbrev other_answered : BusState
  other_answered = after_call (OnBytes (ack_bytes 129 228) 21) other_asked

  abbrev last_taken : BusState
  last_taken = after_call NextReport other_answered

  after_last : KeepsTime 0 from_last last_taken
  unfolding items left_over decided command_of command_fault command_at reply_of reply_fault reply_at
  after_last = (λ at owed. done_tick (at + 0) 21 [] last_taken refl (seen_by (Tick 21) last_taken at 21 refl owed), tt)

  after_other : KeepsTime 0 (NextReport ∷ from_last) other_answered
  unfolding items left_over decided command_of command_fault command_at reply_of reply_fault reply_at
  after_other = (
    λ at owed. done_next (at + 0) from_last other_answered (done_tick (at + 0) 21 [] last_taken refl (seen_by NextReport other_answered at 21 refl owed)),
    after_last,
  )

  other_until : (at : ℕ) → IsOwed at (OnBytes (ack_bytes 129 228) 21) other_asked → 21 ≤ at
  unfolding items left_over decided command_of command_fault command_at reply_of reply_fault reply_at
  other_until at owed =
      held_until (OnBytes (ack_bytes 129 228) 21) other_asked 1 at 21 18 (device_in other_asked.devices.entries 1) refl refl refl refl refl refl refl refl owed

  after_asked : KeepsTime 0 from_other other_asked
  unfolding items left_over decided command_of command_fault command_at reply_of reply_fault reply_at
  after_asked = (
    λ at owed.
        let due = more 21 at (other_until at owed) in
        done_bytes (at + 0) 21 (ack_bytes 129 228) (NextReport ∷ from_last) other_asked due
        (done_next (at + 0) from_last other_answered (done_tick (at + 0) 21 [] last_taken refl due)),
    after_other,
  )

  after_poll : KeepsTime 0 (Tick 18 ∷ from_other) (as_answered remembered)
  unfolding items left_over decided command_of command_fault command_at reply_of reply_fault reply_at
  after_poll = (
    λ at owed. done_tick (at + 0) 18 from_other (as_answered remembered) refl (seen_by (Tick 18) (as_answered remembered) at 18 refl owed),
    after_asked,
  )

  few_answered : HasFew 2 (Tick 18 ∷ from_other) (as_answered remembered)
  unfolding items left_over decided command_of command_fault command_at reply_of reply_fault reply_at
  few_answered = (
    two (as_answered remembered) refl,
    (two other_asked refl, (two other_answered refl, (two last_taken refl, two (after_call (Tick 21) last_taken) refl))),
  )

never : (d : Entry) (now until : ℕ) → is_entry_due now d ≡ false → is_entry_due now d ≡ true → until ≤ now
never d now until none due = absurd cc

-- ---- from the moment on at which the order before it has been answered

abbrev as_rested : List Remembered → BusState
as_rested remembered = rests_at 7 1 (of_address 0 (Idle 12) 1 true 7 (Id 0 ∷ [])) (of_address 1 Closed 0 false 0 []) remembered

module _ (remembered : List Remembered) where
  abbrev rested : BusState
  rested = as_rested remembered

  abbrev begun : BusState
  begun = after_call (Begin 1 8) rested

  abbrev opens : BusState
  opens = after_call (Tick 12) begun

  abbrev opened : BusState
  opened = after_call (OnBytes (pd_id_bytes 129 167) 15) opens

  abbrev opening_taken : BusState
  opening_taken = after_call NextReport opened

  abbrev polled : BusState
  polled = after_call (Tick 15) opening_taken

  abbrev other_ordered : BusState
  other_ordered = after_call (Submit 1 (Id 0)) polled

  abbrev poll_answered : BusState
  poll_answered = after_call (OnBytes second_ack 18) other_ordered

  poll_is : poll_answered ≡ as_answered poll_answered.remembered
  unfolding items left_over decided command_of command_fault command_at reply_of reply_fault reply_at
  poll_is = rests_so poll_answered 18 1 (of_address 0 (Idle 23) 2 false 18 (Id 0 ∷ [])) (of_address 1 (Idle 20) 0 false 15 (Id 0 ∷ [])) refl refl refl refl refl refl

  after_answered : KeepsTime 0 (Tick 18 ∷ from_other) poll_answered
  after_answered = subst (KeepsTime 0 (Tick 18 ∷ from_other)) (sym poll_is) (after_poll poll_answered.remembered)

  few_last : HasFew 2 (Tick 18 ∷ from_other) poll_answered
  few_last = subst (HasFew 2 (Tick 18 ∷ from_other)) (sym poll_is) (few_answered poll_answered.remembered)

  -- from the POLL of the first, while it waits for its answer

  poll_done : (at : ℕ) → 18 ≤ at → DoneBy (at + 0) from_poll other_ordered
  unfolding items left_over decided command_of command_fault command_at reply_of reply_fault reply_at
  poll_done at due =
      let near = more 18 at due in
      done_bytes (at + 0) 18 second_ack (Tick 18 ∷ from_other) other_ordered near (done_tick (at + 0) 18 from_other poll_answered refl near)

  other_done : (at : ℕ) → 18 ≤ at → DoneBy (at + 0) (Submit 1 (Id 0) ∷ from_poll) polled
  other_done at due = done_submit (at + 0) 1 (Id 0) from_poll polled (poll_done at due)

  polled_until : (at : ℕ) → IsOwed at (Submit 1 (Id 0)) polled → 18 ≤ at
  unfolding items left_over decided command_of command_fault command_at reply_of reply_fault reply_at
  polled_until at owed = held_until (Submit 1 (Id 0)) polled 0 at 18 15 (device_in polled.devices.entries 0) refl refl refl refl refl refl refl refl owed

  ordered_until : (at : ℕ) → IsOwed at (OnBytes second_ack 18) other_ordered → 18 ≤ at
  unfolding items left_over decided command_of command_fault command_at reply_of reply_fault reply_at
  ordered_until at owed =
      held_until (OnBytes second_ack 18) other_ordered 0 at 18 15 (device_in other_ordered.devices.entries 0) refl refl refl refl refl refl refl refl owed

  after_polled : KeepsTime 0 (Submit 1 (Id 0) ∷ from_poll) polled
  after_polled = (λ at owed. other_done at (polled_until at owed), (λ at owed. poll_done at (ordered_until at owed), after_answered))

  -- from the opening of the other

  after_opening_taken : KeepsTime 0 (Tick 15 ∷ Submit 1 (Id 0) ∷ from_poll) opening_taken
  unfolding items left_over decided command_of command_fault command_at reply_of reply_fault reply_at
  after_opening_taken = (
    λ at owed. done_tick (at + 0) 15 (Submit 1 (Id 0) ∷ from_poll) opening_taken refl (seen_by (Tick 15) opening_taken at 15 refl owed),
    after_polled,
  )

  taken_done : (at : ℕ) → 15 ≤ at + 0 → DoneBy (at + 0) (NextReport ∷ Tick 15 ∷ Submit 1 (Id 0) ∷ from_poll) opened
  unfolding items left_over decided command_of command_fault command_at reply_of reply_fault reply_at
  taken_done at due =
      done_next (at + 0) (Tick 15 ∷ Submit 1 (Id 0) ∷ from_poll) opened
      (done_tick (at + 0) 15 (Submit 1 (Id 0) ∷ from_poll) opening_taken refl due)

  after_opened : KeepsTime 0 (NextReport ∷ Tick 15 ∷ Submit 1 (Id 0) ∷ from_poll) opened
  unfolding items left_over decided command_of command_fault command_at reply_of reply_fault reply_at
  after_opened = (λ at owed. taken_done at (seen_by NextReport opened at 15 refl owed), after_opening_taken)

  opens_until : (at : ℕ) → IsOwed at (OnBytes (pd_id_bytes 129 167) 15) opens → 15 ≤ at
  unfolding items left_over decided command_of command_fault command_at reply_of reply_fault reply_at
  opens_until at owed =
      held_until (OnBytes (pd_id_bytes 129 167) 15) opens 1 at 15 12 (device_in opens.devices.entries 1) refl refl refl refl refl refl refl refl owed

  after_opens : KeepsTime 0 from_opening opens
  after_opens = (
    λ at owed.
        let due = more 15 at (opens_until at owed) in
        done_bytes (at + 0) 15 (pd_id_bytes 129 167) (NextReport ∷ Tick 15 ∷ Submit 1 (Id 0) ∷ from_poll) opens due (taken_done at due),
    after_opened,
  )

  -- while nobody holds the line: the first is due at 12, and so is the other once its session has begun

  rested_until : (at : ℕ) → IsOwed at (Begin 1 8) rested → 12 ≤ at
  unfolding items left_over decided command_of command_fault command_at reply_of reply_fault reply_at
  rested_until at owed =
      let d = device_in rested.devices.entries 0 in
      let e = device_in rested.devices.entries 1 in
      free_until (Begin 1 8) rested at 12 7 d e refl refl refl refl refl (omega arith)
      (polls_until at 12 rested d refl refl (less d.controller.session.greatest rested.greatest 7 7 refl refl (same_moment 7)) refl)
      (never e (max rested.greatest at) 12 refl) owed

  begun_until : (at : ℕ) → IsOwed at (Tick 12) begun → 12 ≤ at
  unfolding items left_over decided command_of command_fault command_at reply_of reply_fault reply_at
  begun_until at owed =
      let d = device_in begun.devices.entries 0 in
      let e = device_in begun.devices.entries 1 in
      free_until (Tick 12) begun at 12 8 d e refl refl refl refl refl (omega arith)
      (polls_until at 12 begun d refl refl (less d.controller.session.greatest begun.greatest 7 8 refl refl (omega arith)) refl)
      (waits_until at 12 begun e (λ idle. refl) (less e.controller.session.greatest begun.greatest 8 8 refl refl (same_moment 8)) refl) owed

  after_begun : KeepsTime 0 (Tick 12 ∷ from_opening) begun
  unfolding items left_over decided command_of command_fault command_at reply_of reply_fault reply_at
  after_begun = (λ at owed. done_tick (at + 0) 12 from_opening begun refl (more 12 at (begun_until at owed)), after_opens)

  after_rested : KeepsTime 0 (Begin 1 8 ∷ Tick 12 ∷ from_opening) rested
  unfolding items left_over decided command_of command_fault command_at reply_of reply_fault reply_at
  after_rested = (
    λ at owed.
        let due = rested_until at owed in
        done_begin (at + 0) 1 8 (Tick 12 ∷ from_opening) rested (earlier 8 12 at (omega arith) due) (done_tick (at + 0) 12 from_opening begun refl (more 12 at due)),
    after_begun,
  )

  few_poll : HasFew 2 (Submit 1 (Id 0) ∷ from_poll) polled
  unfolding items left_over decided command_of command_fault command_at reply_of reply_fault reply_at
  few_poll = (two polled refl, (two other_ordered refl, few_last))

  few_opening : HasFew 2 from_opening opens
  unfolding items left_over decided command_of command_fault command_at reply_of reply_fault reply_at
  few_opening = (two opens refl, (two opened refl, (two opening_taken refl, few_poll)))

  few_rested : HasFew 2 (Begin 1 8 ∷ Tick 12 ∷ from_opening) rested
  unfolding items left_over decided command_of command_fault command_at reply_of reply_fault reply_at
  few_rested = (two rested refl, (two begun refl, few_opening))

-- ---- from the order on that went before it

abbrev answered : BusState
answered = after_call (OnBytes (ack_bytes 128 229) 7) ordered

abbrev taken : BusState
taken = after_call NextReport answered

abbrev rested_then : BusState
rested_then = after_call (Tick 7) taken

rested_is : rested_then ≡ as_rested rested_then.remembered
unfolding items left_over decided command_of command_fault command_at reply_of reply_fault reply_at
rested_is = rests_so rested_then 7 1 (of_address 0 (Idle 12) 1 true 7 (Id 0 ∷ [])) (of_address 1 Closed 0 false 0 []) refl refl refl refl refl refl

after_rest : KeepsTime 0 (Begin 1 8 ∷ Tick 12 ∷ from_opening) rested_then
after_rest = subst (KeepsTime 0 (Begin 1 8 ∷ Tick 12 ∷ from_opening)) (sym rested_is) (after_rested rested_then.remembered)

few_rest : HasFew 2 (Begin 1 8 ∷ Tick 12 ∷ from_opening) rested_then
few_rest = subst (HasFew 2 (Begin 1 8 ∷ Tick 12 ∷ from_opening)) (sym rested_is) (few_rested rested_then.remembered)

after_taken : KeepsTime 0 (Tick 7 ∷ Begin 1 8 ∷ Tick 12 ∷ from_opening) taken
unfolding items left_over decided command_of command_fault command_at reply_of reply_fault reply_at
after_taken = (λ at owed. done_tick (at + 0) 7 (Begin 1 8 ∷ Tick 12 ∷ from_opening) taken refl (seen_by (Tick 7) taken at 7 refl owed), after_rest)

answer_done : (at : ℕ) → 7 ≤ at + 0 → DoneBy (at + 0) (NextReport ∷ Tick 7 ∷ Begin 1 8 ∷ Tick 12 ∷ from_opening) answered
unfolding items left_over decided command_of command_fault command_at reply_of reply_fault reply_at
answer_done at due =
    done_next (at + 0) (Tick 7 ∷ Begin 1 8 ∷ Tick 12 ∷ from_opening) answered (done_tick (at + 0) 7 (Begin 1 8 ∷ Tick 12 ∷ from_opening) taken refl due)

after_answer : KeepsTime 0 (NextReport ∷ Tick 7 ∷ Begin 1 8 ∷ Tick 12 ∷ from_opening) answered
unfolding items left_over decided command_of command_fault command_at reply_of reply_fault reply_at
after_answer = (λ at owed. answer_done at (seen_by NextReport answered at 7 refl owed), after_taken)

first_until : (at : ℕ) → IsOwed at (OnBytes (ack_bytes 128 229) 7) ordered → 7 ≤ at
unfolding items left_over decided command_of command_fault command_at reply_of reply_fault reply_at
first_until at owed =
    held_until (OnBytes (ack_bytes 128 229) 7) ordered 0 at 7 4 (device_in ordered.devices.entries 0) refl refl refl refl refl refl refl refl owed

after_first : KeepsTime 0 from_first ordered
after_first = (
  λ at owed.
      let due = more 7 at (first_until at owed) in
      done_bytes (at + 0) 7 (ack_bytes 128 229) (NextReport ∷ Tick 7 ∷ Begin 1 8 ∷ Tick 12 ∷ from_opening) ordered due (answer_done at due),
  after_answer,
)

-- ---- the whole

few_first : HasFew 2 from_first ordered
unfolding items left_over decided command_of command_fault command_at reply_of reply_fault reply_at
few_first = (two ordered refl, (two answered refl, (two taken refl, few_rest)))

accepted : IsAccepted 0 0 (Id 0) first_gone
unfolding items left_over decided command_of command_fault command_at reply_of reply_fault reply_at
accepted = record {
  under_way = record { device = device_in first_gone.devices.entries 0; there = refl; under_way = refl };
  accepted = refl;
  place = refl;
}

waits_still : waiting_orders 0 (after_calls before_it ordered) ≡ Id 0 ∷ []
unfolding items left_over decided command_of command_fault command_at reply_of reply_fault reply_at
waits_still = refl

goes_then : goes_out 0 (Tick 21) (after_calls before_it ordered) ≡ Some (Id 0)
unfolding items left_over decided command_of command_fault command_at reply_of reply_fault reply_at
goes_then = refl

moment_is : (after_calls with_it ordered).greatest ≡ 21
unfolding items left_over decided command_of command_fault command_at reply_of reply_fault reply_at
moment_is = refl

limit_is : first_gone.greatest + (0 + 1) * (between_line.poll_interval + 2 * (2 * (exchange_of first_gone 0 + 0))) ≡ 21
unfolding items left_over decided command_of command_fault command_at reply_of reply_fault reply_at
limit_is = refl

pub between_config : IsBusConfig between_line
between_config = record {
  controllers = record {
    config_in_range = record {
      address = omega arith;
      reply_wait = (omega arith, omega arith);
      poll_interval = (omega arith, omega arith);
      busy_wait = (omega arith, omega arith);
      quiet_wait = (omega arith, omega arith);
      sends = (omega arith, omega arith);
      busy_limit = omega arith;
    };
    room = omega arith;
    limit = omega arith;
    bytes = (omega arith, omega arith);
  };
  gap = (omega arith, omega arith);
}

pub order_is_reached : OrderIsReached
order_is_reached = record {
  config = between_config;
  accepted = accepted;
  in_time = after_first;
  few = few_first;
  not_before = waits_still;
  goes_out = goes_then;
  moment = moment_is ∙ sym limit_is;
}
