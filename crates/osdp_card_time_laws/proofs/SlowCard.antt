-- The bound of a card among orders is reached where a POLL stands between any two of them.
use Rattle.osdp_card_time_laws.proofs.Common.{◌≡◌, ◌∙◌, ap, sym, subst, ℕ, ◌≤◌, ◌||◌, Bool, true, false, max, List, [], ◌∷◌, Option, Some, None, refl, arith, Command, Entry, BusState, has_report, holder, is_entry_due, Call, OnBytes, Submit, Tick, after_call, Begins, stands_after, HasFew, OutstandingTakes, TurnsTake}
use Rattle.osdp_bus_laws.specs.Calls.{NextReport}
use Rattle.osdp_bus_laws.proofs.Sound.{nobody}
use Rattle.std.specs.List.{list_any}
use Rattle.osdp_frame.specs.Items.{items, left_over}
use Rattle.osdp_frame.specs.Held.{decided}
use Rattle.osdp_msg.specs.CommandTable.{command_at, command_fault, command_of}
use Rattle.osdp_msg.specs.ReplyTable.{reply_at, reply_fault, reply_of}
use Rattle.osdp_msg.specs.declared.command.Command.TheVariants.{Id}
use Rattle.osdp_msg.specs.declared.event.Event.{Event}
use Rattle.osdp_controller.specs.declared.report.Report.TheVariants as reports
use Rattle.osdp_time_laws.proofs.Duties.{until_of}
use Rattle.osdp_bus.specs.Deadlines.{acts}
use Rattle.osdp_bus_laws.specs.Exchanges.{IsOutstandingAt}
use Rattle.osdp_bus_time_laws.specs.Clock.{KeepsTime}
use Rattle.osdp_bus_time_laws.specs.Instances.{ack_bytes}
use Rattle.osdp_bus_time_laws.proofs.Acting.{device_in, either_acts, free_due, no_other, owed_from, reached_of}
use Rattle.osdp_bus_order_laws.proofs.SlowOrder.{between_config, polls_until as next_until}
use Rattle.osdp_controller.specs.Sessions.{is_poll_next}
use Rattle.osdp_controller.specs.States.{is_idle}
use Rattle.osdp_card_time_laws.specs.Beside.{Calls, Serves, asked_at, calls_of, taken}
use Rattle.osdp_card_time_laws.specs.Instances.{card, with_card}
use Rattle.osdp_card_time_laws.specs.SlowCard.{CardBetweenIsReached, between_steps, card_answer, order_answer, polled_between}

-- the bus after each call
abbrev b0 : BusState
b0 = polled_between

abbrev b1 : BusState
b1 = after_call (OnBytes (ack_bytes 128 229) 10) b0

abbrev b2 : BusState
b2 = after_call (OnBytes [] 15) b1

abbrev b3 : BusState
b3 = after_call (Submit 0 (Id 0)) b2

abbrev b4 : BusState
b4 = after_call (Tick 16) b3

abbrev b5 : BusState
b5 = after_call (Submit 0 (Id 0)) b4

abbrev b6 : BusState
b6 = after_call (OnBytes order_answer 17) b5

abbrev b7 : BusState
b7 = after_call NextReport b6

abbrev b8 : BusState
b8 = after_call (Tick 18) b7

abbrev b9 : BusState
b9 = after_call (Tick 23) b8

abbrev b10 : BusState
b10 = after_call (OnBytes card_answer 24) b9

abbrev device : BusState → Entry
device b = device_in b.devices.entries 0

-- ---- duties

either_false : (x : Bool) → (x || false) ≡ true → x ≡ true
either_false true h = refl
either_false false h = cc

-- an idle line of one entry acts once the moment is reached for which its controller waits
rests_until : (b : BusState) (d : Entry) (at : ℕ) → b.held ≡ [] → has_report b ≡ false → holder b ≡ None → b.devices.entries ≡ d ∷ []
    → d.controller.waiting ≡ [] → d.controller.session.greatest ≤ b.greatest → acts at b ≡ true → until_of d.controller.session.state ≤ max b.greatest at
rests_until b d at none untold free entries rests seen so =
    reached_of at b d (λ idle. rests) seen
    (either_false (is_entry_due (max b.greatest at) d)
    (sym (ap (list_any (is_entry_due (max b.greatest at))) entries) ∙ free_due b none untold at so free))

abbrev From : List Call → BusState → Type 0
From calls b = KeepsTime 1 calls b

-- .. or for which a POLL that has to come first
polls_until : (b : BusState) (d : Entry) (at : ℕ) → b.held ≡ [] → has_report b ≡ false → holder b ≡ None → b.devices.entries ≡ d ∷ []
    → is_idle d.controller.session.state ≡ true → is_poll_next d.controller.session ≡ true → d.controller.session.greatest ≤ b.greatest → acts at b ≡ true
    → until_of d.controller.session.state ≤ max b.greatest at
polls_until b d at none untold free entries idle poll_next seen so =
    next_until at (until_of d.controller.session.state) b d idle poll_next seen refl
    (either_false (is_entry_due (max b.greatest at) d)
    (sym (ap (list_any (is_entry_due (max b.greatest at))) entries) ∙ free_due b none untold at so free))

time_9 : From (OnBytes card_answer 24 ∷ []) b9
unfolding items left_over decided reply_of reply_fault reply_at command_of command_fault command_at
time_9 = (
  λ at owed.
      let due : 26 ≤ at = owed_from (OnBytes card_answer 24) b9 0 at (device b9) refl refl refl refl refl (omega arith) owed in
      let before : at ≤ 24 = owed.not_after in
      absurd (omega arith),
  tt,
)

time_8 : From (Tick 23 ∷ OnBytes card_answer 24 ∷ []) b8
unfolding items left_over decided reply_of reply_fault reply_at command_of command_fault command_at
time_8 = (
  λ at owed.
      let so = either_acts (has_report b8) (acts at b8) refl owed.due in
      let reached : 22 ≤ max 18 at = polls_until b8 (device b8) at refl refl refl refl refl refl (omega arith) so in
      (omega arith, no_other),
  time_9,
)

time_7 : From (Tick 18 ∷ Tick 23 ∷ OnBytes card_answer 24 ∷ []) b7
unfolding items left_over decided reply_of reply_fault reply_at command_of command_fault command_at
time_7 = (λ at owed. let on : 17 ≤ at = owed.not_before in (omega arith, no_other), time_8)

time_6 : From (NextReport ∷ Tick 18 ∷ Tick 23 ∷ OnBytes card_answer 24 ∷ []) b6
unfolding items left_over decided reply_of reply_fault reply_at command_of command_fault command_at
time_6 = (λ at owed. let on : 17 ≤ at = owed.not_before in (tt, λ still. (omega arith, no_other)), time_7)

time_5 : From (OnBytes order_answer 17 ∷ NextReport ∷ Tick 18 ∷ Tick 23 ∷ OnBytes card_answer 24 ∷ []) b5
unfolding items left_over decided reply_of reply_fault reply_at command_of command_fault command_at
time_5 = (
  λ at owed.
      let due : 19 ≤ at = owed_from (OnBytes order_answer 17) b5 0 at (device b5) refl refl refl refl refl (omega arith) owed in
      let before : at ≤ 17 = owed.not_after in
      absurd (omega arith),
  time_6,
)

time_4 : From (Submit 0 (Id 0) ∷ OnBytes order_answer 17 ∷ NextReport ∷ Tick 18 ∷ Tick 23 ∷ OnBytes card_answer 24 ∷ []) b4
unfolding items left_over decided reply_of reply_fault reply_at command_of command_fault command_at
time_4 = (
  λ at owed.
      let due : 19 ≤ at = owed_from (Submit 0 (Id 0)) b4 0 at (device b4) refl refl refl refl refl (omega arith) owed in
      let before : at ≤ 16 = owed.not_after in
      absurd (omega arith),
  time_5,
)

time_2 : From (Submit 0 (Id 0) ∷ Tick 16 ∷ Submit 0 (Id 0) ∷ OnBytes order_answer 17 ∷ NextReport ∷ Tick 18 ∷ Tick 23 ∷ OnBytes card_answer 24 ∷ []) b2
unfolding items left_over decided reply_of reply_fault reply_at command_of command_fault command_at
time_2 = (
  λ at owed. let on : 15 ≤ at = owed.not_before in (tt, λ still. (omega arith, no_other)),
  (λ at owed. let on : 15 ≤ at = owed.not_before in (omega arith, no_other), time_4),
)

in_time : From (calls_of between_steps) b0
unfolding items left_over decided reply_of reply_fault reply_at command_of command_fault command_at
in_time = (
  λ at owed.
      let due : 12 ≤ at = owed_from (OnBytes (ack_bytes 128 229) 10) b0 0 at (device b0) refl refl refl refl refl (omega arith) owed in
      let before : at ≤ 10 = owed.not_after in
      absurd (omega arith),
  (
    λ at owed.
        let so = either_acts (has_report b1) (acts at b1) refl owed.due in
        let reached : 15 ≤ max 10 at = rests_until b1 (device b1) at refl refl refl refl refl (omega arith) so in
        (omega arith, λ still. (tt, λ again. (omega arith, no_other))),
    time_2,
  ),
)

-- ---- turns

no_bytes : (bytes : List ℕ) (now k : ℕ) (b : BusState) → Begins (OnBytes bytes now) k b → ⊥
no_bytes bytes now k b begun = let is = begun.tick in cc

no_order : (at : ℕ) (c : Command) (k : ℕ) (b : BusState) → Begins (Submit at c) k b → ⊥
no_order at c k b begun = let is = begun.tick in cc

no_report : (k : ℕ) (b : BusState) → Begins NextReport k b → ⊥
no_report k b begun = let is = begun.tick in cc

free_at : (b : BusState) → holder b ≡ None → (k : ℕ) → IsOutstandingAt k b → ⊥
free_at b free k out = nobody b free k out.device out.there out.outstanding

turns : TurnsTake (λ entry. 1) (calls_of between_steps) b0
unfolding items left_over decided reply_of reply_fault reply_at command_of command_fault command_at
turns = (
  λ k begun. absurd (no_bytes (ack_bytes 128 229) 10 k b0 begun),
  (
    λ k begun. absurd (no_bytes [] 15 k b1 begun),
    (
      λ k begun. absurd (no_order 0 (Id 0) k b2 begun),
      (
        λ k begun j out. (omega arith, λ none i still. (omega arith, λ again l too. absurd (free_at b6 refl l too))),
        (
          λ k begun. absurd (no_order 0 (Id 0) k b4 begun),
          (
            λ k begun. absurd (no_bytes order_answer 17 k b5 begun),
            (
              λ k begun. absurd (no_report k b6 begun),
              (
                λ k begun j out. absurd (free_at b8 refl j out),
                (λ k begun j out. (omega arith, λ none. tt), (λ k begun. absurd (no_bytes card_answer 24 k b9 begun), tt)),
              ),
            ),
          ),
        ),
      ),
    ),
  ),
)

outstanding : OutstandingTakes (λ entry. 1) (calls_of between_steps) b0
unfolding items left_over decided reply_of reply_fault reply_at command_of command_fault command_at
outstanding = λ k out j holds. (omega arith, λ none i still. absurd (free_at b1 refl i still))

one : 1 ≤ 1
one = omega arith

few : HasFew 1 (calls_of between_steps) b0
unfolding items left_over decided reply_of reply_fault reply_at command_of command_fault command_at
few = (one, (one, (one, (one, (one, (one, (one, (one, (one, (one, one))))))))))

-- ---- the reader beside it

told_card : b10.devices.report ≡ Some (0, reports.Event card)
unfolding items left_over decided reply_of reply_fault reply_at command_of command_fault command_at
told_card = refl

asks_order : asked_at 0 b4 ≡ Some (Id 0)
unfolding items left_over decided reply_of reply_fault reply_at command_of command_fault command_at
asks_order = refl

asks_none : asked_at 0 b9 ≡ None
unfolding items left_over decided reply_of reply_fault reply_at command_of command_fault command_at
asks_none = refl

rests_then : (k : ℕ) → IsOutstandingAt k b8 → ⊥
unfolding items left_over decided reply_of reply_fault reply_at command_of command_fault command_at
rests_then k out = free_at b8 refl k out

one_event : (event : Event) → Some card ≡ Some event → card ≡ event
one_event event same = cc

not_offered : {A : Type 0} → false ≡ true → A
not_offered h = no_other (sym h)

serves_card : Serves 0 (taken None with_card) (Calls (OnBytes card_answer 24) ∷ []) b9
serves_card = (
  λ event out offered front.
      (no_bytes card_answer 24 0 b9, λ ended. told_card ∙ ap (λ (e : Event). Some (0, reports.Event e)) (one_event event front)),
  λ also. tt,
  λ never. tt,
)

serves_still : Serves 0 with_card (Calls (OnBytes card_answer 24) ∷ []) b9
serves_still = (λ event out offered front. not_offered offered, λ also. tt, λ never. tt)

serves_poll : Serves 0 with_card (Calls (Tick 23) ∷ Calls (OnBytes card_answer 24) ∷ []) b8
serves_poll = (
  λ event out offered front. not_offered offered,
  λ begun. subst (λ (o : Option Command). Serves 0 (taken o with_card) (Calls (OnBytes card_answer 24) ∷ []) b9) (sym asks_none) serves_card,
  λ never. serves_still,
)

serves_answered : Serves 0 with_card
    (Calls (Submit 0 (Id 0)) ∷ Calls (OnBytes order_answer 17) ∷ Calls NextReport ∷ Calls (Tick 18) ∷ Calls (Tick 23) ∷ Calls (OnBytes card_answer 24) ∷ []) b4
serves_answered = (
  λ event out offered front. not_offered offered,
  λ begun. absurd (no_order 0 (Id 0) 0 b4 begun),
  λ no. (
    λ event out offered front. not_offered offered,
    λ begun. absurd (no_bytes order_answer 17 0 b5 begun),
    λ not. (
      λ event out offered front. not_offered offered,
      λ begun. absurd (no_report 0 b6 begun),
      λ none. (
        λ event out offered front. not_offered offered,
        λ begun. absurd (rests_then 0 (stands_after (Tick 18) 0 b7 begun)),
        λ never. serves_poll,
      ),
    ),
  ),
)

serves : Serves 0 with_card between_steps b0
serves = (
  λ event out offered front. not_offered offered,
  λ begun. absurd (no_bytes (ack_bytes 128 229) 10 0 b0 begun),
  λ not. (
    λ event out offered front. not_offered offered,
    λ begun. absurd (no_bytes [] 15 0 b1 begun),
    λ none. (
      λ event out offered front. not_offered offered,
      λ begun. absurd (no_order 0 (Id 0) 0 b2 begun),
      λ no. (
        λ event out offered front. not_offered offered,
        λ begun.
            subst (λ (o : Option Command). Serves 0 (taken o with_card)
            (Calls (Submit 0 (Id 0)) ∷ Calls (OnBytes order_answer 17) ∷ Calls NextReport ∷ Calls (Tick 18) ∷ Calls (Tick 23) ∷ Calls (OnBytes card_answer 24) ∷ []) b4)
            (sym asks_order) serves_answered,
        λ never. serves_answered,
      ),
    ),
  ),
)

pub card_between_is_reached : CardBetweenIsReached
unfolding items left_over decided reply_of reply_fault reply_at command_of command_fault command_at
card_between_is_reached = record {
  config = between_config;
  queued = record {
    under_way = record { device = device b0; there = refl; under_way = refl };
    there = refl;
    not_offered = λ offered. no_other (sym offered);
  };
  serving = record {
    setting = refl;
    turns = record { in_time = in_time; turns = turns; outstanding = outstanding; few = few };
    serves = serves;
  };
  not_before = refl;
  reported = refl;
  moment = refl;
}
