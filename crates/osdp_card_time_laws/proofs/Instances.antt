-- The bound of a card is reached.
use Rattle.osdp_card_time_laws.proofs.Common.{◌≡◌, ◌∙◌, ap, sym, subst, ℕ, ◌≤◌, ◌||◌, Bool, true, false, max, List, [], ◌∷◌, Option, Some, None, refl, arith, Command, Event, Entry, BusState, has_report, holder, is_entry_due, Call, OnBytes, Tick, after_call, Begins, KeepsTime, HasFew, OutstandingTakes, TurnsTake, Calls, Serves, asked_at, taken}
use Rattle.std.specs.List.{list_any}
use Rattle.osdp_frame.specs.Items.{items, left_over}
use Rattle.osdp_frame.specs.Held.{decided}
use Rattle.osdp_msg.specs.ReplyTable.{reply_at, reply_fault, reply_of}
use Rattle.osdp_controller.specs.declared.report.Report.TheVariants as reports
use Rattle.osdp_time_laws.proofs.Duties.{until_of}
use Rattle.osdp_bus.specs.Deadlines.{acts}
use Rattle.osdp_bus_laws.proofs.Sound.{nobody}
use Rattle.osdp_bus_time_laws.specs.Instances.{ack_bytes}
use Rattle.osdp_bus_time_laws.proofs.Acting.{device_in, either_acts, free_due, no_other, owed_from, reached_of}
use Rattle.osdp_bus_time_laws.proofs.Instances.{short_config}
use Rattle.osdp_card_time_laws.specs.Instances.{CardIsReached, card, card_bytes, card_steps, polled, with_card}

abbrev answered : BusState
answered = after_call (OnBytes (ack_bytes 128 229) 10) polled

abbrev polled_again : BusState
polled_again = after_call (Tick 16) answered

abbrev told : BusState
told = after_call (OnBytes card_bytes 17) polled_again

abbrev all_calls : List Call
all_calls = OnBytes (ack_bytes 128 229) 10 ∷ Tick 16 ∷ OnBytes card_bytes 17 ∷ []

-- ---- duties

either_false : (x : Bool) → (x || false) ≡ true → x ≡ true
either_false true h = refl
either_false false h = cc

-- an idle line of one entry acts once the moment is reached for which its controller waits
rests_until : (b : BusState) (d : Entry) (at : ℕ) → b.held ≡ [] → has_report b ≡ false → holder b ≡ None → b.devices.entries ≡ d ∷ []
    → d.controller.waiting ≡ [] → d.controller.session.greatest ≤ b.greatest → acts at b ≡ true → until_of d.controller.session.state ≤ max b.greatest at
rests_until b d at none untold free entries rests seen so =
    reached_of at b d (λ idle. rests) seen
    (either_false (is_entry_due (max b.greatest at) d)
    (sym (ap (list_any (is_entry_due (max b.greatest at))) entries) ∙ free_due b none untold at so free))

-- ---- the devices, after each call

abbrev first : Entry
first = device_in polled.devices.entries 0

abbrev second : Entry
second = device_in answered.devices.entries 0

abbrev third : Entry
third = device_in polled_again.devices.entries 0

in_time : KeepsTime 1 all_calls polled
unfolding items left_over decided reply_of reply_fault reply_at
in_time = (
  λ at owed.
      let due : 12 ≤ at = owed_from (OnBytes (ack_bytes 128 229) 10) polled 0 at first refl refl refl refl refl (omega arith) owed in
      let before : at ≤ 10 = owed.not_after in
      absurd (omega arith),
  (
    λ at owed.
        let so = either_acts (has_report answered) (acts at answered) refl owed.due in
        let reached : 15 ≤ max 10 at = rests_until answered second at refl refl refl refl refl (omega arith) so in
        (omega arith, no_other),
    (
      λ at owed.
          let due : 19 ≤ at = owed_from (OnBytes card_bytes 17) polled_again 0 at third refl refl refl refl refl (omega arith) owed in
          let before : at ≤ 17 = owed.not_after in
          absurd (omega arith),
      tt,
    ),
  ),
)

-- ---- turns

no_tick : (bytes : List ℕ) (now k : ℕ) (b : BusState) → Begins (OnBytes bytes now) k b → ⊥
no_tick bytes now k b begun = let is = begun.tick in cc

turns : TurnsTake (λ entry. 1) all_calls polled
unfolding items left_over decided reply_of reply_fault reply_at
turns = (
  λ k begun. absurd (no_tick (ack_bytes 128 229) 10 k polled begun),
  (λ k begun j out. (omega arith, λ none. tt), (λ k begun. absurd (no_tick card_bytes 17 k polled_again begun), tt)),
)

outstanding : OutstandingTakes (λ entry. 1) all_calls polled
unfolding items left_over decided reply_of reply_fault reply_at
outstanding = λ k out j holds. (omega arith, λ none i still. absurd (nobody answered refl i still.device still.there still.outstanding))

few : HasFew 1 all_calls polled
unfolding items left_over decided reply_of reply_fault reply_at
few = (omega arith, (omega arith, (omega arith, omega arith)))

-- ---- the reader beside it

told_card : told.devices.report ≡ Some (0, reports.Event card)
unfolding items left_over decided reply_of reply_fault reply_at
told_card = refl

asks_none : asked_at 0 polled_again ≡ None
unfolding items left_over decided reply_of reply_fault reply_at
asks_none = refl

one_event : (event : Event) → Some card ≡ Some event → card ≡ event
one_event event same = cc

not_offered : {A : Type 0} → false ≡ true → A
not_offered h = no_other (sym h)

serves_card : Serves 0 (taken None with_card) (Calls (OnBytes card_bytes 17) ∷ []) polled_again
serves_card = (
  λ event out offered front.
      (no_tick card_bytes 17 0 polled_again, λ ended. told_card ∙ ap (λ (e : Event). Some (0, reports.Event e)) (one_event event front)),
  λ also. tt,
  λ never. tt,
)

serves_still : Serves 0 with_card (Calls (OnBytes card_bytes 17) ∷ []) polled_again
serves_still = (λ event out offered front. not_offered offered, λ also. tt, λ never. tt)

serves : Serves 0 with_card card_steps polled
serves = (
  λ event out offered front. not_offered offered,
  λ begun. absurd (no_tick (ack_bytes 128 229) 10 0 polled begun),
  λ not. (
    λ event out offered front. not_offered offered,
    λ begun. subst (λ (o : Option Command). Serves 0 (taken o with_card) (Calls (OnBytes card_bytes 17) ∷ []) polled_again) (sym asks_none) serves_card,
    λ never. serves_still,
  ),
)

pub card_is_reached : CardIsReached
unfolding items left_over decided reply_of reply_fault reply_at
card_is_reached = record {
  config = short_config;
  queued = record {
    under_way = record { device = first; there = refl; under_way = refl };
    there = refl;
    not_offered = λ offered. no_other (sym offered);
  };
  serving = record {
    turns = record { in_time = in_time; turns = turns; outstanding = outstanding; few = few };
    serves = serves;
    counted = omega arith;
  };
  not_before = refl;
  reported = told_card;
  moment = refl;
}
