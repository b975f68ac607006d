-- The figures of a plan are reached.
use Rattle.osdp_plan_laws.proofs.Common.{[], ◌∷◌, ◌≡◌, ◌∙◌, ap, sym, subst, refl, ℕ, ◌+◌, ◌-◌, ◌≤◌, Bool, true, false, List, arith, BusState, after_calls, always_well}
use Rattle.std.proofs.Common.{◌||◌, Option, Some, None, inl, inr, max}
use Rattle.std.specs.Prelude.{◌⊎◌, All}
use Rattle.std.specs.List.{list_any}
use Rattle.std.proofs.lemmas.List.Elements.{All-cons, All-nil}
use Rattle.osdp_frame.specs.declared.check_kind.CheckKind.TheVariants.{Sum}
use Rattle.osdp_frame.specs.Packet.{Packet}
use Rattle.osdp_frame.specs.Held.{decided}
use Rattle.osdp_frame.specs.Items.{items, left_over}
use Rattle.osdp_msg.specs.CommandTable.{command_at, command_fault, command_of}
use Rattle.osdp_msg.specs.ReplyTable.{reply_at, reply_fault, reply_of}
use Rattle.osdp_msg.specs.declared.command.Command.{Command}
use Rattle.osdp_msg.specs.declared.command.Command.TheVariants.{Id}
use Rattle.osdp_msg.specs.declared.event.Event.{Event}
use Rattle.osdp_controller.specs.declared.report.LostCause.TheVariants.{NoReply}
use Rattle.osdp_controller.specs.declared.report.Report.TheVariants as reports
use Rattle.osdp_time_laws.proofs.Duties.{until_of}
use Rattle.osdp_bus.specs.declared.entry.Entry.{Entry}
use Rattle.osdp_bus.specs.Buses.{device_of, has_report, holder}
use Rattle.osdp_bus.specs.Deadlines.{acts}
use Rattle.osdp_bus.specs.Entries.{address_of, is_entry_due}
use Rattle.osdp_bus_laws.specs.Calls.{Add, Begin, Call, NextReport, OnBytes, OnSilence, Retarget, Submit, Tick, Withdraw, after_call}
use Rattle.osdp_bus_laws.specs.Fairness.{Begins}
use Rattle.osdp_bus_laws.proofs.Moments.{moments_are_seen}
use Rattle.osdp_bus_time_laws.specs.Clock.{KeepsTime}
use Rattle.osdp_bus_laws.proofs.Sound.{nobody}
use Rattle.osdp_bus_laws.specs.Exchanges.{IsOutstandingAt}
use Rattle.osdp_bus_order_laws.specs.Instances.{between_line, first_gone, ordered, with_it}
use Rattle.osdp_bus_order_laws.proofs.SlowOrder.{between_config, order_is_reached}
use Rattle.osdp_bus_time_laws.specs.Instances.{ack_bytes, pd_id_bytes}
use Rattle.osdp_bus_time_laws.specs.Reading.{IsOfAnother, NothingIsRead, read_in}
use Rattle.osdp_bus_time_laws.specs.Turns.{HasFew, OutstandingTakes, TurnsTake, others_of}
use Rattle.osdp_time_laws.specs.Lines.{turns_time}
use Rattle.osdp_bus_time_laws.proofs.Acting.{device_in, free_due, no_other, owed_from, reached_of}
use Rattle.osdp_bus_time_laws.proofs.Outstanding.{exchanges_end}
use Rattle.osdp_card_time_laws.specs.Beside.{Calls, Serves, asked_at, taken}
use Rattle.osdp_card_time_laws.specs.Instances.{card, with_card}
use Rattle.osdp_card_time_laws.specs.SlowCard.{card_answer, order_answer, polled_between}
use Rattle.osdp_card_time_laws.proofs.Common.{stands_after}
use Rattle.osdp_card_time_laws.proofs.SlowCard.{card_between_is_reached}
use Rattle.osdp_reader.specs.Queue.{Queue, queued}
use Rattle.osdp_plan.specs.declared.bounds.Others.{Others}
use Rattle.osdp_plan.specs.declared.bounds.Others.TheVariants.{Answer, OneSilent, Hostile}
use Rattle.osdp_plan.specs.Figures.{exchanges, lost_wait, order_wait}
use Rattle.osdp_plan.specs.Plans.{IsPlan}
use Rattle.osdp_plan_laws.specs.Instances.{CardComesBeforeAnother, OrderFigureIsReached, SilenceFigureIsReached, at_last, both_idle, card_steps, later, short_plan, silent_calls}

is_plan : IsPlan short_plan
is_plan = record {
  readers = (omega arith, omega arith);
  rate = (omega arith, omega arith);
  longest = (omega arith, omega arith);
  answer = omega arith;
  hold = omega arith;
  late = omega arith;
  orders = omega arith;
  reply_wait = (omega arith, omega arith);
  poll_interval = (omega arith, omega arith);
  sends = (omega arith, omega arith);
  busy_wait = (omega arith, omega arith);
  busy_limit = omega arith;
  quiet_wait = (omega arith, omega arith);
}

-- ---- an order

order_moment : (others : Others) → (after_calls with_it ordered).greatest ≡ first_gone.greatest + order_wait others short_plan
unfolding items left_over decided command_of command_fault command_at reply_of reply_fault reply_at
order_moment Answer = order_is_reached.moment
order_moment OneSilent = order_is_reached.moment
order_moment Hostile = order_is_reached.moment

pub order_figure_is_reached : OrderFigureIsReached
unfolding items left_over decided command_of command_fault command_at reply_of reply_fault reply_at
order_figure_is_reached = record {
  planned = record { plan = is_plan; config = refl };
  accepted = order_is_reached.accepted;
  in_time = order_is_reached.in_time;
  few = order_is_reached.few;
  not_before = order_is_reached.not_before;
  goes_out = order_is_reached.goes_out;
  moment = order_moment;
}

-- ---- the line of a reader that falls silent, after each call

abbrev first_asked : BusState
first_asked = after_call (Tick 9) both_idle

abbrev first_answered : BusState
first_answered = after_call (OnBytes (ack_bytes 128 229) 12) first_asked

abbrev unchanged : BusState
unchanged = after_calls (OnSilence 12 ∷ Begin 0 12 ∷ Retarget 0 9 ∷ Withdraw 0 ∷ []) first_answered

abbrev second_asked : BusState
second_asked = after_call (Tick 12) unchanged

abbrev second_lost : BusState
second_lost = after_call (Tick 15) second_asked

-- ---- each duty is done in time

same_moment : (n : ℕ) → n ≤ n
same_moment n = omega arith

bytes_seen : (bytes : List ℕ) (now at : ℕ) (b : BusState) → (after_call (OnBytes bytes now) b).greatest ≤ at → now ≤ at
bytes_seen bytes now at b reached = let is = (moments_are_seen b).brought (OnBytes bytes now) now refl in omega arith

either_due : (x y : Bool) → (x || (y || false)) ≡ true → (x ≡ true) ⊎ (y ≡ true)
either_due true y due = inl refl
either_due false true due = inr refl
either_due false false due = cc

-- an idle line of two entries whose POLLs are due at one moment
idle_until : (b : BusState) (d e : Entry) (at from : ℕ) → b.held ≡ [] → has_report b ≡ false → holder b ≡ None → b.devices.entries ≡ d ∷ e ∷ []
    → d.controller.waiting ≡ [] → e.controller.waiting ≡ [] → d.controller.session.greatest ≤ b.greatest → e.controller.session.greatest ≤ b.greatest
    → until_of d.controller.session.state ≡ from → until_of e.controller.session.state ≡ from → acts at b ≡ true → from ≤ max b.greatest at
idle_until b d e at from none untold free entries rests_d rests_e seen_d seen_e from_d from_e so =
    by_due
    (either_due (is_entry_due (max b.greatest at) d) (is_entry_due (max b.greatest at) e)
    (sym (ap (list_any (is_entry_due (max b.greatest at))) entries) ∙ free_due b none untold at so free))
  where
    by_due : (is_entry_due (max b.greatest at) d ≡ true) ⊎ (is_entry_due (max b.greatest at) e ≡ true) → from ≤ max b.greatest at
    by_due (inl due) = let reached = reached_of at b d (λ idle. rests_d) seen_d due in omega arith
    by_due (inr due) = let reached = reached_of at b e (λ idle. rests_e) seen_e due in omega arith

-- at or after twelve a tick of that moment is on time
abbrev last_calls : List Call
last_calls = Tick 12 ∷ Tick 15 ∷ NextReport ∷ []

told_in_time : KeepsTime 0 (NextReport ∷ []) second_lost
told_in_time = (λ at owed. (tt, λ other. tt), tt)

lost_in_time : KeepsTime 0 (Tick 15 ∷ NextReport ∷ []) second_asked
unfolding items left_over decided reply_of reply_fault reply_at
lost_in_time = (
  λ at owed.
      let due : 15 ≤ at = owed_from (Tick 15) second_asked 1 at (device_in second_asked.devices.entries 1) refl refl refl refl refl (same_moment 12) owed in
      (omega arith, no_other),
  told_in_time,
)

asked_in_time : KeepsTime 0 last_calls unchanged
unfolding items left_over decided reply_of reply_fault reply_at
asked_in_time = (
  λ at owed. let due : 12 ≤ at = bytes_seen (ack_bytes 128 229) 12 at first_asked owed.not_before in (omega arith, no_other),
  lost_in_time,
)

withdrawn_in_time : KeepsTime 0 (Withdraw 0 ∷ last_calls) (after_calls (OnSilence 12 ∷ Begin 0 12 ∷ Retarget 0 9 ∷ []) first_answered)
unfolding items left_over decided reply_of reply_fault reply_at
withdrawn_in_time = (
  λ at owed. let due : 12 ≤ at = bytes_seen (ack_bytes 128 229) 12 at first_asked owed.not_before in (tt, λ other. (omega arith, no_other)),
  asked_in_time,
)

retargeted_in_time : KeepsTime 0 (Retarget 0 9 ∷ Withdraw 0 ∷ last_calls) (after_calls (OnSilence 12 ∷ Begin 0 12 ∷ []) first_answered)
unfolding items left_over decided reply_of reply_fault reply_at
retargeted_in_time = (
  λ at owed. let due : 12 ≤ at = bytes_seen (ack_bytes 128 229) 12 at first_asked owed.not_before in (tt, λ other. (tt, λ also. (omega arith, no_other))),
  withdrawn_in_time,
)

begun_in_time : KeepsTime 0 (Begin 0 12 ∷ Retarget 0 9 ∷ Withdraw 0 ∷ last_calls) (after_call (OnSilence 12) first_answered)
unfolding items left_over decided reply_of reply_fault reply_at
begun_in_time = (
  λ at owed.
      let due : 12 ≤ at = bytes_seen (ack_bytes 128 229) 12 at first_asked owed.not_before in
      (omega arith, λ other. (tt, λ also. (tt, λ still. (omega arith, no_other)))),
  retargeted_in_time,
)

silent_in_time : KeepsTime 0 (OnSilence 12 ∷ Begin 0 12 ∷ Retarget 0 9 ∷ Withdraw 0 ∷ last_calls) first_answered
unfolding items left_over decided reply_of reply_fault reply_at
silent_in_time = (
  λ at owed.
      let due : 12 ≤ at = bytes_seen (ack_bytes 128 229) 12 at first_asked owed.not_before in
      (omega arith, λ other. (omega arith, λ also. (tt, λ still. (tt, λ yet. (omega arith, no_other))))),
  begun_in_time,
)

answered_in_time : KeepsTime 0 (OnBytes (ack_bytes 128 229) 12 ∷ OnSilence 12 ∷ Begin 0 12 ∷ Retarget 0 9 ∷ Withdraw 0 ∷ last_calls) first_asked
unfolding items left_over decided reply_of reply_fault reply_at
answered_in_time = (
  λ at owed.
      let due : 12 ≤ at =
      owed_from (OnBytes (ack_bytes 128 229) 12) first_asked 0 at (device_in first_asked.devices.entries 0) refl refl refl refl refl (same_moment 9) owed in
      (omega arith, λ one. (omega arith, λ other. (omega arith, λ also. (tt, λ still. (tt, λ yet. (omega arith, no_other)))))),
  silent_in_time,
)

in_time : KeepsTime 0 silent_calls both_idle
unfolding items left_over decided reply_of reply_fault reply_at
in_time = (
  λ at owed.
      let due : 9 ≤ max 4 at =
      idle_until both_idle (device_in both_idle.devices.entries 0) (device_in both_idle.devices.entries 1) at 9 refl refl refl refl refl refl (same_moment 4) (same_moment 4)
      refl refl owed.due in
      (omega arith, no_other),
  answered_in_time,
)

two : 2 ≤ 2
two = omega arith

few : HasFew 2 silent_calls both_idle
unfolding items left_over decided reply_of reply_fault reply_at
few = (two, (two, (two, (two, (two, (two, (two, (two, (two, two)))))))))

-- each exchange ends in the longest that the settings allow
turns : TurnsTake at_last silent_calls both_idle
unfolding items left_over decided reply_of reply_fault reply_at
turns =
    (exchanges_end both_idle
    (always_well between_line
    (Add 0 ∷ Add 1 ∷ Begin 0 0 ∷ Begin 1 0 ∷ Tick 4 ∷ OnBytes (pd_id_bytes 128 168) 4 ∷ NextReport ∷ Tick 4 ∷ OnBytes (pd_id_bytes 129 167) 4 ∷ NextReport ∷ [])
    between_config)).begun
    0 silent_calls in_time

outstanding : OutstandingTakes at_last silent_calls both_idle
unfolding items left_over decided reply_of reply_fault reply_at
outstanding =
    (exchanges_end both_idle
    (always_well between_line
    (Add 0 ∷ Add 1 ∷ Begin 0 0 ∷ Begin 1 0 ∷ Tick 4 ∷ OnBytes (pd_id_bytes 128 168) 4 ∷ NextReport ∷ Tick 4 ∷ OnBytes (pd_id_bytes 129 167) 4 ∷ NextReport ∷ [])
    between_config)).outstanding
    0 silent_calls in_time

-- ---- of the silent reader nothing is read

none_of : (d : Entry) → All (IsOfAnother (address_of d)) []
none_of d = All-nil (IsOfAnother (address_of d))

same_device : (d e : Entry) → Some d ≡ Some e → d ≡ e
same_device d e same = cc

-- what the first reader says
abbrev first_ack : Packet
first_ack = record { reply = true; address = 0; sequence = 1; check = Sum; block = false; reserved = 0; body = 64 ∷ [] }

other_reads : (d : Entry) → device_of 1 first_asked ≡ Some d → All (IsOfAnother (address_of d)) (read_in (OnBytes (ack_bytes 128 229) 12) first_asked)
unfolding items left_over decided reply_of reply_fault reply_at
other_reads d there =
    subst (λ (e : Entry). All (IsOfAnother (address_of e)) (read_in (OnBytes (ack_bytes 128 229) 12) first_asked))
    (same_device (device_in first_asked.devices.entries 1) d there) (All-cons (IsOfAnother 1) first_ack [] refl (All-nil (IsOfAnother 1)))

silent : NothingIsRead 1 silent_calls both_idle
unfolding items left_over decided reply_of reply_fault reply_at
silent = (
  λ d there. none_of d,
  (
    other_reads,
    (
      λ d there. none_of d,
      (λ d there. none_of d, (λ d there. none_of d, (λ d there. none_of d, (λ d there. none_of d, (λ d there. none_of d, (λ d there. none_of d, tt)))))),
    ),
  ),
)

told_moment : (others : Others) → (after_calls silent_calls both_idle).greatest ≡ both_idle.greatest + lost_wait others short_plan
unfolding items left_over decided reply_of reply_fault reply_at
told_moment Answer = refl
told_moment OneSilent = refl
told_moment Hostile = refl

others_turn : (others : Others)
    → others_of at_last short_plan.late short_plan.readers 1 ≡ turns_time short_plan.late (exchanges others (short_plan.readers - 1) short_plan)
others_turn Answer = refl
others_turn OneSilent = refl
others_turn Hostile = refl

pub silence_figure_is_reached : SilenceFigureIsReached
unfolding items left_over decided reply_of reply_fault reply_at
silence_figure_is_reached = record {
  planned = record { plan = is_plan; config = refl };
  turns = others_turn;
  idle = record { device = device_in both_idle.devices.entries 1; there = refl; idle = refl };
  keeps = record { in_time = in_time; turns = turns; outstanding = outstanding; few = few };
  silent = silent;
  lost = record { cause = NoReply; command = None; report = refl };
  moment = told_moment;
}

-- ---- a card before another one, among orders

abbrev b0 : BusState
b0 = polled_between

abbrev b1 : BusState
b1 = after_call (OnBytes (ack_bytes 128 229) 10) b0

abbrev b2 : BusState
b2 = after_call (OnBytes [] 15) b1

abbrev b3 : BusState
b3 = after_call (Submit 0 (Id 0)) b2

abbrev b4 : BusState
b4 = after_call (Tick 16) b3

abbrev b5 : BusState
b5 = after_call (Submit 0 (Id 0)) b4

abbrev b6 : BusState
b6 = after_call (OnBytes order_answer 17) b5

abbrev b7 : BusState
b7 = after_call NextReport b6

abbrev b8 : BusState
b8 = after_call (Tick 18) b7

abbrev b9 : BusState
b9 = after_call (Tick 23) b8

abbrev with_two : Queue
with_two = queued later with_card

no_bytes : (bytes : List ℕ) (now k : ℕ) (b : BusState) → Begins (OnBytes bytes now) k b → ⊥
no_bytes bytes now k b begun = let is = begun.tick in cc

no_order : (at : ℕ) (c : Command) (k : ℕ) (b : BusState) → Begins (Submit at c) k b → ⊥
no_order at c k b begun = let is = begun.tick in cc

no_report : (k : ℕ) (b : BusState) → Begins NextReport k b → ⊥
no_report k b begun = let is = begun.tick in cc

asks_order : asked_at 0 b4 ≡ Some (Id 0)
unfolding items left_over decided reply_of reply_fault reply_at command_of command_fault command_at
asks_order = refl

asks_none : asked_at 0 b9 ≡ None
unfolding items left_over decided reply_of reply_fault reply_at command_of command_fault command_at
asks_none = refl

rests_then : IsOutstandingAt 0 b8 → ⊥
unfolding items left_over decided reply_of reply_fault reply_at command_of command_fault command_at
rests_then out = nobody b8 refl 0 out.device out.there out.outstanding

one_event : (event : Event) → Some card ≡ Some event → card ≡ event
one_event event same = cc

not_offered : {A : Type 0} → false ≡ true → A
not_offered h = no_other (sym h)

serves_card : Serves 0 (taken None with_two) (Calls (OnBytes card_answer 24) ∷ []) b9
serves_card = (
  λ event out offered front.
      (no_bytes card_answer 24 0 b9, λ ended. card_between_is_reached.reported ∙ ap (λ (e : Event). Some (0, reports.Event e)) (one_event event front)),
  λ also. tt,
  λ never. tt,
)

serves_still : Serves 0 with_two (Calls (OnBytes card_answer 24) ∷ []) b9
serves_still = (λ event out offered front. not_offered offered, λ also. tt, λ never. tt)

serves_poll : Serves 0 with_two (Calls (Tick 23) ∷ Calls (OnBytes card_answer 24) ∷ []) b8
serves_poll = (
  λ event out offered front. not_offered offered,
  λ begun. subst (λ (o : Option Command). Serves 0 (taken o with_two) (Calls (OnBytes card_answer 24) ∷ []) b9) (sym asks_none) serves_card,
  λ never. serves_still,
)

serves_answered : Serves 0 with_two
    (Calls (Submit 0 (Id 0)) ∷ Calls (OnBytes order_answer 17) ∷ Calls NextReport ∷ Calls (Tick 18) ∷ Calls (Tick 23) ∷ Calls (OnBytes card_answer 24) ∷ []) b4
serves_answered = (
  λ event out offered front. not_offered offered,
  λ begun. absurd (no_order 0 (Id 0) 0 b4 begun),
  λ no. (
    λ event out offered front. not_offered offered,
    λ begun. absurd (no_bytes order_answer 17 0 b5 begun),
    λ not. (
      λ event out offered front. not_offered offered,
      λ begun. absurd (no_report 0 b6 begun),
      λ none. (
        λ event out offered front. not_offered offered,
        λ begun. absurd (rests_then (stands_after (Tick 18) 0 b7 begun)),
        λ never. serves_poll,
      ),
    ),
  ),
)

serves : Serves 0 with_card card_steps b0
serves = (
  λ event out offered front. not_offered offered,
  λ begun. absurd (no_bytes (ack_bytes 128 229) 10 0 b0 begun),
  λ not. (
    λ event out offered front. not_offered offered,
    λ begun. absurd (no_bytes [] 15 0 b1 begun),
    λ none. (
      λ event out offered front. not_offered offered,
      λ begun. absurd (no_order 0 (Id 0) 0 b2 begun),
      λ no. (
        λ event out offered front. not_offered offered,
        λ begun.
            subst (λ (o : Option Command). Serves 0 (taken o with_two)
            (Calls (Submit 0 (Id 0)) ∷ Calls (OnBytes order_answer 17) ∷ Calls NextReport ∷ Calls (Tick 18) ∷ Calls (Tick 23) ∷ Calls (OnBytes card_answer 24) ∷ []) b4)
            (sym asks_order) serves_answered,
        λ never. serves_answered,
      ),
    ),
  ),
)

pub card_before_another : CardComesBeforeAnother
card_before_another = record {
  config = between_config;
  queued = card_between_is_reached.queued;
  serving = record { setting = card_between_is_reached.serving.setting; turns = card_between_is_reached.serving.turns; serves = serves };
  reported = card_between_is_reached.reported;
}
