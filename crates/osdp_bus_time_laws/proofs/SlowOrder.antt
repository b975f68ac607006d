-- The bound of an order is reached, by a line of two entries.
use Rattle.osdp_bus_time_laws.proofs.Common.{ℕ, ◌≤◌, List, [], ◌∷◌, refl, arith, BusState, OnBytes, Tick, after_call, moments_are_seen, KeepsTime, OrderIsReached, ack_bytes, both_open, order_calls, ordered, HasFew}
use Rattle.osdp_frame.specs.Items.{items, left_over}
use Rattle.osdp_frame.specs.Held.{decided}
use Rattle.osdp_msg.specs.ReplyTable.{reply_at, reply_fault, reply_of}
use Rattle.osdp_bus_time_laws.proofs.Acting.{device_in, no_other, owed_from}
use Rattle.osdp_bus_time_laws.proofs.Instances.{short_config}

abbrev answered : BusState
answered = after_call (OnBytes (ack_bytes 128 229) 12) ordered

abbrev second_polled : BusState
second_polled = after_call (Tick 12) answered

abbrev second_answered : BusState
second_answered = after_call (OnBytes (ack_bytes 129 228) 15) second_polled

-- ---- each duty is done in time

same_moment : (n : ℕ) → n ≤ n
same_moment n = omega arith

bytes_seen : (bytes : List ℕ) (now at : ℕ) (b : BusState) → (after_call (OnBytes bytes now) b).greatest ≤ at → now ≤ at
bytes_seen bytes now at b reached = let is = (moments_are_seen b).brought (OnBytes bytes now) now refl in omega arith

after_second_answer : KeepsTime 0 (Tick 15 ∷ []) second_answered
unfolding items left_over decided reply_of reply_fault reply_at
after_second_answer = (
  λ at owed. let due : 15 ≤ at = bytes_seen (ack_bytes 129 228) 15 at second_polled owed.not_before in (omega arith, no_other),
  tt,
)

after_second_poll : KeepsTime 0 (OnBytes (ack_bytes 129 228) 15 ∷ Tick 15 ∷ []) second_polled
unfolding items left_over decided reply_of reply_fault reply_at
after_second_poll = (
  λ at owed.
      let due : 15 ≤ at =
      owed_from (OnBytes (ack_bytes 129 228) 15) second_polled 1 at (device_in second_polled.devices.entries 1) refl refl refl refl refl (same_moment 12) owed in
      (omega arith, λ other. (omega arith, no_other)),
  after_second_answer,
)

after_answer : KeepsTime 0 (Tick 12 ∷ OnBytes (ack_bytes 129 228) 15 ∷ Tick 15 ∷ []) answered
unfolding items left_over decided reply_of reply_fault reply_at
after_answer = (
  λ at owed. let due : 12 ≤ at = bytes_seen (ack_bytes 128 229) 12 at ordered owed.not_before in (omega arith, no_other),
  after_second_poll,
)

in_time : KeepsTime 0 order_calls ordered
unfolding items left_over decided reply_of reply_fault reply_at
in_time = (
  λ at owed.
      let due : 12 ≤ at =
      owed_from (OnBytes (ack_bytes 128 229) 12) ordered 0 at (device_in ordered.devices.entries 0) refl refl refl refl refl (same_moment 9) owed in
      (omega arith, λ other. (omega arith, no_other)),
  after_answer,
)

two : 2 ≤ 2
two = omega arith

few : HasFew 2 order_calls ordered
unfolding items left_over decided reply_of reply_fault reply_at
few = (two, (two, (two, (two, two))))

pub order_is_reached : OrderIsReached
unfolding items left_over decided reply_of reply_fault reply_at
order_is_reached = record {
  config = short_config;
  in_a_row = refl;
  accepted = record {
    under_way = record { device = device_in both_open.devices.entries 0; there = refl; under_way = refl };
    accepted = refl;
    place = refl;
  };
  in_time = in_time;
  few = few;
  not_before = refl;
  goes_out = refl;
  moment = refl;
}
