-- Two orders and a card that takes as long as its law allows, to the millisecond, where a POLL stands between any two orders.
use Rattle.std.specs.Prelude.{◌≡◌, ℕ, ◌+◌, ◌*◌, false, List, [], ◌∷◌, ◌++◌, Some}
use Rattle.osdp_msg.specs.declared.command.Command.TheVariants.{Id}
use Rattle.osdp_controller.specs.declared.report.Report.TheVariants as reports
use Rattle.osdp_bus.specs.Buses.{BusState, has_report, new_bus}
use Rattle.osdp_bus.specs.Settings.{IsBusConfig}
use Rattle.osdp_bus_laws.specs.Calls.{Call, Add, Begin, NextReport, OnBytes, Submit, Tick, after_calls}
use Rattle.osdp_bus_order_laws.specs.Instances.{between_line}
use Rattle.osdp_bus_time_laws.specs.Instances.{ack_bytes, pd_id_bytes}
use Rattle.osdp_card_time_laws.specs.Beside.{Calls, Step, calls_of}
use Rattle.osdp_card_time_laws.specs.Between.{KeepsServingBetween, orders_before}
use Rattle.osdp_card_time_laws.specs.Cards.{IsQueued, to_offer_before}
use Rattle.osdp_card_time_laws.specs.Instances.{card, with_card}

-- a session has opened, and the first POLL goes out at 9 ms. The reader has taken it when the card is queued
abbrev pub polled_between : BusState
polled_between = after_calls (Add 0 ∷ Begin 0 0 ∷ Tick 4 ∷ OnBytes (pd_id_bytes 128 168) 4 ∷ NextReport ∷ Tick 9 ∷ []) (new_bus between_line)

-- the reader's answer to the order, with number 2, and the card, with number 3
abbrev pub order_answer : List ℕ
order_answer = 83 ∷ 128 ∷ 7 ∷ 0 ∷ 2 ∷ 64 ∷ 228 ∷ []

abbrev pub card_answer : List ℕ
card_answer = 83 ∷ 128 ∷ 12 ∷ 0 ∷ 3 ∷ 80 ∷ 0 ∷ 0 ∷ 8 ∷ 0 ∷ 165 ∷ 33 ∷ []

-- each answer is read a millisecond later, and each tick that does something is a millisecond late. As the next POLL is due an order comes, and goes out in its place. The one
-- after it waits, also once the first is answered, until the POLL has gone out
abbrev pub before_card : List Step
before_card =
    Calls (OnBytes (ack_bytes 128 229) 10) ∷ Calls (OnBytes [] 15) ∷ Calls (Submit 0 (Id 0)) ∷ Calls (Tick 16) ∷ Calls (Submit 0 (Id 0)) ∷ Calls (OnBytes order_answer 17)
    ∷ Calls NextReport ∷ Calls (Tick 18) ∷ Calls (Tick 23) ∷ []

abbrev pub between_steps : List Step
between_steps =
    Calls (OnBytes (ack_bytes 128 229) 10) ∷ Calls (OnBytes [] 15) ∷ Calls (Submit 0 (Id 0)) ∷ Calls (Tick 16) ∷ Calls (Submit 0 (Id 0)) ∷ Calls (OnBytes order_answer 17)
    ∷ Calls NextReport ∷ Calls (Tick 18) ∷ Calls (Tick 23) ∷ Calls (OnBytes card_answer 24) ∷ []

-- the card is reported exactly when it has to be
pub record CardBetweenIsReached : Type 0 where
  pub config : IsBusConfig between_line
  pub queued : IsQueued card 0 0 with_card polled_between
  pub serving : KeepsServingBetween 1 (λ entry. 1) 1 0 with_card between_steps polled_between
  pub not_before : has_report (after_calls (calls_of before_card) polled_between) ≡ false
  pub reported : (after_calls (calls_of between_steps) polled_between).devices.report ≡ Some (0, reports.Event card)
  pub moment : (after_calls (calls_of between_steps) polled_between).greatest
      ≡ polled_between.greatest
      + ((to_offer_before 0 with_card + orders_before (to_offer_before 0 with_card) 0 polled_between + 1) * (between_line.poll_interval + 1 * (1 + 1)) + 1)
