-- A card that takes as long as its law allows, to the millisecond.
use Rattle.std.specs.Prelude.{◌≡◌, ℕ, ◌+◌, ◌*◌, false, List, [], ◌∷◌, Some}
use Rattle.osdp_msg.specs.declared.event.Event.{Event}
use Rattle.osdp_msg.specs.declared.event.Event.TheVariants.{Raw}
use Rattle.osdp_controller.specs.declared.report.Report.TheVariants as reports
use Rattle.osdp_bus.specs.Buses.{BusState, has_report, new_bus}
use Rattle.osdp_bus.specs.Settings.{IsBusConfig}
use Rattle.osdp_bus_laws.specs.Calls.{Add, Begin, NextReport, OnBytes, Tick, after_calls}
use Rattle.osdp_bus_time_laws.specs.Instances.{ack_bytes, pd_id_bytes, short_line}
use Rattle.osdp_reader.specs.Queue.{Queue, empty_queue, queued}
use Rattle.osdp_card_time_laws.specs.Beside.{Calls, Step, calls_of}
use Rattle.osdp_card_time_laws.specs.Cards.{IsQueued, KeepsServing, to_offer_before}

-- a card of eight bits
abbrev pub card : Event
card = Raw (record { reader = 0; format = 0; bits = 8; bytes = 165 ∷ [] })

-- what the reader says of it, with number 2
abbrev pub card_bytes : List ℕ
card_bytes = 83 ∷ 128 ∷ 12 ∷ 0 ∷ 2 ∷ 80 ∷ 0 ∷ 0 ∷ 8 ∷ 0 ∷ 165 ∷ 34 ∷ []

-- a session has opened, and the first POLL goes out at 9 ms. The reader has taken it when the card is queued
abbrev pub polled : BusState
polled = after_calls (Add 0 ∷ Begin 0 0 ∷ Tick 4 ∷ OnBytes (pd_id_bytes 128 168) 4 ∷ NextReport ∷ Tick 9 ∷ []) (new_bus short_line)

abbrev pub with_card : Queue
with_card = queued card (empty_queue 1 1433)

-- its answer is read a millisecond later. The next POLL is a millisecond late, and offers the card
abbrev pub before_card : List Step
before_card = Calls (OnBytes (ack_bytes 128 229) 10) ∷ Calls (Tick 16) ∷ []

abbrev pub card_steps : List Step
card_steps = Calls (OnBytes (ack_bytes 128 229) 10) ∷ Calls (Tick 16) ∷ Calls (OnBytes card_bytes 17) ∷ []

-- the card is reported exactly when it has to be
pub record CardIsReached : Type 0 where
  pub config : IsBusConfig short_line
  pub queued : IsQueued card 0 0 with_card polled
  pub serving : KeepsServing 1 (λ entry. 1) 1 0 0 with_card card_steps polled
  pub not_before : has_report (after_calls (calls_of before_card) polled) ≡ false
  pub reported : (after_calls (calls_of card_steps) polled).devices.report ≡ Some (0, reports.Event card)
  pub moment : (after_calls (calls_of card_steps) polled).greatest
      ≡ polled.greatest + ((to_offer_before 0 with_card + 0 + 1) * (short_line.poll_interval + 1 * (1 + 1)) + 1)
