-- Between two orders of an entry stands a POLL that was answered.
use Rattle.std.specs.Prelude.{◌≡◌, ℕ, Bool, true, false, not, ◌&&◌, ◌||◌, if◌then◌else◌, is_none, is_some, List, [], ◌∷◌, ◌++◌, Option, Some, None, slice_get}
use Rattle.std.specs.Option.{option_map_or}
use Rattle.osdp_msg.specs.declared.command.Command.{Command}
use Rattle.osdp_controller.specs.declared.exchange.Exchange.{Exchange}
use Rattle.osdp_controller.specs.declared.exchange.Exchange.TheVariants.{Polling}
use Rattle.osdp_controller.specs.States.{is_closed}
use Rattle.osdp_controller_laws.specs.Commands.{asked_in}
use Rattle.osdp_controller_laws.specs.Laws.{exchange_in}
use Rattle.osdp_bus.specs.Buses.{BusState, device_of}
use Rattle.osdp_bus_laws.specs.Calls.{Call, after_call, after_calls}
use Rattle.osdp_bus_laws.specs.Fairness.{Begins}
use Rattle.osdp_bus_time_laws.specs.Laws.{IsUnderWay}

-- the order of an entry that waits for its answer
abbrev pub asked_at : ℕ → BusState → Option Command
asked_at entry b = option_map_or (λ d. asked_in d.controller.session.state) (device_of entry b) None

-- a POLL of an entry waits for its answer
abbrev pub is_polling : Option Exchange → Bool
is_polling (Some Polling) = true
is_polling _ = false

abbrev pub polls_at : ℕ → BusState → Bool
polls_at entry b = option_map_or (λ d. is_polling (exchange_in d.controller.session.state)) (device_of entry b) false

-- an entry has no session
abbrev pub is_closed_at : ℕ → BusState → Bool
is_closed_at entry b = option_map_or (λ d. is_closed d.controller.session.state) (device_of entry b) false

-- the order of an entry whose first packet goes out in a call
abbrev pub goes_out : ℕ → Call → BusState → Option Command
goes_out entry call b = if is_none (asked_at entry b) then asked_at entry (after_call call b) else None

-- in a call a POLL of an entry is answered, or its session is over. A POLL that waits no more for its answer, while the session stands, was answered: one that
-- gets no answer, or a NAK 4, ends the session, and after a NAK 1 or a BUSY it waits still
abbrev pub is_heard : ℕ → Call → BusState → Bool
is_heard entry call b = (polls_at entry b && not (polls_at entry (after_call call b))) || is_closed_at entry (after_call call b)

-- .. in one of a list of calls
abbrev pub heard_along : ℕ → List Call → BusState → Bool
heard_along entry [] b = false
heard_along entry (call ∷ calls) b = is_heard entry call b || heard_along entry calls (after_call call b)

-- where a POLL stands between any two orders, two of an entry go out one after the other: between them, or in the very call in which the second goes out, a POLL of the
-- entry is answered, or the session of the first has ended
abbrev pub PollsStandBetween : BusState → Type 0
PollsStandBetween b = b.config.poll_between_orders ≡ true → (entry : ℕ) (first last : Call) (between : List Call) → is_some (goes_out entry first b) ≡ true
    → is_some (goes_out entry last (after_calls between (after_call first b))) ≡ true
    → heard_along entry (between ++ last ∷ []) (after_call first b) ≡ true

-- no exchange of an entry begins in the calls
abbrev pub NoneBeginsOf : ℕ → List Call → BusState → Type 0
NoneBeginsOf entry [] b = Unit {0}
NoneBeginsOf entry (call ∷ calls) b = (Begins call entry b → ⊥) × NoneBeginsOf entry calls (after_call call b)

-- two exchanges of an entry begin, one after the other, the second while its session is under way and an order waits
pub record AreInARow (entry : ℕ) (first last : Call) (between : List Call) (command : Command) (b : BusState) : Type 0 where
  pub begun : Begins first entry b
  pub none : NoneBeginsOf entry between (after_call first b)
  pub under_way : IsUnderWay entry (after_calls between (after_call first b))
  pub waits : slice_get under_way.device.controller.waiting 0 ≡ Some command
  pub next : Begins last entry (after_calls between (after_call first b))

-- the second is a POLL exactly where the settings let one stand between any two orders and the first asked an order; else it asks the order that has waited longest
pub record GoesInTurn (polls : Bool) (command : Command) (entry : ℕ) (b : BusState) : Type 0 where
  pub poll : polls_at entry b ≡ polls
  pub order : asked_at entry b ≡ (if polls then None else Some command)

abbrev pub PollsGoExactly : BusState → Type 0
PollsGoExactly b = (entry : ℕ) (first last : Call) (between : List Call) (command : Command) → AreInARow entry first last between command b
    → GoesInTurn (b.config.poll_between_orders && is_some (asked_at entry (after_call first b))) command entry
    (after_call last (after_calls between (after_call first b)))
