-- Orders go out in the order in which they were accepted: none is lost, none goes twice, and none overtakes another.
use Rattle.std.specs.Prelude.{◌≡◌, ℕ, ◌&&◌, ◌==◌, if◌then◌else◌, is_none, List, [], ◌∷◌, ◌++◌, Option, Some, None, option_to_list, Result, Ok, Err}
use Rattle.std.specs.Option.{option_map_or, option_or}
use Rattle.osdp_msg.specs.declared.command.Command.{Command}
use Rattle.osdp_bus.specs.declared.fault.BusFault.{BusFault}
use Rattle.osdp_bus.specs.Buses.{BusState, device_of}
use Rattle.osdp_bus.specs.Machine.{submit_refusal_at, withdrawal_at}
use Rattle.osdp_bus_laws.specs.Calls.{Call, Submit, Withdraw, after_call, after_calls}
use Rattle.osdp_bus_order_laws.specs.Pacing.{goes_out}

-- the orders of an entry that wait, without the one that was asked
abbrev pub waiting_orders : ℕ → BusState → List Command
waiting_orders entry b = option_map_or (λ d. d.controller.waiting) (device_of entry b) []

-- the order of an entry that a call accepts, and the one that it takes back
abbrev pub accepted_in : ℕ → Call → BusState → Option Command
accepted_in entry (Submit at command) b = if at == entry && is_none (submit_refusal_at at command b) then Some command else None
accepted_in entry _ b = None

abbrev pub given : Result (Option Command) BusFault → Option Command
given (Err fault) = None
given (Ok command) = command

abbrev pub taken_back_in : ℕ → Call → BusState → Option Command
taken_back_in entry (Withdraw at) b = if at == entry then given (withdrawal_at at b) else None
taken_back_in entry _ b = None

-- the order of an entry that leaves those that wait in a call: its first packet goes out, or it is taken back
abbrev pub leaves_in : ℕ → Call → BusState → Option Command
leaves_in entry call b = option_or (goes_out entry call b) (taken_back_in entry call b)

-- over a list of calls, each in its order: the accepted ones, and those that wait no more, since they go out or are taken back
abbrev pub accepted : ℕ → List Call → BusState → List Command
accepted entry [] b = []
accepted entry (call ∷ calls) b = option_to_list (accepted_in entry call b) ++ accepted entry calls (after_call call b)

abbrev pub left : ℕ → List Call → BusState → List Command
left entry [] b = []
left entry (call ∷ calls) b =
    (option_to_list (goes_out entry call b) ++ option_to_list (taken_back_in entry call b)) ++ left entry calls (after_call call b)

-- the orders that waited, and then those that are accepted, go out or are taken back in this order, and the others wait
abbrev pub OrdersKeepTheirPlaces : BusState → Type 0
OrdersKeepTheirPlaces b = (entry : ℕ) (calls : List Call)
    → left entry calls b ++ waiting_orders entry (after_calls calls b) ≡ waiting_orders entry b ++ accepted entry calls b
