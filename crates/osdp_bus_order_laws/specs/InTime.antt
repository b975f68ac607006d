-- By when an order has left those that wait, whether a POLL stands between any two orders or not.
use Rattle.std.specs.Prelude.{◌≡◌, ℕ, zero, suc, ◌+◌, ◌*◌, ◌≤◌, List, [], ◌∷◌, Some, None}
use Rattle.osdp_msg.specs.declared.command.Command.{Command}
use Rattle.osdp_bus.specs.Buses.{BusState}
use Rattle.osdp_bus_laws.specs.Calls.{Call, Submit, after_call}
use Rattle.osdp_bus_time_laws.specs.Clock.{KeepsTime}
use Rattle.osdp_bus_time_laws.specs.Laws.{IsAccepted, IsUnderWay, exchange_of}
use Rattle.osdp_bus_time_laws.specs.Turns.{HasFew, KeepsTurns, turns_of}
use Rattle.osdp_bus_order_laws.specs.Places.{leaves_in}

-- no call comes later than this moment before an order that waits, with so many of its entry before it, has left, or the session of the entry has ended. An order leaves as
-- its first packet goes out, or as it is taken back: those before it first, and then itself
abbrev pub OrderLeavesBy : ℕ → ℕ → Command → ℕ → List Call → BusState → Type 0
OrderLeavesBy limit entry command before [] b = Unit {0}
OrderLeavesBy limit entry command zero (call ∷ calls) b = IsUnderWay entry b
    → ((after_call call b).greatest ≤ limit)
    × ((gone : Command) → leaves_in entry call b ≡ Some gone → gone ≡ command)
    × (leaves_in entry call b ≡ None → OrderLeavesBy limit entry command zero calls (after_call call b))
OrderLeavesBy limit entry command (suc before) (call ∷ calls) b = IsUnderWay entry b
    → ((after_call call b).greatest ≤ limit)
    × ((gone : Command) → leaves_in entry call b ≡ Some gone → OrderLeavesBy limit entry command before calls (after_call call b))
    × (leaves_in entry call b ≡ None → OrderLeavesBy limit entry command (suc before) calls (after_call call b))

-- an order in time: for each order before it, and for itself, the interval between POLLs and two turns of each entry
abbrev pub OrdersLeaveInTurns : BusState → Type 0
OrdersLeaveInTurns b = (late : ℕ) (time : ℕ → ℕ) (n entry before : ℕ) (command : Command) (calls : List Call) → IsAccepted entry before command b
    → KeepsTurns late time n calls (after_call (Submit entry command) b)
    → OrderLeavesBy (b.greatest + (before + 1) * (b.config.poll_interval + 2 * turns_of time late n)) entry command before calls
    (after_call (Submit entry command) b)

-- whatever the line does: each turn as long as the settings allow
abbrev pub OrdersLeaveInTime : BusState → Type 0
OrdersLeaveInTime b = (late n entry before : ℕ) (command : Command) (calls : List Call) → IsAccepted entry before command b
    → KeepsTime late calls (after_call (Submit entry command) b) → HasFew n calls (after_call (Submit entry command) b)
    → OrderLeavesBy (b.greatest + (before + 1) * (b.config.poll_interval + 2 * (n * (exchange_of b late + late)))) entry command before calls
    (after_call (Submit entry command) b)
