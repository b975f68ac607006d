-- The same of an order.
use Rattle.std.specs.Prelude.{◌≡◌, ℕ, zero, suc, ◌≤◌, List, [], ◌∷◌, Some, None}
use Rattle.osdp_msg.specs.declared.command.Command.{Command}
use Rattle.osdp_bus.specs.Buses.{BusState}
use Rattle.osdp_bus_laws.specs.Calls.{Call, after_call, after_calls}
use Rattle.osdp_bus_order_laws.specs.InTime.{OrderLeavesBy}
use Rattle.osdp_bus_order_laws.specs.Places.{leaves_in}
use Rattle.osdp_plan_laws.specs.Passed.{GoesOn}

-- no more than so many orders of the entry leave those that wait in the calls
abbrev pub LeaveAtMost : ℕ → ℕ → List Call → BusState → Type 0
LeaveAtMost count entry [] b = Unit {0}
LeaveAtMost zero entry (call ∷ calls) b = (leaves_in entry call b ≡ None) × LeaveAtMost zero entry calls (after_call call b)
LeaveAtMost (suc count) entry (call ∷ calls) b =
    ((sent : Command) → leaves_in entry call b ≡ Some sent → LeaveAtMost count entry calls (after_call call b))
    × (leaves_in entry call b ≡ None → LeaveAtMost (suc count) entry calls (after_call call b))

-- an order with so many before it waits still
abbrev pub OrdersWaitWithin : BusState → Type 0
OrdersWaitWithin b = (limit before entry : ℕ) (command : Command) (calls : List Call) → OrderLeavesBy limit entry command before calls b → GoesOn entry calls b
    → LeaveAtMost before entry calls b → b.greatest ≤ limit → (after_calls calls b).greatest ≤ limit
