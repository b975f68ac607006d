-- While an order waits, the clock doesn't pass its moment.
use Rattle.osdp_plan_laws.proofs.Common.{[], ◌∷◌, ◌≡◌, ℕ, zero, suc, ◌≤◌, List, refl, BusState, after_calls}
use Rattle.std.specs.Prelude.{Option, Some, None}
use Rattle.osdp_msg.specs.declared.command.Command.{Command}
use Rattle.osdp_bus_laws.specs.Calls.{Call, after_call}
use Rattle.osdp_bus_order_laws.specs.InTime.{OrderLeavesBy}
use Rattle.osdp_bus_order_laws.specs.Places.{leaves_in}
use Rattle.osdp_plan_laws.specs.Passed.{GoesOn}
use Rattle.osdp_plan_laws.specs.PassedOrders.{LeaveAtMost, OrdersWaitWithin}

-- an order leaves in a call, or none
either_sent : {A : Type 0} (o : Option Command) → (o ≡ None → A) → ((sent : Command) → o ≡ Some sent → A) → A
either_sent None none some = none refl
either_sent (Some sent) none some = some sent refl

orders_within : (limit before entry : ℕ) (command : Command) (calls : List Call) (b : BusState) → OrderLeavesBy limit entry command before calls b
    → GoesOn entry calls b → LeaveAtMost before entry calls b → b.greatest ≤ limit → (after_calls calls b).greatest ≤ limit
orders_within limit before entry command [] b goes on few within = within
orders_within limit zero entry command (call ∷ calls) b goes on few within =
    let now = goes on.0 in orders_within limit zero entry command calls (after_call call b) (now.2 few.0) on.1 few.1 now.0
orders_within limit (suc before) entry command (call ∷ calls) b goes on few within =
    let now = goes on.0 in
    either_sent (leaves_in entry call b)
    (λ none. orders_within limit (suc before) entry command calls (after_call call b) (now.2 none) on.1 (few.1 none) now.0)
    (λ sent gone. orders_within limit before entry command calls (after_call call b) (now.1 sent gone) on.1 (few.0 sent gone) now.0)

pub orders_wait_within : (b : BusState) → OrdersWaitWithin b
orders_wait_within b limit before entry command calls goes on few within = orders_within limit before entry command calls b goes on few within
