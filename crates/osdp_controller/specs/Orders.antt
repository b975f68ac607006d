-- What an outstanding exchange asks, and how many orders have no end yet.
use Rattle.std.specs.Prelude.{ℕ, ◌+◌, if◌then◌else◌, length, Option, Some, None, is_some}
use Rattle.osdp_controller.specs.declared.exchange.Asked.{Asked}
use Rattle.osdp_controller.specs.declared.exchange.Asked.TheVariants as asked
use Rattle.osdp_controller.specs.declared.exchange.Exchange.{Exchange}
use Rattle.osdp_controller.specs.declared.exchange.Exchange.TheVariants.{Opening, Polling, Asking}
use Rattle.osdp_controller.specs.declared.state.State.{State}
use Rattle.osdp_controller.specs.declared.state.State.TheVariants.{Closed, Quiet, Idle, Waiting, Pausing}
use Rattle.osdp_controller.specs.Held.{on_its_way}
use Rattle.osdp_controller.specs.Machine.{Machine}

-- what an exchange asks, without the command
abbrev pub asked_by : Exchange → Asked
asked_by Opening = asked.Opening
asked_by Polling = asked.Polling
asked_by (Asking command) = asked.Submitted

-- what the outstanding exchange asks, if one is
abbrev pub asked_in : State → Option Asked
asked_in Closed = None
asked_in (Quiet until) = None
asked_in (Idle due) = None
asked_in (Waiting until sends o) = Some (asked_by o.exchange)
asked_in (Pausing until o) = Some (asked_by o.exchange)

-- how many orders have no end yet: the one that is on its way, and those that wait
abbrev pub orders_in : Machine → ℕ
orders_in m = (if is_some (on_its_way m.session.state) then 1 else 0) + length m.waiting
