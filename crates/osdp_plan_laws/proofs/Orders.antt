-- The figure of an order is the bound of its law.
use Rattle.osdp_plan_laws.proofs.Common.{◌≡◌, ◌∙◌, ap, subst, ℕ, ◌+◌, ◌*◌, arith, BusState, ControllerConfig, OrdersKeepToFigures, Submit, Well, turns_of, turns_time, Plan, exchanges, planned_time}
use Rattle.osdp_bus_laws.specs.Calls.{after_call}
use Rattle.osdp_bus_order_laws.specs.InTime.{OrderLeavesBy}
use Rattle.osdp_bus_order_laws.proofs.InTime.{leave_in_turns}
use Rattle.osdp_plan_laws.proofs.Figures.{turns_are}

-- arithmetic on moments alone
both_turns : (interval turns : ℕ) → interval + 2 * turns ≡ interval + (turns + turns)
both_turns interval turns = omega arith

pub orders_by_plan : (p : Plan) (b : BusState) → Well b → OrdersKeepToFigures p b
orders_by_plan p b well others entry command calls planned accepted keeps =
    let xs = exchanges others p.readers p in
    let interval : b.config.poll_interval ≡ p.poll_interval = ap (λ (c : ControllerConfig). c.poll_interval) planned.config in
    subst (λ (t : ℕ). OrderLeavesBy (b.greatest + t) entry command p.orders calls (after_call (Submit entry command) b))
    (ap (λ (i : ℕ). (p.orders + 1) * (i + 2 * turns_of (planned_time others p) p.late p.readers)) interval
    ∙ ap (λ (t : ℕ). (p.orders + 1) * (p.poll_interval + 2 * t)) (turns_are others p planned.plan)
    ∙ ap (λ (t : ℕ). (p.orders + 1) * t) (both_turns p.poll_interval (turns_time p.late xs)))
    (leave_in_turns b well p.late (planned_time others p) p.readers entry p.orders command calls accepted keeps)
