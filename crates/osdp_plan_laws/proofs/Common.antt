-- The names that most proofs of this crate cite, passed on from one place. Declares nothing.
pub use Rattle.std.specs.Prelude.{if◌then◌else◌, min}
pub use Rattle.std.proofs.Common.{[], ap, arith, Bool, false, length, List, refl, subst, suc, sym, true, zero, ℕ, ◌*◌, ◌+◌, ◌-◌, ◌∙◌, ◌∷◌, ◌≡◌, ◌≤◌}
pub use Rattle.osdp_controller.specs.declared.config.ControllerConfig.{ControllerConfig}
pub use Rattle.osdp_bus_laws.specs.Calls.{after_calls, Submit}
pub use Rattle.osdp_bus_time_laws.specs.Turns.{turns_of}
pub use Rattle.osdp_time_laws.specs.Lines.{line_silence_time, turns_time}
pub use Rattle.osdp_plan.specs.declared.plan.Plan.{Plan}
pub use Rattle.osdp_plan.specs.Figures.{answered_time, card_wait, exchanges, lost_wait, orders_before, poll_round}
pub use Rattle.osdp_plan_laws.specs.Figures.{CardsKeepToFigures, OrdersKeepToFigures, planned_time, RoundsKeepToFigures, SilenceKeepsToFigures}
pub use Rattle.osdp_bus.specs.Buses.{BusState, new_bus}
pub use Rattle.osdp_bus_time_laws.proofs.Devices.{always_well, Well}
