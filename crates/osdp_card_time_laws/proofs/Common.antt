-- The names that most proofs of this crate cite, passed on from one place. Declares nothing.
pub use Rattle.std.proofs.Common.{[], ap, arith, Bool, false, inl, inr, length, List, max, None, Option, refl, Some, subst, suc, sym, true, zero, ℕ, ◌*◌, ◌++◌, ◌+◌, ◌-◌, ◌||◌, ◌∙◌, ◌∷◌, ◌≡◌, ◌≤◌}
pub use Rattle.std.specs.Prelude.{drop, if◌then◌else◌, is_none, is_some, nat_eq, option_map, slice_get, ◌&&◌, ◌==◌, ◌≢◌, ◌⊎◌}
pub use Rattle.std.proofs.lemmas.Bool.{eq-eqb, eqb-false, eqb-true}
pub use Rattle.osdp_msg.specs.declared.command.Command.{Command}
pub use Rattle.osdp_msg.specs.declared.command.Command.TheVariants.{Poll}
pub use Rattle.osdp_msg.specs.declared.event.Event.{Event}
pub use Rattle.osdp_bus.specs.Buses.{BusState, device_of, has_report, holder, new_bus}
pub use Rattle.osdp_bus_laws.specs.Calls.{after_call, after_calls, Call, OnBytes, Submit, Tick}
pub use Rattle.osdp_bus_laws.specs.Fairness.{Begins}
pub use Rattle.osdp_bus_laws.proofs.Fairness.{stands_after}
pub use Rattle.osdp_bus_time_laws.specs.Laws.{GoesOutBy, IsUnderWay, time_of}
pub use Rattle.osdp_bus_time_laws.specs.Turns.{EndsBy, HasFew, NoneBegins, OutstandingTakes, turns_of, TurnsTake}
pub use Rattle.osdp_bus_time_laws.proofs.Devices.{always_well, Well, well_call}
pub use Rattle.osdp_bus_time_laws.proofs.Ordered.{not_idle, polls_go_out}
pub use Rattle.osdp_reader.specs.Queue.{event_for, offering, Queue, queued, released}
pub use Rattle.osdp_card_time_laws.specs.Beside.{accepted_in, accepts, asked_at, Calls, calls_of, Queues, Serves, Step, taken, waiting_at}
pub use Rattle.osdp_card_time_laws.specs.Cards.{CardsAreReported, CardsByFigures, CardsInTime, ReportedBy, Reports, to_offer_before}
pub use Rattle.osdp_bus_time_laws.proofs.InTime.{lines_add_up, same_turns}
pub use Rattle.osdp_bus.specs.declared.entry.Entry.{Entry}
pub use Rattle.osdp_bus.specs.Entries.{entry_ticks, holds, is_entry_due}
pub use Rattle.osdp_bus_time_laws.specs.Clock.{ends_duty, KeepsTime}
