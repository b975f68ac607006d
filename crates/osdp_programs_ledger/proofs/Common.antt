-- The names that most proofs of this crate cite, passed on from one place. Declares nothing.
pub use Rattle.std.proofs.Common.{[], ap, cond, inl, inr, List, map, None, Option, refl, Some, subst, sym, ℕ, ◌∙◌, ◌∷◌, ◌≡◌}
pub use Rattle.osdp_msg.specs.declared.command.Command.{Command}
pub use Rattle.osdp_bus.specs.Machine.{new_device}
pub use Rattle.osdp_bus.specs.declared.config.BusConfig.{BusConfig}
pub use Rattle.osdp_reader.specs.declared.handler.Answer.{Answer}
pub use Rattle.osdp_shared_line.specs.Line.{site_at}
pub use Rattle.osdp_shared_line.proofs.Sites.{some_same}
pub use Rattle.osdp_calls.specs.Calls.{after_calls, Call, OfPanel, Step, device_after, Held, held_by}
pub use Rattle.osdp_calls.specs.Ends.{device_after_all, GoByTheirOwn, is_of_device}
pub use Rattle.osdp_calls.specs.Lines.{InUse, Station}
pub use Rattle.osdp_calls_instance.specs.LinePrograms.{line_device, line_panel}
pub use Rattle.osdp_calls_instance.specs.OwnCalls.{after_each, bus_after, bus_after_each, CallTheLine, DeviceKind, PanelKind}
pub use Rattle.osdp_calls_instance.proofs.OwnCalls.{each_bus}
pub use Rattle.osdp_bus.specs.Buses.{BusState, device_of}
pub use Rattle.osdp_bus.specs.declared.entry.Entry.{Entry}
pub use Rattle.osdp_calls_ledger.specs.Promises.{LedgerHoldsOnce}
pub use Rattle.osdp_device.specs.Status.{status_after, status_answer}
pub use Rattle.osdp_calls_instance.specs.CPrograms.{c_device, c_panel}
pub use Rattle.osdp_device.specs.Program.{program_after, program_answer}
