-- The names that most proofs of this crate cite, passed on from one place. Declares nothing.
pub use Rattle.std.specs.Prelude.{drop, map, take}
pub use Rattle.std.proofs.Common.{[], ap, arith, Bool, false, if◌then◌else◌, length, List, nat_le, nat_lt, None, Option, refl, Some, subst, suc, true, zero, ℕ, ◌&&◌, ◌++◌, ◌<◌, ◌∙◌, ◌∷◌, ◌≡◌}
pub use Rattle.osdp_msg.specs.ReplyFields.{CapabilityFits, NakFits}
pub use Rattle.osdp_link_laws.proofs.Lines.{each_all}
pub use Rattle.osdp_shared_line.specs.Line.{site_at}
pub use Rattle.osdp_shared_line.proofs.Sites.{some_same}
pub use Rattle.osdp_calls.specs.Lines.{Station}
pub use Rattle.osdp_calls_instance.specs.OwnCalls.{after_own, all_calls, AllFit, AtDevice, AtPanel, calls_by, DeviceKind, FitsAt, IsLineOf, OwnCall, PanelKind, Programs}
pub use Rattle.osdp_premises.specs.LongDay.{asks, device_at, first_line, station_at}
pub use Rattle.osdp_premises.proofs.Exactly.{fair_keep}
pub use Rattle.osdp_premises.proofs.LongDay.{all_range, AllRanges, id_fits, is_set_up, key_fits, no_bytes, room_fits, twice_fits}
pub use Rattle.osdp_program_days.specs.Days.{all_at, Made, owns, reads, steps_of}
pub use Rattle.osdp_program_days.specs.Happening.{on, ordered_on}
pub use Rattle.osdp_calls.specs.Calls.{Call, NewDevice, NewPanel, Next, OfPanel, Pending, SetBusy, SetHandler, Silence, Step, SubmitEvent, Take, TickDevice, LapseEvent, WithdrawEvent, held_by}
pub use Rattle.osdp_msg.specs.CommandTable.{CommandFits}
pub use Rattle.osdp_device.specs.Program.{new_program, program_after, program_answer}
pub use Rattle.osdp_calls_instance.specs.CPrograms.{c_device, c_panel}
