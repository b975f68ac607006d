-- The names that most proofs of this crate cite, passed on from one place. Declares nothing.
pub use Rattle.std.proofs.Common.{[], All, ap, arith, Bool, Decides, false, IfSome, inl, inr, is_some, leb, length, List, None, not, Option, refl, Some, subst, suc, sym, true, zero, ℕ, ⊎_elim, ◌&&◌, ◌<◌, ◌==◌, ◌||◌, ◌∙◌, ◌∷◌, ◌≡◌, ◌≢◌, ◌≤◌, ◌⊎◌}
pub use Rattle.std.proofs.lemmas.Bool.{and_parts, cases_eq, cases_lt, false≢true, le-leb, leb-true}
pub use Rattle.std.proofs.lemmas.Bool.Decides.{Decides-and, Decides-below_and, Decides-by_and, Decides-eqb, Decides-like, Decides-not, Decides-or}
pub use Rattle.std.specs.Prelude.{slice_get, take}
pub use Rattle.osdp_frame.specs.Packet.{Packet}
pub use Rattle.osdp_msg.specs.declared.command_fields.Communication.{Communication}
pub use Rattle.osdp_controller.specs.Hearing.{comset_of}
pub use Rattle.osdp_bus.specs.Buses.{BusState, device_of}
pub use Rattle.osdp_bus.specs.Machine.{new_device, retarget_refusal_at, submit_refusal_at}
pub use Rattle.osdp_bus.specs.declared.entry.Entry.{Entry}
pub use Rattle.osdp_bus.specs.declared.fault.BusFault.{BusFault}
pub use Rattle.osdp_reader.specs.Table.{command_in, hears, new_address}
pub use Rattle.osdp_shared_line.specs.Addresses.{address_in, Sets, SetsReader, Somewhere}
pub use Rattle.osdp_shared_line.specs.Line.{site_at}
pub use Rattle.osdp_calls.specs.Lines.{ahead_of_device, Burst, bus_with, InUse, is_past_for_device, is_past_for_panel, Station}
pub use Rattle.osdp_calls.specs.Premises.{Addresses, AllKeep, AreInOrder, AreNotPast, InOrder, InRange, IsAsked, IsFreeFor, IsNoOthers, IsOfOthers, IsSaid, IsSetUp, IsThere, Keeps, MayBeAt, NextInOrder, NextInRange, PanelAddresses, PanelInRange, PanelIsApart, QuietOpening, unended_of}
pub use Rattle.osdp_premises.specs.Deciding.{address_asked, are_fair, are_in_order, are_not_past, are_other_addresses, differ, each_below, each_of, each_other, gives_no_others, has_addresses, if_there, is_apart_from, is_asked_to, is_check, is_entry_at, is_fair, is_free_for, is_free_of_others, is_in_order, is_no_others, is_of_others, is_ours_at, is_packet, is_quiet, is_sent_to, is_there_with, may_be_at, panel_addresses, panel_is_apart, sets, sets_reader, some_of, stands_at}
pub use Rattle.osdp_frame.specs.declared.check_kind.CheckKind.TheVariants.{Crc, Sum}
pub use Rattle.osdp_msg.specs.declared.command.Command.{Command}
pub use Rattle.osdp_device.specs.Telling.{items_of}
pub use Rattle.osdp_reader.specs.declared.handler.Answer.{Answer}
pub use Rattle.osdp_calls.specs.Calls.{after_call, after_calls, Call, NewDevice, NewPanel, Next, OfPanel, read_by, read_up_to, SetHandler, Step, LapseEvent, WithdrawEvent}
pub use Rattle.osdp_premises.specs.Exactly.{AllInRange, FairCallsKeep, PremisesAreExact}
pub use Rattle.osdp_calls.specs.Ends.{CanStand, KeepsPanel}
pub use Rattle.osdp_premises.specs.Leaving.{is_ordinary, keeps_device, keeps_handler, keeps_panel, leaves_commands, LeavingIsExact}
pub use Rattle.osdp_link_laws.proofs.Lines.{each_all}
pub use Rattle.osdp_link_laws.proofs.Stages.{Each}
pub use Rattle.osdp_premises.specs.LongDay.{answers, calls, device_at, first_line, four, had_sessions, line_after, line_in_the_morning, long_day, LongDayKeeps, RestartHappens, RestartsHappen, spare_at, station_at, twice}
pub use Rattle.osdp_shared_line.proofs.Rounds.{at_length}
pub use Rattle.osdp_shared_line.proofs.Sites.{some_same}
