-- The names that most proofs of this crate cite, passed on from one place. Declares nothing.
pub use Rattle.std.proofs.Common.{[], ap, append-nil, append_assoc, arith, Bool, drop, false, inl, inr, length, List, max, None, Option, refl, Some, subst, suc, sym, take, true, zero, ℕ, ◌&&◌, ◌++◌, ◌+◌, ◌-◌, ◌<◌, ◌==◌, ◌||◌, ◌∙◌, ◌∷◌, ◌≡◌, ◌≤◌}
pub use Rattle.std.specs.Prelude.{IfSome, if◌then◌else◌, is_none, is_some, nat_eq, nat_le, nat_lt, not, option_and_then, option_map, option_to_list, slice_get, slice_set, ◌≢◌, ◌⊎◌}
pub use Rattle.std.specs.Option.{option_map_or, option_or}
pub use Rattle.std.proofs.lemmas.Bool.{eq-eqb, eqb-false, eqb-true, leb-false, leb-true, lt-leb, ltb-false, ltb-true}
pub use Rattle.std.specs.List.{list_any}
pub use Rattle.std.proofs.lemmas.Option.{slice_get_within}
pub use Rattle.osdp_msg.specs.declared.command.Command.{Command}
pub use Rattle.osdp_msg.specs.declared.command_fields.Communication.{Communication}
pub use Rattle.osdp_controller.specs.declared.state.State.{State}
pub use Rattle.osdp_controller.specs.declared.state.State.TheVariants.{Closed, Pausing, Waiting}
pub use Rattle.osdp_controller.specs.Comsets.{has_comset, is_comset}
pub use Rattle.osdp_controller.specs.Hearing.{comset_of, Heard, hears}
pub use Rattle.osdp_controller.specs.Machine.{acts, after_begin, after_retarget, after_submit, AreSettings, begin_refusal, bytes_kept, changed_unless as changed_machine, command_size, has_room, is_outstanding, IsMachine, kept_in, Machine, or_no_device, refused_unless_closed, retarget_refusal, sent_in, submit_refusal, withdrawn_in}
pub use Rattle.osdp_controller_laws.specs.Commands.{asked_by, asked_in, command_of, GoesOn, IsAnswered, IsGivenUp, told_command}
pub use Rattle.osdp_controller_laws.specs.Runs.{after_call as after_call_of, Begin as BeginOf, Call as CallOf, Hear, Retarget as RetargetOf, sent_by as sent_by_of, Submit as SubmitTo, Tick as TickOf, Withdraw as WithdrawOf}
pub use Rattle.osdp_controller_laws.proofs.Closed.{closed_is, may_begin, was_closed}
pub use Rattle.osdp_controller_laws.proofs.Well.{keeps_config, keeps_each, stays_well}
pub use Rattle.osdp_bus.specs.declared.config.BusConfig.{BusConfig}
pub use Rattle.osdp_bus.specs.declared.entry.Entry.{Entry}
pub use Rattle.osdp_bus.specs.declared.fault.BusFault.{BusFault}
pub use Rattle.osdp_bus.specs.declared.fault.BusFault.TheVariants.{AddressOutOfRange, AddressTaken, Full, NotClosed, OutOfRange, PollSubmitted, TooMany}
pub use Rattle.osdp_bus.specs.Buses.{BusState, device_of, Devices, has_report, holder, is_silent, is_told_maybe_again, new_bus, seen, waiting_after}
pub use Rattle.osdp_bus.specs.Entries.{address_of, entry_hears, entry_ticks, first_from, holds, is_at, is_entry_due, is_reserved, is_taken, is_taken_beside, reserved_after, reserved_for, reserved_told, step_of, takes_up, told_of}
pub use Rattle.osdp_bus.specs.Machine.{add_refusal, after_add, after_begin_at, after_next_report, after_retarget_at, after_submit_at, begin_refusal_at, begin_refusal_of, bus_fault, changed_unless, changes_entry, entry_begins, entry_retargets, entry_submits, entry_withdraws, is_comset_refused, leads_nowhere, most_entries, new_device, or_taken, order_refusal_at, order_refusal_of, remembered_after, reserved_without, retarget_refusal_at, retarget_refusal_of, submit_refusal_at, submit_refusal_of, withdrawal_of, withdrawn_of}
pub use Rattle.osdp_bus.specs.Settings.{controller_config, IsBusConfig}
pub use Rattle.osdp_bus_laws.specs.Addresses.{accepts, comsets_in, frees, is_comset_done, is_some_comset, Names, NoneFrees, ReservationsLast, reserved_at, ReservesItsComset, tells_done, withdraws_comset}
pub use Rattle.osdp_bus_laws.specs.Calls.{Add, after_call, after_calls, arisen, Begin, Call, NextReport, OnBytes, OnSilence, orders, Retarget, Submit, Tick, Withdraw}
pub use Rattle.osdp_controller.specs.declared.report.Report.{Report}
pub use Rattle.osdp_bus.proofs.Waiting.{any_at, around, found, IsAround, IsFound}
pub use Rattle.osdp_bus_laws.specs.Exchanges.{HasOneExchange, IsOutstandingAt, KeepsReports, own_frame}
pub use Rattle.osdp_frame.specs.Items.{items, left_over}
pub use Rattle.osdp_controller.proofs.Choices.{either_way}
pub use Rattle.osdp_bus.specs.Hearing.{after_bytes, ends_run, ends_silent, hears_at, hears_bytes, hears_item, hears_items, hears_packet, hears_with}
pub use Rattle.osdp_bus.specs.Ticking.{bus_ticks, BusTicked, is_due_at, is_held_and_due, next_due, stays, ticks_at, ticks_by, ticks_free, ticks_held, ticks_on, ticks_with}
pub use Rattle.osdp_bus_laws.specs.Turns.{asking, BeginsExchange, IsBefore, IsDueEntry, IsFree, IsNext, judged, TakesTurns}
pub use Rattle.osdp_frame.specs.Packet.{Packet}
pub use Rattle.osdp_frame.specs.Reading.{PacketItem, RefusedItem, RunItem, SkippedItem}
pub use Rattle.osdp_controller.specs.declared.report.LostCause.TheVariants.{NoReply}
pub use Rattle.osdp_controller.specs.declared.report.Report.TheVariants.{Event, Lost, Moved, Opened, PollAnswered, Settled, Unread}
pub use Rattle.osdp_controller.specs.declared.session.Session.{Session}
pub use Rattle.osdp_controller.specs.Sessions.{frame_of, seen as seen_by}
pub use Rattle.osdp_controller.specs.States.{is_closed, moment_of}
pub use Rattle.osdp_controller.specs.Ticking.{gives_up, sends_frame, stays as stays_in, Ticked, ticks, ticks_in, tries_again}
pub use Rattle.osdp_frame_laws.proofs.LeftOver.{items_nothing, left_over-append}
pub use Rattle.osdp_msg.specs.declared.command.Command.TheVariants.{Comset, Poll}
pub use Rattle.osdp_controller_laws.specs.Laws.{exchange_in, WhyTold}
pub use Rattle.osdp_controller_laws.proofs.OneCall.{begins_with_frame, keeps_settings}
pub use Rattle.osdp_controller_laws.proofs.Stepwise.{frames_in_steps, sends_its_frame}
pub use Rattle.osdp_controller_laws.proofs.Ticks.{counts_sends, tells_lost}
pub use Rattle.osdp_msg.specs.declared.limits.Room.{Room}
pub use Rattle.osdp_bus_laws.specs.Reports.{taken_along, taken_in, TellsEachOnce, told_along, told_at, told_by_bytes, told_by_device, told_by_end, told_by_entry, told_by_holder, told_by_item, told_by_items, told_by_silence, told_by_tick, told_by_ticking, told_in, told_with}
