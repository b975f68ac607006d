-- The names that most proofs of this crate cite, passed on from one place. Declares nothing.
pub use Rattle.std.specs.Prelude.{drop, IfSome, if◌then◌else◌, is_none, is_some, nat_eq, nat_le, nat_lt, not, option_map, option_to_list, slice_get, slice_set, ◌≢◌, ◌⊎◌}
pub use Rattle.std.proofs.lemmas.Bool.{eq-eqb, eqb-false, eqb-true, le-leb, leb-true, lt-ltb, ltb-false, ltb-true}
pub use Rattle.std.proofs.Common.{[], ap, append-nil, append_assoc, arith, Bool, Err, false, inl, inr, length, length-append, List, map, max, min, None, Ok, Option, refl, Result, Some, subst, suc, sym, true, zero, ℕ, ◌&&◌, ◌*◌, ◌++◌, ◌+◌, ◌-◌, ◌<◌, ◌==◌, ◌^◌, ◌||◌, ◌∙◌, ◌∷◌, ◌≡◌, ◌≤◌}
pub use Rattle.std.specs.Option.{option_map_or, option_or}
pub use Rattle.osdp_msg.specs.declared.command.Command.{Command}
pub use Rattle.osdp_bus.specs.declared.entry.Entry.{Entry}
pub use Rattle.osdp_bus.specs.Buses.{BusState, device_of, Devices, has_report, holder, is_silent, new_bus, seen, waiting_after}
pub use Rattle.osdp_bus.specs.Machine.{add_refusal, after_add, after_begin_at, after_retarget_at, after_submit_at, after_withdraw_at, begin_refusal_at, begin_refusal_of, bus_fault, changed_unless, changes_entry, entry_begins, entry_retargets, entry_submits, entry_withdraws, is_comset_refused, is_withdrawn_at, is_withdrawn_of, leads_nowhere, new_device, order_refusal_at, order_refusal_of, retarget_refusal_at, submit_refusal_at, withdrawal_at, withdrawal_of, withdrawn_of}
pub use Rattle.osdp_bus_laws.specs.Calls.{Add, after_call, after_calls, Begin, Call, NextReport, OnBytes, OnSilence, Retarget, Submit, Tick, Withdraw}
pub use Rattle.osdp_time_laws.proofs.Orders.{lives, next_product}
pub use Rattle.osdp_bus.specs.declared.config.BusConfig.{BusConfig}
pub use Rattle.osdp_bus_laws.specs.Fairness.{Begins}
pub use Rattle.osdp_bus_time_laws.specs.Laws.{exchange_of, IsAccepted, IsUnderWay}
pub use Rattle.osdp_bus_time_laws.specs.Turns.{BeginsBy, EndsBy, HasFew, KeepsTurns, NoneBegins, OutstandingTakes, others_of, turns_of, TurnsTake}
pub use Rattle.osdp_bus_time_laws.proofs.Places.{AtPlace, call_place, one_device, Outcome, tick_place}
pub use Rattle.osdp_controller.specs.declared.session.Session.{Session}
pub use Rattle.osdp_controller_laws.specs.Commands.{asked_in, command_of, GoesOn, IsAnswered, tells_end, told_command}
pub use Rattle.osdp_bus.specs.Settings.{controller_config, IsBusConfig}
pub use Rattle.osdp_bus_time_laws.specs.Clock.{DoneBy, ends_duty, IsOwed, KeepsTime}
pub use Rattle.osdp_bus_time_laws.proofs.Devices.{always_well, same_config, Well, well_call, well_calls, well_new}
pub use Rattle.osdp_frame.specs.Items.{items}
pub use Rattle.osdp_controller.proofs.Choices.{either_way}
pub use Rattle.osdp_bus.specs.declared.fault.BusFault.{BusFault}
pub use Rattle.osdp_bus.specs.Entries.{address_of, entry_hears, entry_ticks, first_from, holds, is_at, is_entry_due, step_of, told_of}
pub use Rattle.osdp_bus.specs.Hearing.{after_bytes, ends_run, ends_silent, hears_items, hears_with}
pub use Rattle.osdp_bus.specs.Ticking.{bus_ticks, BusTicked, is_due_at, is_held_and_due, next_due, stays, ticks_at, ticks_by, ticks_held, ticks_on, ticks_with}
pub use Rattle.osdp_bus_laws.proofs.Hearing.{items_keep}
pub use Rattle.osdp_frame.specs.Packet.{next_sequence, Packet}
pub use Rattle.osdp_controller.specs.declared.report.Report.{Report}
pub use Rattle.osdp_controller.specs.declared.state.State.{State}
pub use Rattle.osdp_controller.specs.declared.state.State.TheVariants.{Closed, Idle, Pausing, Quiet, Waiting}
pub use Rattle.osdp_controller.specs.Machine.{begin_refusal, bytes_on_its_way, bytes_waiting, command_size, has_room, is_outstanding, IsState, IsSubmitted, Machine, submit_refusal as refusal_of_controller}
pub use Rattle.osdp_controller.specs.States.{is_closed, is_idle}
pub use Rattle.osdp_controller_laws.proofs.Endings.{frame_ends, tells_ends}
pub use Rattle.osdp_bus_laws.specs.Turns.{asking, BeginsExchange, judged}
pub use Rattle.osdp_bus_laws.proofs.Exchanging.{has_one_exchange}
pub use Rattle.osdp_bus_laws.proofs.Places.{both_false, is_false, IsAt, none_at, replaced}
pub use Rattle.osdp_bus_laws.proofs.Sound.{IsNobody, SoundBus}
pub use Rattle.osdp_bus_laws.proofs.Turning.{frame_sent, set_here, set_other, still_free, takes_turns}
pub use Rattle.osdp_msg.specs.declared.command.Command.TheVariants.{Comset, Id, Poll}
pub use Rattle.osdp_msg.specs.declared.limits.Room.{Room}
pub use Rattle.osdp_msg.specs.Kept.{command_kept}
pub use Rattle.osdp_controller.specs.Hearing.{comset_of, Heard, hears}
pub use Rattle.osdp_controller.specs.Held.{on_its_way}
pub use Rattle.osdp_frame.specs.Spelling.{address_byte}
pub use Rattle.osdp_controller.specs.declared.exchange.Exchange.{Exchange}
pub use Rattle.osdp_controller.specs.declared.exchange.Exchange.TheVariants.{Asking, Opening, Polling}
pub use Rattle.osdp_controller.specs.Exchanges.{exchange_body, submitted_command}
pub use Rattle.osdp_controller.specs.Sessions.{frame_of, seen as seen_by}
pub use Rattle.osdp_controller_laws.specs.Laws.{exchange_in}
pub use Rattle.osdp_bus.proofs.Waiting.{found, IsFound}
pub use Rattle.osdp_bus_laws.specs.Exchanges.{IsOutstandingAt, own_frame}
pub use Rattle.osdp_bus_laws.proofs.Calling.{map_none, sound_call, sound_calls, sound_new}
pub use Rattle.osdp_bus_laws.proofs.Changing.{Sound}
pub use Rattle.osdp_bus_laws.proofs.Ordering.{elsewhere_same, order_made}
pub use Rattle.osdp_time_laws.specs.Orders.{is_under_way}
pub use Rattle.osdp_bus_laws.proofs.Moments.{moments_are_seen}
pub use Rattle.osdp_bus_time_laws.proofs.Turning.{decide, tick_of}
pub use Rattle.osdp_msg.specs.CommandTable.{command_code}
pub use Rattle.osdp_bus_laws.proofs.Fairness.{begun_ticked, stands_after}
pub use Rattle.osdp_bus_order_laws.specs.Pacing.{asked_at, goes_out, heard_along, is_closed_at, is_heard, is_polling, polls_at, PollsStandBetween}
pub use Rattle.osdp_bus_order_laws.specs.Places.{accepted, accepted_in, given, left, OrdersKeepTheirPlaces, taken_back_in, waiting_orders}
pub use Rattle.osdp_bus_order_laws.specs.InTime.{OrderLeavesBy, OrdersLeaveInTime, OrdersLeaveInTurns}
pub use Rattle.osdp_controller.specs.Sessions.{is_poll_next}
pub use Rattle.osdp_controller.specs.Ticking.{Ticked, ticks_in}
pub use Rattle.osdp_controller.specs.Machine.{acts}
pub use Rattle.osdp_time_laws.specs.Laws.{is_quiet}
