-- The names that most proofs of this crate cite, passed on from one place. Declares nothing.
pub use Rattle.std.proofs.Common.{[], All, ap, append-nil, append_assoc, arith, Bool, cond, Err, false, IfSome, inl, inr, leb, length, List, ltb, map, max, None, not, Ok, Option, refl, Result, Some, subst, suc, sym, true, zero, ℕ, ◌++◌, ◌+◌, ◌<◌, ◌||◌, ◌∙◌, ◌∷◌, ◌≡◌, ◌≢◌, ◌≤◌, ◌⊎◌}
pub use Rattle.std.specs.Prelude.{is_some, min, nat_le, nat_lt, option_map, option_to_list, slice_get, slice_set, ◌&&◌, ◌-◌, ◌==◌, ◌^◌}
pub use Rattle.std.proofs.lemmas.Bool.{or_parts}
pub use Rattle.std.proofs.lemmas.Bool.Decides.{eqb_tells, leb_tells}
pub use Rattle.std.proofs.lemmas.List.{length_push}
pub use Rattle.std.specs.Option.{option_map_or}
pub use Rattle.std.specs.Str.{bytes_eq}
pub use Rattle.osdp_msg.specs.declared.limits.Room.{Room}
pub use Rattle.osdp_frame.specs.Packet.{next_sequence, Packet}
pub use Rattle.osdp_msg.specs.CommandTable.{CommandFits}
pub use Rattle.osdp_msg.specs.declared.command.Command.{Command}
pub use Rattle.osdp_msg.specs.declared.command_fields.Communication.{Communication}
pub use Rattle.osdp_controller.specs.Comsets.{has_comset}
pub use Rattle.osdp_controller.specs.Hearing.{answered, answered_unread, com_of, command_answered, comset_of, Heard, hears, hears_busy, hears_in, ignores, is_ack, is_from_reader, is_numbered, loses, moved_by, opening_answered, pausing_hears, pd_id_of, poll_told, rests, waiting_hears}
pub use Rattle.osdp_controller.specs.Machine.{after_begin, after_retarget, after_submit, AreSettings, begin_refusal, bytes_waiting, command_size, Machine, new_machine, refused_unless_closed, retarget_refusal, submit_refusal}
pub use Rattle.osdp_controller.specs.declared.state.State.{State}
pub use Rattle.osdp_controller.specs.declared.state.State.TheVariants.{Closed, Idle, Pausing, Quiet, Waiting}
pub use Rattle.osdp_controller.specs.declared.config.ControllerConfig.{ControllerConfig}
pub use Rattle.osdp_bus.specs.Buses.{BusState, device_of, Devices, has_report, holder, is_silent, is_told_maybe_again, new_bus, seen, waiting_after}
pub use Rattle.osdp_bus.specs.Settings.{controller_config, IsBusConfig}
pub use Rattle.osdp_bus.specs.declared.config.BusConfig.{BusConfig}
pub use Rattle.osdp_bus.specs.declared.entry.Entry.{Entry}
pub use Rattle.osdp_link_laws.proofs.Lines.{both, each_all, each_append, each_map, each_of, each_front, each_rest}
pub use Rattle.osdp_reader.specs.State.{after_set_busy, after_set_handler, ReaderState}
pub use Rattle.osdp_reader.specs.declared.handler.Answer.{Answer}
pub use Rattle.osdp_shared_line.specs.Addresses.{HasNoOther, in_front, IsNameOf, IsSetUp, NetMoveFits, NetMovesFit, NobodyElseHears, NoTwoAreTogether, Sets, Somewhere}
pub use Rattle.osdp_shared_line.specs.Line.{address_of, after_net, all_restart, changed, first_gets, freed_by, gets, is_command_accepted, is_retarget_accepted, is_told, left_by, link_of, Net, NetMove, Queue, Reopen, RestartPanel, RestartReader, restarts, Retarget, run, Site, site_at, Submit, tagged, Tick, ToPanel, ToReader, Withdraw}
pub use Rattle.osdp_shared_line.specs.Programs.{all_addresses, also_at, is_opened, KeepRule, no_notes, Note, noted_at, noted_opened, noted_panel, RuleSuffices, two_addresses}
pub use Rattle.osdp_shared_line.proofs.Sites.{at_changed, at_other, some_same}
pub use Rattle.osdp_calls.specs.Lines.{ahead_of_device, ahead_of_panel, Burst, bus_with, concerns, InUse, is_ahead_of_device, is_ahead_of_panel, is_before, is_past_for_device, is_past_for_panel, Opening, Station, those}
pub use Rattle.osdp_calls.specs.Premises.{Addresses, AreInOrder, InOrder, InRange, IsAsked, IsFreeFor, IsNoOthers, IsOfOthers, IsSaid, IsThere, Keeps, MayBeAt, NextInOrder, NextInRange, PanelAddresses, PanelIsApart, QuietOpening}
pub use Rattle.osdp_calls.specs.Programs.{AllKeepRule, CallsRuleSuffices, first_note, first_notes, IsKnown, KeepsRule, noted_of, noted_report, noted_reports, notes_after, PanelKeepsRule}
pub use Rattle.osdp_calls.specs.Calls.{after_call, after_calls, after_next, after_panel, all_forget, asked_at, asked_by_holder, begins_session, begins_with, begun_of, by_device, Call, change_at, changes_at, first_answered, forgets, is_to_begin, last_of, NewDevice, NewPanel, Next, nexts, noted, OfPanel, on_station, panel_made_anew, panel_says, Pending, read_at_end, read_at_silence, read_at_tick, read_by, read_by_holder, read_of_bytes, read_up_to, reply_to, said_at, said_for, SetBusy, SetHandler, Silence, Step, SubmitEvent, Take, TickDevice, LapseEvent, WithdrawEvent, withdrawn, device_after, Held, held_by, takes_event, device_called, does, on_called}
pub use Rattle.osdp_shared_line.proofs.Rounds.{at_length, fits_both, fits_first, fits_then, net_more}
pub use Rattle.osdp_controller.specs.States.{is_closed}
pub use Rattle.osdp_controller.specs.declared.report.Report.{Report}
pub use Rattle.osdp_bus.specs.Entries.{entry_hears, entry_ticks, first_from, is_at, reserved_after, reserved_for, step_of, told_of}
pub use Rattle.osdp_bus.specs.Ticking.{bus_ticks, BusTicked, is_due_at, is_held_and_due, next_due, stays, ticks_at, ticks_by, ticks_with}
pub use Rattle.osdp_bus_laws.specs.Reports.{taken_along, TellsEachOnce, told_along, told_at, told_by_device, told_by_end, told_by_entry, told_by_holder, told_by_item, told_by_items, told_by_silence, told_by_tick, told_by_ticking, told_in, told_with}
pub use Rattle.osdp_link_laws.specs.Peers.{ReadsWhatIsAsked}
pub use Rattle.osdp_link_laws.proofs.Numbers.{is_false, is_true}
pub use Rattle.osdp_link_laws.proofs.Reports.{tick_so}
pub use Rattle.osdp_link_laws.proofs.Stages.{Each}
pub use Rattle.osdp_frame.specs.Reading.{PacketItem, RefusedItem, RunItem, SkippedItem}
pub use Rattle.osdp_controller.specs.declared.session.Session.{Session}
pub use Rattle.osdp_bus.specs.Hearing.{after_bytes, ends_run, ends_silent, hears_at, hears_bytes, hears_items, hears_packet, hears_with}
pub use Rattle.osdp_link_laws.specs.Link.{after_move, Link, lost_at, Move, outstanding_command, Repeated}
pub use Rattle.osdp_shared_line.specs.Views.{EachMoveIsItsOwn, HeardByOwn, IsQuiet, move_of, OpensQuietly, own, view}
pub use Rattle.osdp_shared_line.proofs.Hearing.{closed_hears}
pub use Rattle.osdp_calls.specs.Handing.{HandsOver, heard, hears_all, told_by_all}
pub use Rattle.osdp_controller.specs.Answers.{meaning_of, meaning_of as said_by}
pub use Rattle.osdp_controller.proofs.Idling.{idle_way}
pub use Rattle.osdp_controller.specs.Ticking.{Ticked, ticks, ticks_in}
pub use Rattle.osdp_shared_line.specs.Runs.{moves_at, moves_of}
pub use Rattle.osdp_msg.specs.ReplyTable.{ReplyFits}
pub use Rattle.osdp_msg.specs.declared.event.Event.{Event}
pub use Rattle.osdp_frame.specs.Receiving.{after_silence, after_take, after_tick, Received}
pub use Rattle.osdp_device.specs.Telling.{items_of, next_told, Told, told_by, told_or}
pub use Rattle.osdp_reader.specs.Queue.{event_for, lacks_room, offering, released, unoffered}
pub use Rattle.osdp_device.specs.Deciding.{passed, pending_of, settles, turned_by}
pub use Rattle.osdp_calls.specs.Ends.{BusIsReached, CanStand, device_after_all, GoByTheirOwn, is_called, is_of_device, IsThatOfABus, KeepsPanel, one_panel_call, OneExchange, panel_calls}
pub use Rattle.osdp_calls.specs.Turning.{asks, IsTurned, settle_calls, settles_by, TurnsByCalls}
pub use Rattle.osdp_frame.specs.Items.{items, left_over, whole_packets}
pub use Rattle.osdp_bus_laws.specs.Turns.{judged}
pub use Rattle.osdp_bus.specs.Machine.{add_refusal, after_add, after_begin_at, after_submit_at, begin_refusal_at, begin_refusal_of, bus_fault, changed_unless, changes_entry, entry_begins, entry_retargets, entry_submits, entry_withdraws, new_device, retarget_refusal_at, submit_refusal_at, withdrawal_at}
pub use Rattle.osdp_bus.specs.declared.fault.BusFault.{BusFault}
pub use Rattle.osdp_msg.specs.declared.command.Command.TheVariants.{Poll}
pub use Rattle.osdp_msg.specs.declared.reply.Reply.{Reply}
pub use Rattle.osdp_reader.specs.declared.kind.Kind.{Kind}
pub use Rattle.osdp_bus.specs.Remembering.{event_bytes, may_be_again, memory_at, nothing_yet, Remembered, remembers}
pub use Rattle.osdp_calls.specs.Marks.{all_handed, CallsMarkRepeats, event_of, event_waiting, events_of, events_told, handed_in, is_told_again, marked, MarksWhatIsToldAgain, sessions_of}
pub use Rattle.osdp_device.specs.Saying.{said_to, speaks, unless_silent}
pub use Rattle.osdp_shared_line.proofs.Controllers.{hears_well}
pub use Rattle.osdp_msg.specs.Limits.{AreRoom, most_data}
pub use Rattle.osdp_reader.specs.declared.config.ReaderConfig.{ReaderConfig}
pub use Rattle.osdp_controller.specs.Sessions.{frame_of, new_session}
pub use Rattle.osdp_reader.specs.Table.{kind_by_number, kind_of, outcome}
pub use Rattle.osdp_calls.specs.Sayings.{NoneRefused}
pub use Rattle.osdp_controller.specs.declared.exchange.Exchange.TheVariants.{Opening as OpeningExchange, Polling}
