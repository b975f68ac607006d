-- The names that most proofs of this crate cite, passed on from one place. Declares nothing.
pub use Rattle.std.proofs.Common.{[], ap, arith, Bool, cond, drop, false, inl, inr, is_some, List, map, max, None, not, Option, refl, slice_get, slice_set, Some, subst, suc, sym, take, true, zero, ℕ, ◌&&◌, ◌++◌, ◌+◌, ◌<◌, ◌==◌, ◌||◌, ◌∙◌, ◌∷◌, ◌≡◌, ◌≢◌, ◌⊎◌}
pub use Rattle.std.proofs.lemmas.Bool.Decides.{eqb_tells, leb_tells}
pub use Rattle.std.proofs.lemmas.List.{map-append}
pub use Rattle.std.specs.Prelude.{option_map}
pub use Rattle.std.proofs.lemmas.Bool.{and_parts, eq-eqb, eqb-true}
pub use Rattle.std.specs.Option.{option_map_or}
pub use Rattle.osdp_controller.specs.declared.report.Report.{Report}
pub use Rattle.osdp_bus.specs.Buses.{BusState, device_of, Devices, has_report, holder, is_silent, seen, waiting_after}
pub use Rattle.osdp_bus.specs.Remembering.{Remembered}
pub use Rattle.osdp_bus.specs.Entries.{address_of, entry_hears, entry_ticks, first_from, holds, is_at, is_entry_due, is_taken_beside, reserved_after, step_of, takes_up, told_of}
pub use Rattle.osdp_bus.specs.Hearing.{after_bytes, ends_run, ends_silent, hears_at, hears_bytes, hears_items, hears_packet, hears_with}
pub use Rattle.osdp_bus.specs.Ticking.{asks_free, asks_holder, bus_ticks, BusTicked, is_due_at, is_held_and_due, next_due, stays, ticks_at, ticks_by, ticks_free, ticks_held, ticks_on, ticks_with}
pub use Rattle.osdp_bus.specs.declared.entry.Entry.{Entry}
pub use Rattle.osdp_bus_laws.specs.Reports.{told_at, told_by_bytes, told_by_device, told_by_end, told_by_entry, told_by_holder, told_by_item, told_by_items, told_by_silence, told_by_tick, told_by_ticking, told_in, told_with}
pub use Rattle.osdp_bus_laws.specs.Turns.{IsBefore, IsDueEntry, judged}
pub use Rattle.osdp_bus_laws.proofs.Sound.{held_there, sound_item, sound_seen, sound_silent, SoundBus}
pub use Rattle.osdp_bus_laws.proofs.Turning.{due_is_next, next_is_due, none_is_due, set_here, set_other, strictly}
pub use Rattle.osdp_calls.specs.Calls.{after_call, after_next, after_panel, asked_at, asked_by_holder, begins_with, begun_of, Call, change_at, is_to_begin, last_of, NewDevice, NewPanel, Next, noted, OfPanel, panel_says, read_at_end, read_at_silence, read_at_tick, read_by, read_by_holder, said_at, said_for, Step}
pub use Rattle.osdp_entry_numbers.specs.Numbers.{AreNumbers, has_entry, IsIdle, IsNewPanel, named, Numbers, renumbered, renumbers, turn_of}
pub use Rattle.osdp_msg.specs.declared.command.Command.{Command}
pub use Rattle.osdp_link_laws.proofs.Lines.{each_all, each_of}
pub use Rattle.osdp_reader.specs.declared.handler.Answer.{Answer}
pub use Rattle.osdp_shared_line.specs.Line.{after_net, Net, NetMove, RestartPanel as RestartsPanel, site_at}
pub use Rattle.osdp_calls.specs.Premises.{AllKeep, AreInOrder, IsAsked, IsFreeFor, IsNoOthers, IsOfOthers, IsSaid, IsSetUp, IsThere, Keeps, MayBeAt, PanelInRange}
pub use Rattle.osdp_entry_numbers.specs.OwnOrder.{after_all_own, after_own, AllOwnKeep, asked_in, Fits, in_order, IsOwnSetUp, LeavesAlone, ordered_step, own_view, OwnKeeps, OwnLine, OwnStep, turned}
pub use Rattle.osdp_bus.proofs.Waiting.{found, IsFound}
pub use Rattle.osdp_bus.specs.Machine.{after_begin_at, after_retarget_at, after_submit_at, begin_refusal_at, begin_refusal_of, bus_fault, changed_unless, changes_entry, entry_begins, entry_retargets, entry_submits, entry_withdraws, is_comset_refused, new_device, or_taken, remembered_after, retarget_refusal_at, retarget_refusal_of, submit_refusal_at, submit_refusal_of, withdrawal_of}
pub use Rattle.osdp_bus.specs.declared.config.BusConfig.{BusConfig}
pub use Rattle.osdp_bus_laws.proofs.Calling.{always, sound_call}
pub use Rattle.osdp_ledger.specs.Ledger.{after, Ledger, new_ledger, Order, RestartPanel}
pub use Rattle.osdp_link_laws.specs.Link.{outstanding_command}
pub use Rattle.osdp_shared_line.proofs.Sites.{some_same}
pub use Rattle.osdp_calls.specs.Lines.{Burst, bus_with, InUse, Station}
pub use Rattle.osdp_calls.proofs.Ends.{next_bus, said_bus}
pub use Rattle.osdp_calls_ledger.specs.Steps.{given_back, opening, panel_restarts, panel_steps, reported, steps_of}
pub use Rattle.osdp_entry_numbers.specs.Promises.{all_own_accepted, all_own_given_up, all_own_queued, DoesTheSame, IsOfPanel, own_accepted, own_along, own_restarts, own_steps, own_steps_from, OwnOrderDoesTheSame, OwnOrderKeepsApart, OwnOrderKeepsLedger}
pub use Rattle.osdp_frame.specs.Packet.{Packet}
pub use Rattle.osdp_frame.specs.Reading.{PacketItem, RefusedItem, RunItem, SkippedItem}
pub use Rattle.osdp_controller.specs.Hearing.{comset_of, Heard}
pub use Rattle.osdp_controller.specs.Machine.{acts, is_outstanding, retarget_refusal, submit_refusal}
pub use Rattle.osdp_bus_laws.proofs.Changing.{Sound}
pub use Rattle.osdp_link_laws.proofs.Stages.{Each}
pub use Rattle.osdp_calls.specs.Ends.{CanStand}
pub use Rattle.osdp_calls.proofs.Matching.{is_there}
pub use Rattle.osdp_entry_numbers.specs.Including.{AnyCallsKeep, as_they_stand, same_step}
pub use Rattle.osdp_ledger.specs.History.{AreAllowed, History, new_history, runs}
pub use Rattle.osdp_link_ledger.specs.Steps.{after_steps, all_steps, opens, queued_before, submits, told, withdraws}
pub use Rattle.osdp_msg.specs.declared.command_fields.Communication.{Communication}
pub use Rattle.osdp_bus.specs.declared.fault.BusFault.{BusFault}
pub use Rattle.osdp_bus.specs.declared.fault.BusFault.TheVariants.{AddressTaken}
pub use Rattle.osdp_calls.specs.Handing.{heard, hears_all}
pub use Rattle.osdp_frame.specs.Items.{items, whole_packets}
