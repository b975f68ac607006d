-- The names that most proofs of this crate cite, passed on from one place. Declares nothing.
pub use Rattle.std.proofs.Common.{[], ap, arith, Bool, cond, Err, false, inl, inr, List, map, None, Ok, Option, refl, Result, Some, subst, sym, true, ℕ, ◌++◌, ◌∙◌, ◌∷◌, ◌≡◌, ◌≢◌, ◌⊎◌}
pub use Rattle.std.specs.Prelude.{◌==◌}
pub use Rattle.std.proofs.lemmas.Bool.Decides.{eqb_tells}
pub use Rattle.std.proofs.lemmas.Bool.{eq-eqb, eqb-true, ne_eqb}
pub use Rattle.osdp_msg.specs.CommandTable.{command_of}
pub use Rattle.osdp_msg.specs.declared.command.Command.{Command}
pub use Rattle.osdp_msg.specs.declared.event.Event.{Event}
pub use Rattle.osdp_bus.specs.Buses.{BusState, new_bus}
pub use Rattle.osdp_bus.specs.Machine.{add_refusal, after_add, after_next_report, changed_unless, remembered_after}
pub use Rattle.osdp_bus.specs.declared.config.BusConfig.{BusConfig}
pub use Rattle.osdp_bus.specs.declared.fault.BusFault.{BusFault}
pub use Rattle.osdp_device.specs.Deciding.{is_asked, pending_of, turned_by, with_question}
pub use Rattle.osdp_device.specs.Program.{program_after, program_answer}
pub use Rattle.osdp_frame.specs.Receiving.{after_silence, after_take, after_tick, count_taken, IsAllRead, IsReceived, Received}
pub use Rattle.osdp_link_laws.proofs.Lines.{each_all, each_of}
pub use Rattle.osdp_link_laws.proofs.Stages.{Each}
pub use Rattle.osdp_reader.specs.Queue.{has_room, lacks_room}
pub use Rattle.osdp_reader.specs.State.{after_lapse_event, after_submit_if, after_withdraw_event, ReaderState}
pub use Rattle.osdp_reader.specs.declared.handler.Answer.{Answer}
pub use Rattle.osdp_calls.specs.Calls.{after_call, after_calls, Call, NewPanel, OfPanel, SetHandler, Silence, Step, Take, TickDevice, device_after, Held, held_by, takes_event}
pub use Rattle.osdp_calls.specs.Ends.{device_after_all, GoByTheirOwn, is_of_device, KeepsPanel, panel_calls}
pub use Rattle.osdp_calls.specs.Sayings.{AddsMakeTheBus, NoneRefused}
pub use Rattle.osdp_calls_instance.specs.OwnCalls.{after_each, after_own, all_calls, AreDeviceCalls, ArePanelCalls, AtDevice, AtPanel, bus_after, bus_after_each, calls_at, calls_by, CallTheLine, device_after_each, DeviceKind, devices_after, FitsAt, IsLineOf, IsOfDevice, IsOfPanel, OwnCall, OwnFits, PanelKind, Programs}
pub use Rattle.osdp_device.specs.declared.events.Expired.{Expired}
pub use Rattle.osdp_device.specs.declared.events.Expired.TheVariants.{InDoubt, Withdrawn}
pub use Rattle.osdp_calls_instance.specs.LinePrograms.{line_device, line_panel}
pub use Rattle.osdp_calls.specs.Lines.{InUse}
pub use Rattle.osdp_calls.specs.Premises.{IsSetUp}
pub use Rattle.osdp_bus.specs.Settings.{IsBusConfig}
pub use Rattle.osdp_bus.proofs.Defaults.{bus_in_range}
pub use Rattle.osdp_msg.specs.ReplyFields.{CapabilityFits}
pub use Rattle.osdp_shared_line.proofs.Sites.{at_changed, at_other, some_same}
pub use Rattle.osdp_frame.specs.declared.check_kind.CheckKind.TheVariants.{Sum}
pub use Rattle.osdp_shared_line.specs.Line.{changed, site_at}
pub use Rattle.osdp_frame.proofs.Head.{AreBytes-drop}
pub use Rattle.osdp_frame.specs.Bytes.{AreBytes}
pub use Rattle.osdp_frame_laws.proofs.Readings.{decided_nothing}
pub use Rattle.osdp_frame.specs.Reading.{item_size, RunItem}
pub use Rattle.osdp_device.proofs.Pieces.{all_read, all_read_after, fewer_turns, last_turn, seen_in_turn, takes_in_turn}
pub use Rattle.osdp_frame.proofs.Receipt.{received_new, received_silence, received_take, received_tick}
pub use Rattle.osdp_device.proofs.Turning.{tells_in_turn}
pub use Rattle.osdp_device.specs.Hearing.{Heard, hears_bytes, reads_all, then_hears, turns_left}
pub use Rattle.osdp_device.specs.Saying.{Said}
pub use Rattle.osdp_device.specs.Status.{status_after, status_answer}
pub use Rattle.osdp_device.specs.Telling.{after_all, after_items, items_of, listed, next_told, said_to_all}
pub use Rattle.osdp_calls.specs.Programs.{first_notes}
pub use Rattle.osdp_premises.specs.LongDay.{four}
pub use Rattle.osdp_calls_instance.specs.Instance.{settings}
pub use Rattle.osdp_calls_instance.specs.TwoEntries.{once, two_calls, two_set_up, TwoCallsKeep}
pub use Rattle.osdp_calls_instance.specs.CPrograms.{c_device, c_panel}
