-- The names that most proofs of this crate cite, passed on from one place. Declares nothing.
pub use Rattle.std.proofs.Common.{[], ap, append-nil, append_assoc, arith, Bool, cond, drop, Err, false, get_or, inl, inr, length, length-append, List, map, max, None, Ok, Option, option_map, refl, replicate, Result, slice_get, Some, subst, suc, sym, true, zero, ℕ, ◌++◌, ◌+◌, ◌<◌, ◌==◌, ◌∙◌, ◌∷◌, ◌≡◌, ◌≤◌, ◌⊎◌}
pub use Rattle.std.specs.Prelude.{if◌then◌else◌, nat_le, nat_lt, ◌↔◌}
pub use Rattle.std.specs.Option.{option_map_or, unwrap_or}
pub use Rattle.osdp_controller.proofs.Choices.{either_way}
pub use Rattle.osdp_bus.specs.declared.entry.Entry.{Entry}
pub use Rattle.osdp_bus.specs.declared.fault.BusFault.{BusFault}
pub use Rattle.osdp_bus.specs.Buses.{BusState, device_of, Devices, has_report, holder, is_silent, seen, waiting_after}
pub use Rattle.osdp_bus.specs.Hearing.{after_bytes, ends_run}
pub use Rattle.osdp_bus.specs.Machine.{add_refusal, after_begin_at, after_next_report, begin_refusal_at, changed_unless, entry_retargets, entry_submits, retarget_refusal_at, submit_refusal_at}
pub use Rattle.osdp_bus.specs.Ticking.{bus_ticks}
pub use Rattle.osdp_bus_laws.specs.Calls.{Add as AddCall, after_call, after_calls, Begin as BeginCall, Call, NextReport, OnBytes, OnSilence, Retarget as RetargetCall, Submit as SubmitCall, Tick as TickCall, Withdraw as WithdrawCall}
pub use Rattle.osdp_bus_laws.proofs.Calling.{map_none, sound_call, sound_calls, sound_new, unless_taken}
pub use Rattle.osdp_bus_laws.proofs.Sound.{either_held, sound_packet, sound_seen, sound_silent, SoundBus}
pub use Rattle.osdp_line_calls.specs.declared.panel_call.PanelCall.{PanelCall}
pub use Rattle.osdp_line_calls.specs.PassingLaws.{IsNotOpen, IsNotOpenIn}
pub use Rattle.osdp_line_calls.specs.PanelSessions.{answered, Called, ended, IsDue, new_session, overhears, Session}
pub use Rattle.osdp_line_laws.specs.PanelLines.{Calls, calls_text, ordered, Refused}
pub use Rattle.osdp_line_laws.specs.PanelRuns.{after_said, listening_after, moment_after, RunsAreCalls, said_text, Tells}
pub use Rattle.osdp_line_answers.specs.Answers.{Answering, heard, Speaks}
pub use Rattle.osdp_line_calls.specs.ReaderLines.{Answers as ReaderAnswers}
pub use Rattle.osdp_msg.specs.declared.command.Command.{Command}
pub use Rattle.osdp_line_calls.specs.Calls.{IsSaid, Says, SaysNothing}
pub use Rattle.osdp_line_calls.specs.PanelCalls.{call_words, CallFits}
pub use Rattle.osdp_line_calls.specs.PanelLines.{Answers, IsAnswered, refuses}
pub use Rattle.osdp_line_calls.specs.PanelTexts.{due_line}
pub use Rattle.osdp_device.specs.Ages.{after_expiry, after_removal, AgesState, expired, expired_front, expires}
pub use Rattle.osdp_device.specs.declared.events.Expired.{Expired}
pub use Rattle.osdp_device.specs.Hearing.{Heard, hears_bytes, reads_all, reads_on, then_reads}
pub use Rattle.osdp_device.specs.Status.{status_after, status_answer}
pub use Rattle.osdp_device.specs.declared.status.DeviceStatus.{DeviceStatus}
pub use Rattle.osdp_frame.specs.Items.{items}
pub use Rattle.osdp_frame.specs.Reading.{PacketItem, RefusedItem, RunItem, SkippedItem}
pub use Rattle.osdp_reader.specs.State.{after_lapse_event, after_withdraw_event, ReaderState}
pub use Rattle.osdp_line_calls.specs.declared.reader_call.ReaderCall.{ReaderCall}
pub use Rattle.osdp_line_calls.specs.ReaderAbsence.{goes_first, keeps_all, LetGo, lets_some_go}
pub use Rattle.osdp_line_calls.specs.ReaderTexts.{all_lines, expired_lines, said_lines, waiting_line}
pub use Rattle.osdp_controller.specs.declared.report.Report.{Report}
pub use Rattle.osdp_controller.specs.Machine.{begin_refusal, OpensAtZero}
pub use Rattle.osdp_frame.specs.Packet.{next_sequence, Packet}
pub use Rattle.osdp_msg.specs.declared.event.Event.{Event as EventOfReader}
pub use Rattle.osdp_line_calls.specs.Passing.{is_open, opened_by, opened_told, set_open}
pub use Rattle.osdp_line_calls.specs.declared.panel_call.PanelCall.TheVariants.{At, Submit}
pub use Rattle.osdp_frame.specs.Receiving.{Received}
