-- The names that most proofs of this crate cite, passed on from one place. Declares nothing.
pub use Rattle.std.proofs.Common.{[], ap, append-nil, append_assoc, arith, Bool, cond, false, inl, inr, leb, length, List, ltb, None, not, Option, refl, rules, Some, subst, suc, sym, true, zero, ℕ, ◌&&◌, ◌*◌, ◌++◌, ◌+◌, ◌-◌, ◌<◌, ◌^◌, ◌||◌, ◌∙◌, ◌∷◌, ◌≡◌, ◌≤◌}
pub use Rattle.std.specs.Prelude.{All, drop, IfSome, if◌then◌else◌, is_none, is_some, max, min, nat_le, nat_lt, option_to_list, slice_index, ◌==◌, ◌≢◌, ◌⊎◌}
pub use Rattle.std.proofs.lemmas.List.Elements.{All-cons, All-head, All-nil, All-push, All-tail}
pub use Rattle.std.proofs.lemmas.Bool.{and_parts, eq-eqb, eqb-true, le-leb, le-ltb, leb-false, leb-true, lt-leb, lt-ltb, ltb-true, ne_eqb, or_cases}
pub use Rattle.osdp_frame.specs.Packet.{IsPacket, next_sequence, Packet}
pub use Rattle.osdp_msg.specs.declared.command.Command.{Command}
pub use Rattle.osdp_controller.specs.declared.config.ControllerConfig.{ControllerConfig}
pub use Rattle.osdp_controller.specs.declared.exchange.Exchange.TheVariants.{Asking, Opening, Polling}
pub use Rattle.osdp_controller.specs.declared.exchange.Outstanding.{Outstanding}
pub use Rattle.osdp_controller.specs.declared.session.Session.{Session}
pub use Rattle.osdp_controller.specs.declared.state.State.{State}
pub use Rattle.osdp_controller.specs.declared.state.State.TheVariants.{Closed, Idle, Pausing, Quiet, Waiting}
pub use Rattle.osdp_controller.specs.Answers.{is_not_taken, meaning_by_reading, meaning_by_reason, meaning_by_reply, meaning_of}
pub use Rattle.osdp_controller.specs.Hearing.{answered, answered_unread, com_of, command_answered, comset_of, Heard, hears, hears_busy, hears_in, ignores, is_ack, is_from_reader, is_numbered, loses, moved_by, opening_answered, pausing_hears, pd_id_of, poll_told, rests, waiting_hears}
pub use Rattle.osdp_controller.specs.Machine.{acts, after_begin, after_retarget, after_submit, after_withdraw, begin_refusal, begun, bytes_kept, bytes_on_its_way, bytes_waiting, changed_unless, command_size, has_room, is_outstanding, IsMachine, IsOutstanding, IsSession, IsState, IsSubmitted, Machine, new_machine, OpensAtZero, or_no_device, refused_unless_closed, retarget_refusal, sent_in, submit_refusal}
pub use Rattle.osdp_controller_laws.specs.Runs.{after_call, after_calls, Begin, Call, count_after, count_from, exchanges_begun, frames, HasNumberOfPlace, Hear, Lasts, NumbersByPlace, ResendsTheSame, Retarget, SendsFew, sent_by, StaysWell, Submit, Tick, told_by, Withdraw}
pub use Rattle.osdp_controller.specs.Sessions.{at_rest, closed, frame_of, later, lost, seen}
pub use Rattle.osdp_controller.specs.Ticking.{begins, gives_up, sends_frame, stays, Ticked, ticks, ticks_in, tries_again}
pub use Rattle.osdp_controller.proofs.Keeping.{keeps_begins, keeps_numbered, keeps_seen, keeps_ticks, moved_to_device}
pub use Rattle.osdp_msg.specs.declared.command_fields.Communication.{Communication}
pub use Rattle.osdp_msg.specs.declared.event.Event.{Event as EventOfReader}
pub use Rattle.osdp_msg.specs.declared.reply.Reply.{Reply}
pub use Rattle.osdp_msg.specs.declared.reply_fields.PdId.{PdId}
pub use Rattle.osdp_msg.specs.Events.{event_in, event_reply}
pub use Rattle.osdp_controller.specs.declared.meaning.ReplyMeaning.{ReplyMeaning}
pub use Rattle.osdp_controller.specs.declared.meaning.ReplyMeaning.TheVariants.{Damaged, NotTaken, NumberRefused, Plain, Unreadable}
pub use Rattle.osdp_controller.specs.declared.exchange.Exchange.{Exchange}
pub use Rattle.osdp_controller.specs.declared.report.Report.{Report}
pub use Rattle.osdp_controller.specs.declared.report.Report.TheVariants.{Event, Lost, Moved, Opened, PollAnswered, Settled, Unread}
pub use Rattle.osdp_controller.specs.Private.{numbered_in}
pub use Rattle.osdp_controller_laws.specs.Laws.{Comes, ComesNumbered, CountsSends, exchange_in, HearsAnswers, IsFromReader, KeepsTime, NumbersTakeTurns, TakesFront, TellsLost, TellsWhy, WhyTold}
pub use Rattle.osdp_controller.proofs.Choices.{either_way, first_true}
pub use Rattle.osdp_controller.specs.Held.{on_its_way}
pub use Rattle.osdp_controller.specs.States.{is_closed, is_idle, moment_of}
pub use Rattle.osdp_controller_laws.specs.Commands.{accepted, accepted_by, asked, asked_by, asked_in, command_of, CommandsByPlace, GoesOn, IsAnswered, IsGivenUp, left, tells_end, TellsEnds, told, told_command, withdrawn, withdrawn_by}
pub use Rattle.osdp_controller.specs.Exchanges.{exchange_command, submitted_command}
pub use Rattle.osdp_controller.specs.declared.fault.ControllerFault.{ControllerFault}
pub use Rattle.osdp_msg.specs.CommandTable.{command_code, command_data, CommandFits}
pub use Rattle.osdp_msg_laws.proofs.CommandLaws.{command_laws}
pub use Rattle.osdp_controller_laws.specs.Calls.{BeginsWithFrame, ComesDue, IsInRange, KeepsSettings, latest, longest_wait, SendsPackets, StaysInRange, told_address, WaitsUntilDue}
pub use Rattle.osdp_msg.specs.declared.reply.Reply.TheVariants.{Ack, Busy, Nak, PdId as PdIdReply}
pub use Rattle.osdp_msg.specs.declared.command.Command.TheVariants.{Poll}
