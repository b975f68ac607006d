-- The names that most proofs of this crate cite, passed on from one place. Declares nothing.
pub use Rattle.std.proofs.Common.{[], ap, arith, Bool, cond, drop, eqb, Err, false, inl, inr, leb, length, length-append, length-drop, length-take, List, ltb, nat_le, None, not, Ok, Option, refl, Result, rules, Some, subst, suc, sym, take, true, zero, ℕ, ◌&&◌, ◌*◌, ◌++◌, ◌+◌, ◌-◌, ◌∙◌, ◌∷◌, ◌≡◌, ◌≢◌, ◌≤◌, ◌⊎◌}
pub use Rattle.std.proofs.lemmas.Bool.{false≢true, le-leb, leb-true, ltb-true}
pub use Rattle.std.specs.Prelude.{nat_lt, slice_get}
pub use Rattle.osdp_frame.specs.Packet.{next_sequence, Packet}
pub use Rattle.osdp_msg.specs.declared.command.Command.{Command}
pub use Rattle.osdp_msg.specs.declared.event.Event.{Event}
pub use Rattle.osdp_msg.specs.declared.fault.MsgFault.{MsgFault}
pub use Rattle.osdp_msg.specs.declared.reply.Reply.{Reply}
pub use Rattle.osdp_msg.specs.Events.{event_in, event_reply, EventFits}
pub use Rattle.osdp_reader.specs.declared.config.ReaderConfig.{ReaderConfig}
pub use Rattle.osdp_reader.specs.declared.handler.Answer.{Answer}
pub use Rattle.osdp_reader.specs.declared.kind.Kind.{Kind}
pub use Rattle.osdp_reader.specs.declared.kind.Kind.TheVariants.{Busy, Repeat, Secured, Silent, Taken, Wrong, Zero}
pub use Rattle.osdp_reader.specs.Queue.{bytes_waiting, event_for, event_size, has_room, in_doubt, never_offered, offering, Queue, released, unoffered}
pub use Rattle.osdp_reader.specs.Replies.{done_reply, list_reply, local_reply, maker_reply, not_processed, own_reply, refusal_reply, refused, reply_for, reply_packet, unread_reason}
pub use Rattle.osdp_reader.specs.State.{after_lapse_event, after_set_handler, after_submit, after_withdraw_event, new_reader, ReaderState}
pub use Rattle.osdp_reader.specs.Table.{answer_to, answered, begun, command_in, event_or_answer, hears, is_for_another, kind_by_number, kind_of, moved, new_address, outcome, Outcome, taken}
pub use Rattle.osdp_reader_laws.specs.Laws.{AnswersTheSameAgain, AnswersTheSameStill, ComesTo, DiffersByHandler, HasDeviceAddress, HasRoom, IsPlain, KeepsReply, KeepsWhatItTook, TellsItsOffer}
pub use Rattle.osdp_msg.specs.declared.limits.Room.{Room}
pub use Rattle.osdp_reader_laws.specs.Runs.{after_call, after_calls, HasNone, Hear, IsTold, LapseEvent, ReaderCall, SetBusy, SetHandler, SubmitEvent, SubmitsNone, Tells, WithdrawEvent}
