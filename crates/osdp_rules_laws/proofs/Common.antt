-- The names that most proofs of this crate cite, passed on from one place. Declares nothing.
pub use Rattle.std.proofs.Common.{[], ap, Bool, cond, eqb, Err, false, inl, inr, length, List, nat_le, nat_lt, None, not, Ok, Option, refl, Result, Some, subst, suc, sym, true, ℕ, ◌&&◌, ◌||◌, ◌∙◌, ◌∷◌, ◌≡◌, ◌≢◌, ◌⊎◌}
pub use Rattle.std.specs.Prelude.{IfSome, slice_get}
pub use Rattle.std.proofs.lemmas.Bool.{and_left, and_right, cond-false, cond-true, cond_both, eq-eqb, eqb-true, false_from_ne_true, false≢true, ne_eqb, or_left, or_right}
pub use Rattle.osdp_frame.specs.Packet.{next_sequence, Packet}
pub use Rattle.osdp_msg.specs.ReplyTable.{IsReply, reply_code, reply_data, reply_of, ReplyFits}
pub use Rattle.osdp_msg.specs.declared.command.Command.{Command}
pub use Rattle.osdp_reader.specs.declared.handler.Answer.{Answer}
pub use Rattle.osdp_reader.specs.State.{ReaderState}
pub use Rattle.osdp_reader.specs.Table.{answer_to, begun, command_in, event_or_answer, hears, kind_by_number, kind_of, outcome, Outcome, taken}
pub use Rattle.osdp_rules.specs.Judging.{answer_judged, judged, sent_judged, turn_judged}
pub use Rattle.osdp_rules.specs.Known.{after_answer, after_heard, after_sent, known_after, last_number, turn_of}
pub use Rattle.osdp_rules.specs.declared.aspect.Aspect.{Aspect}
pub use Rattle.osdp_rules.specs.declared.known.Known.{Known}
pub use Rattle.osdp_rules.specs.declared.known.Known.TheVariants.{Gone, Opened, Took, Unknown}
pub use Rattle.osdp_rules_laws.specs.Laws.{AnyRefusalIsOne, DevicesMayDiffer, MayBeBusy, OtherCodesBreakNothing}
pub use Rattle.osdp_rules_laws.specs.Runs.{AnswerIsLost, Comes, Exchange, Follows, heard_by, heard_in, IsStill, PacketIsLost, reader_after, reader_by, Way}
pub use Rattle.osdp_msg.specs.declared.event.Event.{Event}
pub use Rattle.osdp_msg.specs.declared.fault.MsgFault.{MsgFault}
pub use Rattle.osdp_msg.specs.declared.nak.NakReason.{NakReason}
pub use Rattle.osdp_msg.specs.declared.nak.NakReason.TheVariants.{CommandLength, RecordNotProcessed, SecurityBlock, UnexpectedSequence, UnknownCommand}
pub use Rattle.osdp_msg.specs.declared.reply.Reply.{Reply}
pub use Rattle.osdp_reader.specs.declared.config.ReaderConfig.{ReaderConfig}
pub use Rattle.osdp_reader.specs.declared.kind.Kind.{Kind}
pub use Rattle.osdp_reader.specs.declared.kind.Kind.TheVariants.{Busy, Repeat, Secured, Silent, Taken, Wrong, Zero}
pub use Rattle.osdp_reader.specs.Queue.{event_for, released}
pub use Rattle.osdp_reader.specs.Replies.{done_reply, list_reply, local_reply, maker_reply, not_processed, own_reply, refusal_reply, refused, reply_for, reply_packet, unread_reason}
pub use Rattle.osdp_rules.specs.Packets.{asked, code_of, has_reason, is_busy, is_comset, is_nak, is_to, same_check, same_packet, takes_nothing, told}
pub use Rattle.osdp_rules.specs.declared.finding.Finding.TheVariants.{Broken, Either, Kept, Nothing}
pub use Rattle.osdp_rules.specs.Findings.{address_finding, again_finding, block_finding, code_finding, fit_finding, fit_read, kept_if, length_finding, must_have, new_finding, number_finding, quiet_finding, read_finding, refusal_finding, repeat_finding, served_finding, taken_finding, turned_away, wrong_finding}
pub use Rattle.osdp_rules.specs.declared.known.Turn.{Turn}
pub use Rattle.osdp_rules.specs.declared.known.Turn.TheVariants.{Again, New, NobodyKnows, Out}
pub use Rattle.osdp_rules.proofs.Comparing.{check_same, is_packet, packet_is}
pub use Rattle.osdp_msg.specs.declared.fault.MsgFault.TheVariants.{Count, Length, UnknownCode}
