-- The names that most proofs of this crate cite, passed on from one place. Declares nothing.
pub use Rattle.std.proofs.Common.{[], ap, append-nil, append_assoc, arith, Bool, cond, eqb, Err, false, inl, inr, List, ltb, None, not, Ok, Option, refl, Result, Some, subst, suc, sym, true, ℕ, ◌&&◌, ◌++◌, ◌+◌, ◌-◌, ◌||◌, ◌∙◌, ◌∷◌, ◌≡◌, ◌≢◌, ◌⊎◌}
pub use Rattle.std.proofs.lemmas.Bool.{and_from, and_left, and_parts, and_right, cases_Bool, cond-false, cond-true, cond_both, eq-eqb, eqb-false, eqb-true, false_from_ne_true, false≢true, lt-ltb, ne_eqb, not-false, not-true, not_from_false, not_from_true, or_cases, or_from, or_left, or_parts, or_right}
pub use Rattle.std.proofs.lemmas.List.Elements.{All-cons, All-head, All-nil, All-tail}
pub use Rattle.std.specs.Prelude.{IfSome, is_some, nat_le, nat_lt, option_to_list}
pub use Rattle.osdp_frame.specs.Packet.{next_sequence, Packet}
pub use Rattle.osdp_frame.specs.Reading.{PacketItem, RefusedItem, RunItem, SkippedItem, smallest}
pub use Rattle.osdp_msg.specs.declared.command.Command.{Command}
pub use Rattle.osdp_msg.specs.declared.fault.MsgFault.{MsgFault}
pub use Rattle.osdp_msg.specs.declared.reply.Reply.{Reply}
pub use Rattle.osdp_monitor.specs.declared.accusation.Accusation.{Accusation}
pub use Rattle.osdp_monitor.specs.declared.accusation.Accusation.TheVariants.{AnotherCheck, AnotherNumber, AnotherPacket, AnotherReply, BusyToRepeat, EventAtZero, NotAnswered, RefusedZero, SecondReply, SentOutOfTurn, TakenOutOfTurn, UnfitReply, UnreadReply}
pub use Rattle.osdp_monitor.specs.declared.found.Found.{Found}
pub use Rattle.osdp_monitor.specs.declared.found.Notice.TheVariants.{Late, Moved, Opened, Restarted, Unanswered, Unsure}
pub use Rattle.osdp_monitor.specs.declared.said.Said.{Said}
pub use Rattle.osdp_monitor.specs.declared.said.Said.TheVariants.{Answer, Busy, Damage, Refusal}
pub use Rattle.osdp_monitor.specs.Known.{is_number, Known, nothing_known}
pub use Rattle.osdp_monitor.specs.Panel.{after_another, after_copy, after_sent, before_row, is_doubt, is_first_doubt, is_in_row, is_missed, is_waiting, keeps_number, left_waiting, panel_accused, sent_after}
pub use Rattle.osdp_monitor.specs.Reader.{after_answer, after_other, after_own, after_reply, after_reply_of, answer_accused, fit_accused, has_earlier_number, has_no_number, is_busy_of_either, is_doubtful, is_event_at_zero, is_late, is_nak, is_of_either, is_one_more, is_opening, is_owed, is_owed_number, is_plain, is_stray, is_unheard, reader_accused, reading_accused, repeat_reply, reply_accused, taken_accused, tells_number, turn_accused}
pub use Rattle.osdp_monitor.specs.Saying.{asked, is_answer, is_damage, is_foreign, is_refusal, reply_told, said, said_by}
pub use Rattle.osdp_rules.proofs.Comparing.{check_same, is_packet, packet_is}
pub use Rattle.osdp_monitor_laws.specs.Misses.{Each, IsCopyOrReply, IsFrom, IsRemembered, IsTo, LeavesUnanswered, MissesNoOtherPacket, MissesNoOtherReply, MissesNoUnanswered, NothingForgotten, OfAddress, RefusesNothing, SaysOther, suspicion, TakesNothing}
pub use Rattle.osdp_rules.specs.Packets.{same_check, same_packet}
pub use Rattle.osdp_frame.specs.declared.check_kind.CheckKind.TheVariants.{Crc, Sum}
pub use Rattle.osdp_monitor.specs.Line.{after_answered, after_items, after_packet, after_reply_if, devices_after_reply, devices_after_sent, found_in, found_in_reply, found_in_sent, Knowledge, known_at, late_notice, moves_to, no_knowledge, nothing_found, notice_if, notice_in_sent, reply_notice}
pub use Rattle.osdp_monitor_laws.specs.PanelLine.{ADeviceAlone, Both, ListenerAlone, Nobody, PanelAlone, Reaches, Reads, TheListener}
pub use Rattle.osdp_frame.specs.declared.check_kind.CheckKind.{CheckKind}
pub use Rattle.osdp_msg.specs.Fitting.{reply_fits}
pub use Rattle.osdp_msg.specs.declared.command.Command.TheVariants.{Poll}
pub use Rattle.osdp_monitor_laws.specs.Names.{Breaks, Exchange, FitsNumber, Happens, IsEvent, IsInTurn, IsTaken, items_of, MissesNoPacketOutOfTurn, NamesReaders, NamesSecondReplies}
pub use Rattle.osdp_controller.specs.Answers.{is_not_taken, meaning_by_reading, meaning_by_reason, meaning_by_reply, meaning_of}
pub use Rattle.osdp_msg.specs.declared.nak.NakReason.TheVariants.{CheckCharacters, UnexpectedSequence}
pub use Rattle.osdp_reader.specs.declared.handler.Answer.{Answer as AnswerOfHandler}
pub use Rattle.osdp_reader.specs.Queue.{event_for, offering, released, unoffered}
pub use Rattle.osdp_reader.specs.Replies.{refused, reply_packet, unread_reason}
pub use Rattle.osdp_reader.specs.Table.{answer_to, begun, command_in, event_or_answer, hears, is_for_another, kind_by_number, kind_of, moved, new_address, outcome, Outcome, taken}
pub use Rattle.osdp_msg.specs.ReplyTable.{IsReply, reply_code, reply_data, reply_of, ReplyFits}
pub use Rattle.osdp_reader.specs.State.{new_reader, ReaderState}
pub use Rattle.osdp_monitor_laws.specs.AnyReader.{Acts, AnyReader, FindsDamage, Goes, IsBusy, IsSilent, Refuses, Repeats, Way}
pub use Rattle.osdp_monitor_laws.specs.ReaderLine.{accused_in}
pub use Rattle.osdp_monitor_laws.specs.LateReader.{answers, has_number, Owed, owed_of}
pub use Rattle.osdp_monitor_laws.specs.Late.{HasItsNumber, IsCopyOrOther, IsNone, LeavesStrayBusy, TellsLateAnswers}
pub use Rattle.osdp_controller.specs.declared.config.ControllerConfig.{ControllerConfig}
pub use Rattle.osdp_controller.specs.declared.session.Session.{Session}
pub use Rattle.osdp_controller.specs.declared.state.State.{State}
pub use Rattle.osdp_controller.specs.declared.state.State.TheVariants.{Closed, Idle, Pausing, Quiet, Waiting}
pub use Rattle.osdp_controller.specs.Sessions.{later, seen}
pub use Rattle.osdp_reader.specs.declared.kind.Kind.TheVariants.{Silent}
