-- The names that most proofs of this crate cite, passed on from one place. Declares nothing.
pub use Rattle.std.proofs.Common.{[], All, ap, arith, Bool, cond, drop, eqb, Err, false, inl, inr, leb, length, List, ltb, map, max, None, not, Ok, Option, refl, Result, Some, subst, suc, sym, take, true, zero, ℕ, ◌++◌, ◌+◌, ◌-◌, ◌<◌, ◌∙◌, ◌∷◌, ◌≡◌, ◌≢◌, ◌≤◌, ◌⊎◌}
pub use Rattle.std.proofs.lemmas.List.{append-nil, length-append, length-take}
pub use Rattle.std.specs.Prelude.{IfSome, is_some, min, option_to_list, ◌&&◌, ◌==◌, ◌||◌}
pub use Rattle.std.proofs.lemmas.Bool.Decides.{eqb_tells, leb_tells}
pub use Rattle.std.proofs.lemmas.Bool.{and_from, le-leb, le-ltb, leb-false, leb-true, lt-ltb, ltb-true}
pub use Rattle.std.proofs.Math.Nat.{min-le_left, min-le_right}
pub use Rattle.osdp_frame.specs.Packet.{next_sequence, Packet}
pub use Rattle.osdp_msg.specs.Events.{event_in, event_reply}
pub use Rattle.osdp_msg.specs.declared.command.Command.{Command}
pub use Rattle.osdp_msg.specs.declared.event.Event.{Event}
pub use Rattle.osdp_msg.specs.declared.fault.MsgFault.{MsgFault}
pub use Rattle.osdp_msg.specs.declared.reply.Reply.{Reply}
pub use Rattle.osdp_controller.specs.Exchanges.{exchange_body, exchange_command, is_order, submitted_command}
pub use Rattle.osdp_controller.specs.Sessions.{at_rest, frame_of, is_poll_next, later, later as later_by, lost, new_session, seen}
pub use Rattle.osdp_controller.specs.Ticking.{begins, gives_up, sends_frame, stays, Ticked, ticks, ticks_in, tries_again}
pub use Rattle.osdp_controller.proofs.Idling.{asks_front, idle_way, polls_alone}
pub use Rattle.osdp_controller.specs.declared.config.ControllerConfig.{ControllerConfig}
pub use Rattle.osdp_controller.specs.declared.exchange.Exchange.{Exchange}
pub use Rattle.osdp_controller.specs.declared.exchange.Exchange.TheVariants.{Asking, Opening, Polling}
pub use Rattle.osdp_controller.specs.declared.fault.ControllerFault.{ControllerFault}
pub use Rattle.osdp_controller.specs.declared.session.Session.{Session}
pub use Rattle.osdp_controller.specs.declared.state.State.{State}
pub use Rattle.osdp_controller.specs.declared.state.State.TheVariants.{Closed, Idle, Pausing, Quiet, Waiting}
pub use Rattle.osdp_reader.specs.Queue.{bytes_waiting, event_for, event_size, has_room, lacks_room, offering, Queue, Queue as EventQueue, released, unoffered, withdrawn}
pub use Rattle.osdp_reader.specs.State.{after_lapse_event, after_set_handler, after_submit, after_withdraw_event, new_reader, ReaderState}
pub use Rattle.osdp_reader.specs.Table.{answer_to, begun, command_in, event_or_answer, is_for_another, kind_by_number, kind_of, moved, new_address, outcome, Outcome, taken}
pub use Rattle.osdp_reader.specs.declared.handler.Answer.{Answer, Answer as HandlerAnswer}
pub use Rattle.osdp_reader.specs.declared.kind.Kind.{Kind}
pub use Rattle.osdp_link_laws.specs.Beginning.{Begins, MaySubmit, MoveFits, MovesFit, SaysWhatFits, SaysWhatFitsIf}
pub use Rattle.osdp_link_laws.specs.Link.{after_move, Delivered, Delivery, LapseEvent, Link, LoseToController, LoseToReader, Lost, lost_at, Move, outstanding_command, Queue as QueueEvent, Reopen, Repeated, RestartController, RestartReader, Retarget, run, SetBusy, SetHandler, Submit, Tick, ToController, ToReader, Withdraw, WithdrawEvent}
pub use Rattle.osdp_link_laws.specs.Refusals.{IsNoRefusal, IsOtherCause, KeepsReader, RefusesNoNumber, RefusesNoNumberWithoutRestart, SaysAllPlainly}
pub use Rattle.osdp_link_laws.specs.Ahead.{ahead, count_ahead}
pub use Rattle.osdp_link_laws.specs.Reports.{all_taken, nothing_told, reports, Told, told_by, told_by_front, told_in, with_reports}
pub use Rattle.osdp_link_laws.specs.Sessions.{accepted, all_begun, all_queued, all_submitted, queued, restarts_after, restarts_in_session, submitted, unless_full}
pub use Rattle.osdp_controller.specs.declared.report.Report.{Report}
pub use Rattle.osdp_reader.specs.declared.config.ReaderConfig.{ReaderConfig}
pub use Rattle.osdp_reader.specs.declared.kind.Kind.TheVariants.{Busy, Repeat, Secured, Silent, Taken, Wrong, Zero}
pub use Rattle.osdp_msg.specs.CommandTable.{command_code, command_data, command_of, CommandFits, IsCommand}
pub use Rattle.osdp_msg.specs.declared.command_fields.Communication.{Communication}
pub use Rattle.osdp_msg.specs.declared.reply_fields.PdId.{PdId}
pub use Rattle.osdp_controller.specs.Answers.{meaning_by_reading, meaning_by_reply, meaning_of, meaning_of as said_by}
pub use Rattle.osdp_controller.specs.Hearing.{answered, answered_unread, com_of, command_answered, comset_of, Heard, hears, hears_busy, hears_in, ignores, is_ack, is_from_reader, is_numbered, loses, moved_by, opening_answered, pausing_hears, pd_id_of, poll_told, rests, waiting_hears}
pub use Rattle.osdp_controller.specs.declared.meaning.ReplyMeaning.{ReplyMeaning}
pub use Rattle.osdp_controller.specs.declared.meaning.ReplyMeaning.TheVariants.{Damaged, NotTaken, NumberRefused, Plain, Unreadable}
pub use Rattle.osdp_controller.specs.declared.exchange.Outstanding.{Outstanding}
pub use Rattle.osdp_controller.specs.declared.report.LostCause.TheVariants.{NoReply, TooBusy}
pub use Rattle.osdp_link_laws.specs.Peers.{IsPlainlySaid, ReadEachOther, ReadsWhatIsAsked, TellsItsEvent}
pub use Rattle.osdp_link_laws.specs.Progress.{AreDue, AreLate, ComeOn, ComesThrough, ComesThroughFromRest, ComesThroughInTime, ComesToRest, HearsOn, IsClear, round, rounds, SetsNoAddress}
pub use Rattle.osdp_link_laws.specs.Addresses.{SetsNoOther, StayWhereTheyAre}
pub use Rattle.osdp_msg.specs.ReplyTable.{IsReply, reply_code, reply_data, reply_of, ReplyFits}
pub use Rattle.osdp_reader.specs.Replies.{not_processed, refused, reply_packet}
pub use Rattle.osdp_msg.specs.declared.nak.NakReason.TheVariants.{UnexpectedSequence}
pub use Rattle.osdp_reader_laws.specs.Laws.{AnswersPlainly, ComesTo, IsPlain}
pub use Rattle.osdp_link_laws.specs.Asked.{AtEach, EachIsAsked, HasItsHandler, LeavingIsExact, LosesNoneWithin, RestartsNoController, RestartsNoReader, SetsNoHandler, SetsOnly, TakesNothingBack}
pub use Rattle.osdp_link_laws.specs.Lapses.{DifferByLapse, IsNotZeroIf, lapses, LapsesAreUnheard, Offers, StayInSession, StaysInSession}
pub use Rattle.osdp_link_laws.specs.OneHandler.{KeepHandler, KeepsDevice, KeepsHandler, with_answers}
pub use Rattle.osdp_link_laws.specs.Ordinary.{IsOrdinary, IsSteady}
pub use Rattle.osdp_controller.specs.Machine.{acts, after_begin, after_retarget, AreSettings, begin_refusal, changed_unless, Machine, or_no_device, refused_unless_closed, retarget_refusal, submit_refusal}
pub use Rattle.osdp_controller.specs.States.{is_closed, moment_of}
pub use Rattle.osdp_msg.specs.declared.limits.Room.{Room}
pub use Rattle.osdp_link_laws.specs.Effects.{AnswersBy, CountsRestarts, EachMoveDoes, HasAddress, HasHandler, HasNewController, HasNewReader, LapsesEvents, LosesOne, RefusesNumbers, restarts_in, Retargets, Withdraws, WithdrawsEvents}
pub use Rattle.osdp_controller.specs.declared.fault.ControllerFault.TheVariants.{NotClosed, OutOfRange}
pub use Rattle.osdp_controller_laws.proofs.Closed.{silent_frame, silent_tick, was_closed}
pub use Rattle.osdp_frame.specs.Packed.{packed}
pub use Rattle.osdp_link_laws.specs.Names.{IsCommandTo, IsNoDevice, IsReplyFrom, IsToldAsAsked, NameOneDevice, NamesOne, TellAsAsked}
