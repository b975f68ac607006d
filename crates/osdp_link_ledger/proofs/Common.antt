-- The names that most proofs of this crate cite, passed on from one place. Declares nothing.
pub use Rattle.std.proofs.Common.{[], All, ap, append_assoc, arith, Bool, cond, Contains, drop, eqb, Err, false, filter, flat_map, inl, inr, is_some, leb, length, List, ltb, map, None, not, Ok, Option, refl, Result, Some, subst, suc, sym, take, true, zero, ℕ, ◌++◌, ◌+◌, ◌<◌, ◌==◌, ◌∙◌, ◌∷◌, ◌≡◌, ◌≢◌, ◌≤◌, ◌⊎◌}
pub use Rattle.std.proofs.lemmas.List.{append-nil, length-append, length-map, map-append, nil_from_length}
pub use Rattle.std.specs.Prelude.{option_to_list, slice_index}
pub use Rattle.std.proofs.lemmas.List.Elements.{All-head}
pub use Rattle.osdp_frame.specs.Packet.{next_sequence, Packet}
pub use Rattle.osdp_msg.specs.declared.command.Command.{Command}
pub use Rattle.osdp_msg.specs.declared.event.Event.{Event}
pub use Rattle.osdp_msg.specs.declared.fault.MsgFault.{MsgFault}
pub use Rattle.osdp_controller.proofs.Idling.{idle_way}
pub use Rattle.osdp_controller.specs.Ticking.{begins, gives_up, sends_frame, stays, Ticked, ticks, ticks_in, tries_again}
pub use Rattle.osdp_controller.specs.declared.fault.ControllerFault.{ControllerFault}
pub use Rattle.osdp_reader.specs.Queue.{event_for, in_doubt, lacks_room, lapsed, never_offered, offering, Queue as EventQueue, released, unoffered, withdrawn}
pub use Rattle.osdp_reader.specs.Table.{answer_to, answered, begun, command_in, event_or_answer, hears, kind_of, moved, new_address, outcome, taken}
pub use Rattle.osdp_reader.specs.declared.handler.Answer.{Answer}
pub use Rattle.osdp_reader.specs.declared.kind.Kind.{Kind}
pub use Rattle.osdp_ledger.specs.History.{AreAllowed, End, ends_at_restart, Forgotten, GivenBack, History, InDoubt, new_history, runs, Settled, steps_on}
pub use Rattle.osdp_ledger.specs.Ledger.{Act, acted_on, after, Card, Close, Doubt, is_in_front, Lapse, late_after, late_at_restart, Leave, Ledger, May, MayFollow, new_ledger, NoOffer, Offer, Offers, Open, Order, panel_restarted, Report as Reports, Reported, RestartDevice, RestartPanel, Settle, Step, Unreported}
pub use Rattle.osdp_ledger.proofs.Events.{at_first, keeps}
pub use Rattle.osdp_ledger.proofs.InTurn.{allowed_both, runs_then}
pub use Rattle.osdp_ledger.proofs.Waiting.{Beyond, Events, IsUpTo, OfferIs, Rising, filter_front}
pub use Rattle.osdp_link_laws.specs.Beginning.{Begins, MaySubmit, MoveFits, MovesFit}
pub use Rattle.osdp_link_laws.specs.Link.{after_move, Delivered, Delivery, LapseEvent, Link, LoseToController, LoseToReader, Lost, lost_at, Move, outstanding_command, Queue as QueueEvent, Reopen, Repeated, RestartController, RestartReader, Retarget, run, SetBusy, SetHandler, Submit, Tick, ToController, ToReader, Withdraw, WithdrawEvent}
pub use Rattle.osdp_link_laws.specs.Peers.{ReadEachOther}
pub use Rattle.osdp_link_laws.specs.Reports.{all_taken, command_taken, nothing_told, reports, taken_as, taken_by, taken_by_front, taken_in, Told, told_by, told_by_front, with_report, with_reports}
pub use Rattle.osdp_link_laws.specs.Sessions.{accepted, all_queued, all_submitted, queued, submitted, unless_full}
pub use Rattle.osdp_link_laws.proofs.InARow.{assumed, Assumed, begins_so, standing_so, Stands, StandsThen}
pub use Rattle.osdp_link_laws.proofs.Coming.{BeginsFrom, Due, due_at, HearsTo, IsSent, MovesTo, Reads, ReadsFront, ReadsTo, ReopensTo, reported_in, settled_in, standing_at, stands, Stays, stood, TicksTo}
pub use Rattle.osdp_link_laws.proofs.Stages.{After, answer, Before, Behind, ControllerAt, Each, Fresh, HasActed, IsAsked, IsStage, Knows, Level, Never, Now, number_after, owed, owed_at, pending, pending_at, ReaderAt, Rest, Restarted, shown, Stage, Start, unreported_at, Waits}
pub use Rattle.osdp_link_ledger.specs.Acted.{acted_by, acted_in, all_acted, all_done, done_by_front, done_in, EachTakenIsAnswered}
pub use Rattle.osdp_link_ledger.specs.Telling.{acted_in_history, doubted_as, LedgerTellsMoves, told_in_history, without_place}
pub use Rattle.osdp_link_ledger.specs.Steps.{acts, acts_at_zero, acts_on, after_steps, all_steps, card_at, gets, gives_up as gives_up_event, lapses_event, leaves, leaves_and_acts, leaving, leaving as leaving_events, offered_at, offers, opens, order_acted, order_at, queued_before, queues, steps_before, steps_from, steps_of, submits, submitted_before, ticked, to_reader, told, withdraws, withdraws_event}
pub use Rattle.osdp_msg.specs.declared.reply.Reply.{Reply}
pub use Rattle.osdp_controller.specs.declared.state.State.{State}
pub use Rattle.osdp_controller.specs.declared.state.State.TheVariants.{Closed, Idle, Pausing, Quiet, Waiting}
pub use Rattle.osdp_link_laws.proofs.Telling.{alike, asked, IsAlike, IsTold}
pub use Rattle.osdp_link_laws.proofs.Numbers.{is_false, is_true, next_differs}
pub use Rattle.osdp_link_ledger.specs.Laws.{HasNumber, HoldsByLedger, is_under_way, IsLedgerOf, LinkKeepsLedger, unreported_in}
pub use Rattle.osdp_msg.specs.Events.{event_in, event_reply}
pub use Rattle.osdp_msg.specs.declared.command.Command.TheVariants.{Cap, Id, Poll}
pub use Rattle.osdp_controller.specs.declared.report.Report.{Report}
pub use Rattle.osdp_reader.specs.Replies.{reply_packet}
pub use Rattle.osdp_reader.specs.State.{ReaderState}
pub use Rattle.osdp_link_laws.proofs.Lines.{both, each_all, each_append, each_map, each_of}
pub use Rattle.osdp_controller.specs.Exchanges.{exchange_command, submitted_command}
pub use Rattle.osdp_controller.specs.declared.config.ControllerConfig.{ControllerConfig}
pub use Rattle.osdp_controller.specs.declared.exchange.Exchange.{Exchange}
pub use Rattle.osdp_controller.specs.declared.session.Session.{Session}
pub use Rattle.osdp_controller.specs.declared.exchange.Exchange.TheVariants.{Asking, Opening, Polling}
pub use Rattle.osdp_link_laws.proofs.Acting.{leaves_shown, no_event}
pub use Rattle.osdp_link_laws.proofs.Deliveries.{all_read, IsRead}
pub use Rattle.osdp_link_laws.proofs.Moves.{Premises}
pub use Rattle.osdp_controller.specs.Answers.{meaning_of}
pub use Rattle.osdp_controller.specs.declared.meaning.ReplyMeaning.TheVariants.{NotTaken, NumberRefused, Plain}
pub use Rattle.osdp_link_laws.proofs.Parts.{At}
