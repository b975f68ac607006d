-- The names that most proofs of this crate cite, passed on from one place. Declares nothing.
pub use Rattle.std.proofs.Common.{[], All, ap, append_assoc, arith, Bool, cond, eqb, Err, false, IfSome, inl, inr, leb, length, List, ltb, None, Ok, Option, refl, Result, Some, subst, suc, sym, true, zero, ℕ, ◌++◌, ◌+◌, ◌<◌, ◌∙◌, ◌∷◌, ◌≡◌, ◌≢◌, ◌≤◌, ◌⊎◌}
pub use Rattle.std.proofs.lemmas.Bool.{leb-false, ltb-true}
pub use Rattle.std.specs.Prelude.{is_some, map, nat_le, not, option_map, option_to_list, ◌&&◌, ◌==◌, ◌||◌}
pub use Rattle.std.proofs.lemmas.Bool.Decides.{eqb_tells, leb_tells}
pub use Rattle.std.proofs.lemmas.List.{append-nil}
pub use Rattle.osdp_frame.specs.Packet.{next_sequence, Packet}
pub use Rattle.osdp_msg.specs.CommandTable.{CommandFits}
pub use Rattle.osdp_msg.specs.declared.command.Command.{Command}
pub use Rattle.osdp_controller.specs.declared.state.State.TheVariants.{Closed, Idle, Pausing, Quiet, Waiting}
pub use Rattle.osdp_link_laws.specs.Link.{after_move, Delivered, Delivery, Link, Lost, lost_at, Move, outstanding_command, Repeated}
pub use Rattle.osdp_link_laws.proofs.Lines.{both, each_all, each_append, each_front, each_map, each_of, each_rest}
pub use Rattle.osdp_link_laws.proofs.Stages.{Each}
pub use Rattle.osdp_shared_line.specs.Addresses.{address_in, AreApart, HasNoOther, in_front, IsAsked, IsFreeFor, IsInOrder, IsNameOf, IsSaid, IsSetUp, IsThere, MayComeTo, NetMoveFits, NetMovesFit, NobodyElseHears, NoTwoAreTogether, Sets, SetsReader, Somewhere, unended}
pub use Rattle.osdp_shared_line.specs.Line.{address_of, after_net, calls, changed, first_gets, gets, is_command_accepted, is_comset_refused, is_reserved, is_retarget_accepted, is_retarget_refused, is_taken, is_taken_beside, is_told, left_by, link_of, LoseToPanel, LoseToReader, Net, NetMove, Queue, Reopen, RestartPanel, RestartReader, restarts, Retarget, run, SetBusy, SetHandler, Site, site_at, Submit, tagged, takes_up, Tick, ToPanel, ToReader, Withdraw, LapseEvent, WithdrawEvent}
pub use Rattle.osdp_msg.specs.declared.limits.Room.{Room}
pub use Rattle.osdp_msg.specs.declared.command_fields.Communication.{Communication}
pub use Rattle.osdp_msg.specs.declared.event.Event.{Event}
pub use Rattle.osdp_controller.specs.Comsets.{has_comset}
pub use Rattle.osdp_controller.specs.Exchanges.{submitted_command}
pub use Rattle.osdp_controller.specs.Hearing.{answered, answered_unread, com_of, command_answered, comset_of, Heard, hears, hears_busy, hears_in, ignores, is_numbered, loses, moved_by, opening_answered, pausing_hears, pd_id_of, waiting_hears}
pub use Rattle.osdp_controller.specs.declared.fault.ControllerFault.{ControllerFault}
pub use Rattle.osdp_controller.specs.declared.state.State.{State}
pub use Rattle.osdp_reader.specs.declared.handler.Answer.{Answer}
pub use Rattle.osdp_link_laws.proofs.Numbers.{is_false, is_true}
pub use Rattle.osdp_shared_line.specs.Views.{EachMoveIsItsOwn, front_to_panel, HeardByOwn, IsMoved, IsQuiet, move_of, one_if, OpensQuietly, other_reply, own, own_front, own_place, own_reply, view}
pub use Rattle.osdp_msg.specs.declared.reply.Reply.{Reply}
pub use Rattle.osdp_msg.specs.declared.reply_fields.PdId.{PdId}
pub use Rattle.osdp_controller.specs.Answers.{meaning_of, meaning_of as said_by}
pub use Rattle.osdp_controller.specs.Sessions.{frame_of, later, seen}
pub use Rattle.osdp_controller.proofs.Idling.{idle_way}
pub use Rattle.osdp_controller.specs.Ticking.{begins, gives_up, sends_frame, stays, Ticked, ticks, ticks_in, tries_again}
pub use Rattle.osdp_controller.specs.declared.exchange.Exchange.{Exchange}
pub use Rattle.osdp_controller.specs.declared.exchange.Exchange.TheVariants.{Asking, Opening, Polling}
pub use Rattle.osdp_controller.specs.declared.exchange.Outstanding.{Outstanding}
pub use Rattle.osdp_controller.specs.declared.meaning.ReplyMeaning.{ReplyMeaning}
pub use Rattle.osdp_controller.specs.declared.meaning.ReplyMeaning.TheVariants.{Damaged, NotTaken, NumberRefused, Plain, Unreadable}
pub use Rattle.osdp_controller.specs.declared.session.Session.{Session}
pub use Rattle.osdp_link_laws.specs.Peers.{ReadsWhatIsAsked}
pub use Rattle.osdp_reader.specs.Table.{command_in, kind_by_number, kind_of, new_address, outcome}
pub use Rattle.osdp_link_laws.specs.Progress.{AreDue, AreLate, ComeOn, ComesThrough, ComesThroughInTime, IsClear, NoComset, round, rounds, SetsNoAddress}
pub use Rattle.osdp_shared_line.specs.Progress.{all_read, AreRounds, ComesOn, EachComesThrough, EachComesThroughInTime, IsEmpty, IsReady, moments_of, net_round, net_rounds, RoundsAreItsOwn, StoresFromThere}
pub use Rattle.osdp_reader.specs.State.{ReaderState}
pub use Rattle.osdp_reader.specs.declared.kind.Kind.{Kind}
pub use Rattle.osdp_shared_line.specs.Restarts.{EachRefusesNoneWithoutRestart, IsOrdinaryOf, KeepsDeviceOf, KeepsReaderOf}
pub use Rattle.osdp_link_laws.specs.Ahead.{ahead}
pub use Rattle.osdp_link_laws.specs.Beginning.{Begins, MaySubmit, MoveFits, MovesFit, SaysWhatFitsIf}
pub use Rattle.osdp_link_laws.specs.Refusals.{IsNoRefusal, KeepsReader, RefusesNoNumber, RefusesNoNumberWithoutRestart}
pub use Rattle.osdp_link_laws.specs.Reports.{reports, told_by, told_in}
pub use Rattle.osdp_shared_line.specs.Runs.{EachIsALink, EachRefusesNoNumber, IsItsLink, moves_at, moves_of, reports_at}
pub use Rattle.osdp_controller.specs.declared.config.ControllerConfig.{ControllerConfig}
pub use Rattle.osdp_reader.specs.Queue.{event_for, lacks_room, offering, released, unoffered}
pub use Rattle.osdp_shared_line.specs.Programs.{all_addresses, also_at, is_opened, IsKnown, KeepRule, KeepsRule, no_notes, Note, note_after, noted_at, noted_opened, noted_panel, notes_after, RestFits, RuleSuffices, two_addresses}
