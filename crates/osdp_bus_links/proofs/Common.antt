-- The names that most proofs of this crate cite, passed on from one place. Declares nothing.
pub use Rattle.std.proofs.Common.{[], All, ap, append_assoc, arith, Bool, cond, drop, eqb, Err, false, IfSome, if◌then◌else◌, inl, inr, leb, List, ltb, map, max, None, not, Ok, Option, refl, Result, Some, subst, suc, sym, take, true, zero, ℕ, ◌++◌, ◌+◌, ◌<◌, ◌==◌, ◌||◌, ◌∙◌, ◌∷◌, ◌≡◌, ◌≢◌, ◌⊎◌}
pub use Rattle.std.proofs.lemmas.Bool.Decides.{eqb_tells}
pub use Rattle.std.proofs.lemmas.List.{append-nil}
pub use Rattle.std.specs.Prelude.{is_some, option_to_list, slice_get, slice_set}
pub use Rattle.std.proofs.lemmas.Bool.{leb-true, ltb-true}
pub use Rattle.osdp_frame.specs.Packet.{next_sequence, Packet}
pub use Rattle.osdp_controller_laws.proofs.Closed.{silent_frame, silent_tick, was_closed}
pub use Rattle.osdp_bus.specs.Entries.{first_from, freed_with, is_at, is_taken_beside, reserved_after, reserved_for}
pub use Rattle.osdp_bus.specs.Hearing.{after_silence, ends_run, ends_silent, hears_at, hears_bytes, hears_items, hears_packet, hears_with}
pub use Rattle.osdp_bus.proofs.Waiting.{nothing_ends, nothing_silent}
pub use Rattle.osdp_link_laws.specs.Peers.{IsPlainlySaid, ReadEachOther, ReadsWhatIsAnswered, ReadsWhatIsAsked}
pub use Rattle.osdp_link_laws.proofs.Lines.{both, each_append, each_map, each_of, each_rest}
pub use Rattle.osdp_link_laws.proofs.Reports.{heard_so, MayBring, tick_so}
pub use Rattle.osdp_shared_line.specs.Line.{address_of, after_net, asked_for, changed, first_gets, freed_by, freed_for, gets, is_comset_refused, is_told, keeping, left_by, link_of, Net, NetMove, Queue, Reopen, reserved_unless, run, SetBusy, Site, site_at, Submit, submits, tagged, Tick, ToPanel, ToReader}
pub use Rattle.osdp_bus_links.specs.Links.{BeginsAsAMove, device_of, due_by, heard, HearsAsAMove, IsBusOf, IsHeard, IsNoRefusalOf, IsSubmitted, IsTold, one_ticks, packets_on, report_for, SubmitsAsAMove, told_by_first, told_by_one, told_by_tick, TellsEach, TellsFrom, TicksAsAMove, who_ticks}
pub use Rattle.osdp_msg.specs.declared.command.Command.{Command}
pub use Rattle.osdp_msg.specs.declared.command_fields.Communication.{Communication}
pub use Rattle.osdp_controller.specs.Exchanges.{submitted_command}
pub use Rattle.osdp_controller.specs.Hearing.{answered, answered_unread, com_of, command_answered, comset_of, Heard, hears, hears_busy, hears_in, ignores, is_ack, is_numbered, loses, moved_by, opening_answered, pausing_hears, pd_id_of, poll_told, waiting_hears}
pub use Rattle.osdp_controller.specs.declared.fault.ControllerFault.{ControllerFault}
pub use Rattle.osdp_reader.specs.declared.handler.Answer.{Answer}
pub use Rattle.osdp_bus.specs.Machine.{after_begin_at, after_next_report, after_submit_at, begin_refusal_at, begin_refusal_of, bus_fault, submit_refusal_at, submit_refusal_of}
pub use Rattle.osdp_msg.specs.CommandTable.{CommandFits}
pub use Rattle.osdp_msg.specs.declared.event.Event.{Event}
pub use Rattle.osdp_msg.specs.declared.reply.Reply.{Reply}
pub use Rattle.osdp_controller.specs.Answers.{meaning_by_reason, meaning_by_reply, meaning_of as said_by}
pub use Rattle.osdp_controller.specs.Sessions.{frame_of, later, seen}
pub use Rattle.osdp_controller.specs.declared.meaning.ReplyMeaning.TheVariants.{Damaged, NotTaken, NumberRefused, Plain, Unreadable}
pub use Rattle.osdp_controller.specs.declared.exchange.Exchange.{Exchange}
pub use Rattle.osdp_controller.specs.declared.exchange.Exchange.TheVariants.{Asking, Opening, Polling}
pub use Rattle.osdp_controller.specs.declared.exchange.Outstanding.{Outstanding}
pub use Rattle.osdp_controller.specs.declared.report.Report.{Report}
pub use Rattle.osdp_controller.specs.declared.session.Session.{Session}
pub use Rattle.osdp_controller.specs.declared.state.State.{State}
pub use Rattle.osdp_controller.specs.declared.state.State.TheVariants.{Closed, Idle, Pausing, Quiet, Waiting}
pub use Rattle.osdp_link_laws.specs.Names.{IsCommandTo, IsNoDevice, IsReplyFrom, IsToldAsAsked, NameOneDevice, NamesOne, TellAsAsked}
pub use Rattle.osdp_link_laws.proofs.Stages.{Each}
pub use Rattle.osdp_shared_line.specs.Addresses.{address_in, HasNoOther, IsAsked, IsSaid, IsSetUp, IsThere, MayComeTo, NetMoveFits, NetMovesFit, NobodyElseHears, Sets, SetsReader, Somewhere}
pub use Rattle.osdp_link_laws.specs.Link.{after_move, Delivered, Delivery, Lost, Move, outstanding_command, Repeated}
pub use Rattle.osdp_link_laws.specs.Reports.{reports, told_by, told_by_front}
pub use Rattle.osdp_shared_line.specs.Views.{EachMoveIsItsOwn, front_to_panel, HeardByOwn, IsMoved, move_of, one_if, OpensQuietly, own, own_front, view}
pub use Rattle.osdp_shared_line.proofs.Changing.{none_beside, or_false}
pub use Rattle.osdp_shared_line.proofs.Delivering.{gets_one, was_there}
pub use Rattle.osdp_shared_line.proofs.Hearing.{closed_hears, first_other, first_own, for_reader}
pub use Rattle.osdp_shared_line.proofs.Sites.{changed_from, map_from, own_first, own_rest, some_same}
pub use Rattle.osdp_bus_links.specs.Premises.{AllOthersFit, BusSuffices, IsScheduled, NothingIsKept, OthersFit}
pub use Rattle.osdp_link_laws.specs.Ahead.{ahead}
pub use Rattle.osdp_link_laws.specs.Beginning.{Begins, MaySubmit, MoveFits, MovesFit, SaysWhatFitsIf}
pub use Rattle.osdp_link_laws.specs.Progress.{NoComset}
pub use Rattle.osdp_shared_line.proofs.Linking.{move_fits, moves_more, run_more}
pub use Rattle.osdp_reader.specs.Table.{command_in, new_address}
pub use Rattle.osdp_msg.specs.ReplyTable.{ReplyFits}
pub use Rattle.osdp_controller.proofs.Idling.{idle_way}
pub use Rattle.osdp_controller.specs.Ticking.{begins, gives_up, sends_frame, stays, Ticked, ticks_in, tries_again}
pub use Rattle.osdp_msg.specs.declared.fault.MsgFault.{MsgFault}
pub use Rattle.osdp_reader.specs.Queue.{event_for, lacks_room, offering, released, unoffered}
pub use Rattle.osdp_link_laws.proofs.Numbers.{is_false, is_true}
pub use Rattle.osdp_bus.specs.Buses.{waiting_after}
