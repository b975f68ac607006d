-- The names that most proofs of this crate cite, passed on from one place. Declares nothing.
pub use Rattle.std.proofs.Common.{[], All, ap, append_assoc, arith, Bool, drop, eqb, Err, false, flat_map, IfSome, if◌then◌else◌, inl, inr, leb, length, List, ltb, max, None, not, Ok, Option, refl, Result, Some, subst, suc, sym, take, true, zero, ℕ, ◌&&◌, ◌*◌, ◌++◌, ◌+◌, ◌-◌, ◌<◌, ◌==◌, ◌^◌, ◌||◌, ◌∙◌, ◌∷◌, ◌≡◌, ◌≤◌, ◌⊎◌}
pub use Rattle.std.proofs.lemmas.Bool.Decides.{leb_tells}
pub use Rattle.std.proofs.lemmas.List.{append-nil, length-append, length-map, length-take, map-append}
pub use Rattle.std.specs.Prelude.{map, option_to_list, slice_get}
pub use Rattle.std.proofs.lemmas.Bool.{eq-eqb, le-leb, lt-ltb, ltb-true, ne_eqb}
pub use Rattle.osdp_frame.specs.Items.{packets_in, reading}
pub use Rattle.osdp_frame.specs.Packet.{IsPacket, next_sequence, Packet}
pub use Rattle.osdp_msg.specs.declared.command.Command.{Command}
pub use Rattle.osdp_msg.specs.declared.event.Event.{Event}
pub use Rattle.osdp_controller.specs.Machine.{is_due, Machine, new_machine}
pub use Rattle.osdp_controller.proofs.Idling.{idle_way}
pub use Rattle.osdp_controller.specs.Ticking.{begins, gives_up, sends_frame, stays, Ticked, ticks, ticks_in, tries_again}
pub use Rattle.osdp_controller.specs.declared.fault.ControllerFault.{ControllerFault}
pub use Rattle.osdp_controller.specs.declared.fault.ControllerFault.TheVariants.{Full}
pub use Rattle.osdp_reader.specs.Queue.{lacks_room, Queue as EventQueue}
pub use Rattle.osdp_reader.specs.declared.handler.Answer.{Answer, Answer as HandlerAnswer}
pub use Rattle.osdp_reader.specs.declared.kind.Kind.{Kind}
pub use Rattle.osdp_link_laws.specs.Beginning.{Begins, MovesFit, SaysWhatFitsIf}
pub use Rattle.osdp_link_laws.specs.Sessions.{all_queued, all_submitted, IsAmong, IsBeginning}
pub use Rattle.osdp_link_laws.proofs.Lines.{both, each_all, each_append, each_front, each_of, each_rest}
pub use Rattle.osdp_link_laws.proofs.Stages.{Each}
pub use Rattle.osdp_sim.specs.Account.{Account, empty_account, lengths_of, lists_of, taken_by, with_issued, with_queued, with_report, with_session, with_taken}
pub use Rattle.osdp_sim.specs.Line.{handed, left, sent}
pub use Rattle.osdp_sim.specs.Runs.{AreSettings, FitAlong, is_well, run, steps_done, Stops}
pub use Rattle.osdp_sim.specs.State.{room_for, set_up, SimState}
pub use Rattle.osdp_sim.specs.Steps.{after_step, controller_hears, damage_fault, fault_of, moment_after, reader_hears, SaysFit, StepFits}
pub use Rattle.osdp_sim.specs.declared.config.SimConfig.{SimConfig}
pub use Rattle.osdp_sim.specs.declared.fault.Cause.{Cause}
pub use Rattle.osdp_sim.specs.declared.step.SimStep.{SimStep}
pub use Rattle.osdp_sim.specs.declared.step.SimStep.TheVariants.{Busy, Issue, Queue, Reopen, ToController, ToReader, Wait}
pub use Rattle.osdp_sim_laws.specs.Accepted.{AcceptsByRoom, commands_of, events_of, IsAccepted, IsAcceptedByRoom}
pub use Rattle.osdp_sim_laws.specs.Accounts.{account_in, AnswersEndOnce, AnswersHoldOnce, SessionsEndOnce, IsAnswer, IsInSession, IsNoRefusal, HoldsInOneSession, no_lengths, reopens, reopens_in, told_of, WasSetUp}
pub use Rattle.osdp_msg.specs.declared.reply.Reply.{Reply}
pub use Rattle.osdp_controller.specs.declared.report.Report.{Report}
pub use Rattle.osdp_reader.specs.declared.config.ReaderConfig.{ReaderConfig}
pub use Rattle.osdp_link_laws.specs.OneHandler.{with_answers}
pub use Rattle.osdp_link_laws.specs.Progress.{SetsNoAddress}
pub use Rattle.osdp_sim.specs.Rounds.{clean as clean_rounds, round, rounds}
pub use Rattle.osdp_sim_laws.specs.Progress.{AnswerRecovers, clear, ComesThrough, done, IsClear, IsDone, IsRun, losses, Recovers}
pub use Rattle.osdp_sim.proofs.Schedules.{first_well, holds_on, runs_on, well_on}
pub use Rattle.osdp_frame.specs.Spelling.{spelling}
pub use Rattle.osdp_controller.specs.States.{is_closed}
pub use Rattle.osdp_controller_laws.proofs.Closed.{may_begin, silent_frame, silent_tick}
pub use Rattle.osdp_controller.specs.declared.state.State.{State}
pub use Rattle.osdp_link_laws.specs.Link.{after_move, Delivered, Delivery, Link, Lost, Move, Repeated}
pub use Rattle.osdp_sim.specs.declared.fault.Cause.TheVariants.{HoldsPacket, NoMemory, NotQuiet, OutOfRange}
pub use Rattle.osdp_sim_laws.specs.Moves.{clock_after, delivery, first_link, in_bytes, move_of, moves_of, ScheduleIsMoves, step_clock, TellsOfMoves}
pub use Rattle.osdp_msg.specs.Limits.{most_data}
pub use Rattle.osdp_controller_laws.specs.Calls.{ComesDue, IsInRange, longest_wait, StaysInRange}
pub use Rattle.osdp_link_laws.specs.Ends.{count}
pub use Rattle.osdp_sim.specs.Schedules.{first_fault, HoldsAlong}
pub use Rattle.osdp_sim_laws.specs.OneLink.{EndsAreTold, KeepsLedger, OneLink, ReadsPackets}
pub use Rattle.osdp_controller.specs.declared.state.State.TheVariants.{Closed, Idle, Pausing, Quiet, Waiting}
pub use Rattle.osdp_controller_laws.specs.Runs.{Begin}
pub use Rattle.osdp_link_laws.proofs.OrdinaryRuns.{keep_reader, set_no_other, steady_handler, steady_ordinary}
pub use Rattle.osdp_link_laws.specs.Reports.{command_taken as but_poll, reports, told_by_front}
pub use Rattle.osdp_controller.specs.Hearing.{Heard, hears}
pub use Rattle.osdp_controller.specs.Sessions.{seen}
pub use Rattle.osdp_link_laws.specs.Ordinary.{IsSteady}
pub use Rattle.osdp_controller.specs.declared.session.Session.{Session}
