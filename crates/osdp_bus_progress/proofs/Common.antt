-- The names that most proofs of this crate cite, passed on from one place. Declares nothing.
pub use Rattle.std.proofs.Common.{[], All, ap, append_assoc, arith, Bool, cond, eqb, false, if◌then◌else◌, inl, inr, is_some, length, List, map, max, None, Ok, Option, refl, Some, subst, suc, sym, take, true, zero, ℕ, ◌&&◌, ◌++◌, ◌+◌, ◌-◌, ◌<◌, ◌||◌, ◌∙◌, ◌∷◌, ◌≡◌, ◌≢◌, ◌≤◌}
pub use Rattle.std.specs.Prelude.{nat_le, slice_get, slice_set}
pub use Rattle.std.specs.Option.{option_map_or}
pub use Rattle.std.proofs.lemmas.List.{append-nil, length-append, length-map}
pub use Rattle.std.specs.List.{flat_map}
pub use Rattle.std.proofs.lemmas.Bool.{le-leb, ltb-false, ltb-true}
pub use Rattle.std.proofs.lemmas.List.Elements.{All-append, All-cons, All-head, All-nil, All-tail}
pub use Rattle.std.proofs.lemmas.Bool.Decides.{eqb_tells}
pub use Rattle.osdp_frame.specs.Items.{items, packets_in, reading}
pub use Rattle.osdp_frame.specs.Packet.{IsPacket, Packet}
pub use Rattle.osdp_msg.specs.declared.command.Command.{Command}
pub use Rattle.osdp_controller.specs.Machine.{is_due, is_outstanding, new_machine}
pub use Rattle.osdp_controller.specs.Sessions.{later as later_by, seen as seen_at}
pub use Rattle.osdp_controller.specs.declared.report.Report.{Report}
pub use Rattle.osdp_controller_laws.specs.Calls.{ComesDue, IsInRange, longest_wait, StaysInRange}
pub use Rattle.osdp_reader.specs.declared.handler.Answer.{Answer}
pub use Rattle.osdp_bus.specs.Entries.{entry_hears, entry_ticks, holds, is_entry_due}
pub use Rattle.osdp_bus.specs.Hearing.{after_bytes, ends_run, ends_silent, hears_bytes, hears_items}
pub use Rattle.osdp_bus.specs.Machine.{after_next_report, after_submit_at, entry_submits, submit_refusal_at}
pub use Rattle.osdp_bus.specs.Settings.{controller_config}
pub use Rattle.osdp_bus.specs.Ticking.{asks_holder, bus_ticks, BusTicked, is_due_at, is_held_and_due, next_due, stays, ticks_at, ticks_by, ticks_free, ticks_held, ticks_on, ticks_with}
pub use Rattle.osdp_bus.specs.declared.config.BusConfig.{BusConfig}
pub use Rattle.osdp_bus.specs.declared.entry.Entry.{Entry}
pub use Rattle.osdp_bus.specs.declared.fault.BusFault.{BusFault}
pub use Rattle.osdp_bus_laws.proofs.Places.{is_false as unless_true, IsAt, replaced}
pub use Rattle.osdp_bus_laws.proofs.Sound.{either_held, held_items, HeldBefore, IsNobody, nobody, still_nobody, WereHeld}
pub use Rattle.osdp_link_laws.proofs.Stages.{Each}
pub use Rattle.osdp_sim.specs.Line.{handed, left, sent}
pub use Rattle.osdp_sim.specs.Steps.{damage_fault, moment_after}
pub use Rattle.osdp_sim.specs.declared.step.SimStep.{SimStep}
pub use Rattle.osdp_sim_bus.specs.State.{accounts, begun_bus, begun_device, Given, LineState, ReaderSite, set_up}
pub use Rattle.osdp_sim_bus.specs.Steps.{after_step, all_hear, all_hear_each, changed_site, fault_of, hears_run, is_there, issued, report_told, site_is_busy, site_says, StepFits, takes_report, waited}
pub use Rattle.osdp_sim_laws.specs.Accounts.{AnswersHoldOnce, IsInSession}
pub use Rattle.osdp_link_laws.specs.Progress.{SetsNoAddress}
pub use Rattle.osdp_link_laws.proofs.Lines.{each_all, each_append, each_of}
pub use Rattle.osdp_sim.proofs.Schedules.{begins, first_well, goes_on, HasCome, holds_on, runs_on, well_on}
pub use Rattle.osdp_sim.specs.Account.{Account, lists_of, with_report}
pub use Rattle.osdp_sim.specs.Rounds.{clean, round, rounds}
pub use Rattle.osdp_sim.specs.declared.step.SimStep.TheVariants.{Busy, Issue, Queue, ToController, ToReader, Wait}
pub use Rattle.osdp_sim_bus.specs.Laws.{HasAnAccountEach, TellsAtOnce}
pub use Rattle.osdp_sim_bus.specs.Runs.{AreSettings, FitAlong, is_well, lists_of_all}
pub use Rattle.osdp_sim_laws.specs.Progress.{done, losses}
pub use Rattle.osdp_sim_laws.proofs.Accepting.{IsNoOrder}
pub use Rattle.osdp_sim_laws.proofs.Begun.{none_reopen}
pub use Rattle.osdp_sim_laws.proofs.Coming.{rounds_within}
pub use Rattle.osdp_sim_bus_laws.specs.Accounts.{AccountsAreOnce, IsRun}
pub use Rattle.osdp_sim_bus_laws.proofs.Idling.{idle_sites, IsIdle, orders_idle, SameOrders}
pub use Rattle.osdp_sim_bus_laws.proofs.Places.{stays_all, stays_then, StaysAt, unmapped, within as get_within}
pub use Rattle.osdp_bus_progress.specs.Progress.{all_ready, clear, ComesOn, EachAnswerRecovers, EachComesOn, EachComesThrough, EachRecovers, HasItsShare, IsClear, IsReady, NoneMoves}
pub use Rattle.osdp_frame.specs.Spelling.{spelling}
pub use Rattle.osdp_shared_line.specs.Line.{address_of, Net, NetMove, run, site_at, Tick, ToPanel}
pub use Rattle.osdp_shared_line.specs.Addresses.{IsSetUp, NetMovesFit}
pub use Rattle.osdp_shared_line.specs.Views.{HeardByOwn, own, view}
pub use Rattle.osdp_shared_line.proofs.Running.{apart_all, apart_first, by_own}
pub use Rattle.osdp_shared_line.proofs.Sites.{some_same}
pub use Rattle.osdp_bus_links.specs.Links.{device_of, due_by, one_ticks, packets_on, who_ticks}
pub use Rattle.osdp_sim.specs.declared.step.Move.TheVariants.{Damage, Deliver, Drop, Repeat}
pub use Rattle.osdp_link_laws.specs.Ends.{count}
pub use Rattle.osdp_sim_bus_laws.specs.Moves.{AreItsMoves, each_reads, first_net, first_site, FollowsSites, moment_of, moves_for, moves_of, SchedulesAreMoves, SitesOf}
pub use Rattle.osdp_sim_bus_laws.proofs.Beginning.{follows_first, has_site, is_set_up, nothing_is_kept}
pub use Rattle.osdp_bus_progress.specs.SeveralLinks.{LinkLaws, SeveralLinks}
pub use Rattle.osdp_bus_progress.specs.Resting.{after_rounds, AreRounds, ClearsTheLine, EachHasItsRound, EachIsIdle, EachRoundBringsOneMore, EachRoundRests, HasNotEnded, IsAtRest, IsItsRound}
pub use Rattle.osdp_controller_laws.specs.Runs.{Begin}
pub use Rattle.osdp_link_laws.specs.Beginning.{MovesFit}
pub use Rattle.osdp_link_laws.specs.Link.{Delivered, Link}
pub use Rattle.osdp_link_laws.proofs.OrdinaryRuns.{keep_reader, set_no_other}
pub use Rattle.osdp_shared_line.specs.Progress.{all_read, IsEmpty, net_round}
pub use Rattle.osdp_sim_bus_laws.proofs.Sites.{get_site, same_count}
pub use Rattle.osdp_shared_line.proofs.Rounds.{at_length, fits_first, fits_then, IsRound, net_more, one_round}
pub use Rattle.osdp_shared_line.proofs.Storing.{keeps_own}
pub use Rattle.osdp_controller.specs.declared.state.State.TheVariants.{Closed, Idle, Pausing, Waiting}
pub use Rattle.osdp_link_laws.proofs.Numbers.{is_false, is_true}
pub use Rattle.osdp_controller.specs.declared.state.State.{State}
pub use Rattle.osdp_bus.specs.Buses.{BusState, holder, is_silent, seen}
pub use Rattle.osdp_bus_laws.proofs.Exchanging.{has_exchange}
pub use Rattle.osdp_bus_laws.specs.Turns.{IsBefore, IsDueEntry}
pub use Rattle.osdp_link_laws.specs.OneHandler.{with_answers}
pub use Rattle.osdp_script.specs.Handler.{handler_after, handler_answer, new_handler}
pub use Rattle.osdp_sim_laws.specs.Accepted.{AcceptsByRoom, IsAcceptedByRoom}
pub use Rattle.osdp_bus_progress.specs.RowsAfterLosses.{both_lost, bus, FourRoundsBringThree, one_lost, readers, SixRoundsBringThreeOfTwo}
pub use Rattle.osdp_bus_progress.specs.RowsOfRounds.{buz, config, first_key, orders, out, second_key, ThreeRoundsSettleTwoAndReportOne}
