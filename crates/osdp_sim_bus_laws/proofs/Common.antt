-- The names that most proofs of this crate cite, passed on from one place. Declares nothing.
pub use Rattle.std.proofs.Common.{[], All, ap, append_assoc, arith, Bool, cond, Err, false, IfSome, if◌then◌else◌, inl, inr, length, List, map, max, None, not, Ok, Option, refl, Some, subst, suc, sym, take, true, zero, ℕ, ◌&&◌, ◌++◌, ◌+◌, ◌-◌, ◌<◌, ◌==◌, ◌||◌, ◌∙◌, ◌∷◌, ◌≡◌, ◌≢◌, ◌≤◌}
pub use Rattle.std.proofs.lemmas.Bool.{le-leb, leb-true, ne_eqb}
pub use Rattle.std.proofs.lemmas.Option.{slice_get-map}
pub use Rattle.std.specs.Prelude.{is_some, nat_le, option_map, option_to_list, slice_get, slice_set}
pub use Rattle.std.specs.Option.{option_map_or}
pub use Rattle.std.specs.List.{flat_map, list_all, list_any}
pub use Rattle.std.proofs.lemmas.List.{append-nil, length-append, map-append}
pub use Rattle.osdp_msg.specs.declared.command.Command.{Command}
pub use Rattle.osdp_msg.specs.declared.event.Event.{Event}
pub use Rattle.osdp_msg.specs.CommandTable.{CommandFits}
pub use Rattle.osdp_controller.specs.Hearing.{comset_of}
pub use Rattle.osdp_controller.specs.declared.fault.ControllerFault.{ControllerFault}
pub use Rattle.osdp_reader.specs.Queue.{lacks_room}
pub use Rattle.osdp_reader.specs.declared.handler.Answer.{Answer}
pub use Rattle.osdp_bus.specs.Machine.{after_next_report, begin_refusal_at, begin_refusal_of, bus_fault, most_entries, submit_refusal_at}
pub use Rattle.osdp_bus.specs.declared.config.BusConfig.{BusConfig}
pub use Rattle.osdp_bus.specs.declared.entry.Entry.{Entry}
pub use Rattle.osdp_bus.specs.declared.fault.BusFault.{BusFault}
pub use Rattle.osdp_link_laws.specs.Sessions.{IsAmong}
pub use Rattle.osdp_link_laws.proofs.Lines.{both, each_all, each_append, each_front, each_map, each_of, each_rest}
pub use Rattle.osdp_link_laws.proofs.Stages.{Each}
pub use Rattle.osdp_sim.specs.Account.{Account, lengths_of, with_report}
pub use Rattle.osdp_sim.specs.declared.step.SimStep.{SimStep}
pub use Rattle.osdp_sim.specs.declared.step.SimStep.TheVariants.{Busy, Issue, Queue, Reopen, ToController, ToReader, Wait}
pub use Rattle.osdp_sim_bus.specs.State.{accounts, address_of, begun_device, Given, LineState, new_site, ReaderSite, set_up}
pub use Rattle.osdp_sim_bus.specs.Steps.{after_step, all_hear, all_hear_each, changed_site, changes_site, DamageIsBytes, fault_of, hears_run, is_quiet, is_there, issued, reopened, report_told, site_begins, site_hears, site_is_busy, site_is_told, site_issues, site_queues, site_queues_unless, site_says, StepFits, takes_report, waited, where_there}
pub use Rattle.osdp_sim_laws.proofs.Accepting.{commands_by_room, commands_in, events_by_room, events_in, IsNoOrder, orders_for_fit, OrdersNone, submit_is}
pub use Rattle.osdp_sim_laws.proofs.Room.{OrderFits, orders_fit}
pub use Rattle.osdp_sim_bus_laws.specs.Accepted.{AcceptsFor, EachAccepts, IsNoComset}
pub use Rattle.osdp_reader.specs.State.{ReaderState}
pub use Rattle.osdp_link_laws.specs.Beginning.{Begins, SaysWhatFitsIf}
pub use Rattle.osdp_link_laws.specs.Ends.{count}
pub use Rattle.osdp_link_laws.specs.Link.{Delivered, Delivery, Lost, Repeated}
pub use Rattle.osdp_link_laws.proofs.Numbers.{is_false, is_true}
pub use Rattle.osdp_shared_line.specs.Line.{changed, first_gets, Net, NetMove, run, Site, site_at, tagged, ToPanel}
pub use Rattle.osdp_shared_line.specs.Addresses.{in_front, IsSetUp, NobodyElseHears}
pub use Rattle.osdp_shared_line.specs.Views.{EachMoveIsItsOwn, IsQuiet, own, view}
pub use Rattle.osdp_bus_links.specs.Links.{device_of, HearsAsAMove, IsBusOf, IsNoRefusalOf, IsSubmitted, IsTold, one_ticks, packets_on, report_for, SubmitsAsAMove, told_by_first, TellsEach, TellsFrom, tick_moves, TicksAsAMove, who_ticks}
pub use Rattle.osdp_bus_links.specs.Premises.{AllOthersFit, BusSuffices, IsScheduled, NothingIsKept, OthersFit}
pub use Rattle.osdp_sim_bus.specs.Runs.{are_apart, AreSettings, FitAlong, is_at, is_reader_in_range, is_well, lists_of_all, steps_done, Stops}
pub use Rattle.osdp_sim_laws.proofs.Holding.{begins, last_one}
pub use Rattle.osdp_sim_bus_laws.specs.Moves.{each_reads, first_net, first_site, FollowsSites, for_reader, IsKnown, IsSiteOf, moment_of, moves_for, moves_of, OneBus, SchedulesAreMoves, SitesOf, SpellsBytes, StepsAreMoves}
pub use Rattle.osdp_frame.specs.Items.{packets_in, reading}
pub use Rattle.osdp_frame.specs.Packet.{IsPacket, Packet}
pub use Rattle.osdp_controller.specs.declared.report.Report.{Report}
pub use Rattle.osdp_sim.specs.Line.{handed, left, sent}
pub use Rattle.osdp_sim.specs.Steps.{damage_fault, moment_after, SaysFit}
pub use Rattle.osdp_sim.proofs.Schedules.{first_well, holds_on}
pub use Rattle.osdp_sim_laws.specs.Accounts.{SessionsEndOnce, IsInSession, IsNoRefusal, reopens_in}
pub use Rattle.osdp_frame.specs.Spelling.{spelling}
pub use Rattle.osdp_bus.specs.Buses.{BusState}
pub use Rattle.osdp_link_laws.specs.Peers.{IsPlainlySaid}
pub use Rattle.osdp_bus.specs.Ticking.{bus_ticks}
pub use Rattle.osdp_sim_laws.proofs.Accounts.{report_leaves}
pub use Rattle.osdp_sim_bus_laws.specs.Accounts.{accounts_in, AccountsAreOnce, AccountsEndOnce, BusAnswer, IsAnswer, IsOneSession, IsRun, OfEach, WasSetUp}
pub use Rattle.osdp_controller.specs.States.{is_closed}
pub use Rattle.osdp_bus_links.proofs.Names.{are_steady}
