-- The names that most proofs of this crate cite, passed on from one place. Declares nothing.
pub use Rattle.std.proofs.Common.{[], All, ap, append-nil, append_assoc, arith, Bool, cond, Err, false, inl, inr, is_some, length, List, map, max, None, Ok, Option, refl, Result, Some, subst, sym, true, ℕ, ◌++◌, ◌+◌, ◌∙◌, ◌∷◌, ◌≡◌, ◌≢◌, ◌⊎◌}
pub use Rattle.std.proofs.lemmas.Bool.Decides.{eqb_tells}
pub use Rattle.std.proofs.lemmas.List.{map-append}
pub use Rattle.std.specs.Prelude.{nat_le, option_map, option_to_list, slice_get, ◌<◌, ◌==◌}
pub use Rattle.osdp_frame.specs.Packet.{Packet}
pub use Rattle.osdp_msg.specs.declared.command.Command.{Command}
pub use Rattle.osdp_msg.specs.declared.event.Event.{Event}
pub use Rattle.osdp_controller.specs.declared.report.Report.{Report}
pub use Rattle.osdp_bus.specs.Buses.{BusState, device_of, seen as seen_by_bus}
pub use Rattle.osdp_bus.specs.Machine.{changed_unless, submit_refusal_at, withdrawal_at, withdrawal_of}
pub use Rattle.osdp_bus.specs.Ticking.{bus_ticks, ticks_at, ticks_with}
pub use Rattle.osdp_bus.specs.declared.entry.Entry.{Entry}
pub use Rattle.osdp_bus.specs.declared.fault.BusFault.{BusFault}
pub use Rattle.osdp_bus_laws.specs.Reports.{told_at, told_by_device, told_by_entry, told_by_item, told_by_ticking, told_in, told_with}
pub use Rattle.osdp_device.specs.Telling.{items_of}
pub use Rattle.osdp_reader.specs.Queue.{in_doubt, lacks_room, never_offered}
pub use Rattle.osdp_reader.specs.State.{ReaderState}
pub use Rattle.osdp_reader.specs.declared.handler.Answer.{Answer}
pub use Rattle.osdp_ledger.specs.Ledger.{after, Card, Doubt, Ledger, new_ledger, Open, Order, RestartDevice, RestartPanel, Settle}
pub use Rattle.osdp_ledger.specs.History.{AreAllowed, History, Left, new_history, runs, steps_on, ThrownAway}
pub use Rattle.osdp_link_laws.specs.Sessions.{unless_full}
pub use Rattle.osdp_link_laws.proofs.Lines.{both, each_all, each_append, each_map, each_of}
pub use Rattle.osdp_link_laws.proofs.Stages.{Each}
pub use Rattle.osdp_link_ledger.specs.Steps.{after_steps, all_steps, gets, lapses_event, leaves_and_acts, opens, queued_before, queues, submits, ticked, told, withdraws, withdraws_event}
pub use Rattle.osdp_shared_line.specs.Line.{address_of, after_net, changed, is_comset_refused, link_of, LoseToPanel, LoseToReader, Net, NetMove, Queue, Reopen, RestartPanel as RestartsPanel, RestartReader, Retarget, run, SetBusy, Site, site_at, Submit, Tick, ToPanel, ToReader, Withdraw}
pub use Rattle.osdp_calls.specs.Calls.{after_call, after_calls, asked_at, begun_of, Call, first_answered, last_of, NewDevice, NewPanel, Next, OfPanel, panel_says, Pending, read_by, read_up_to, SetHandler, Silence, Step, SubmitEvent, Take, TickDevice, LapseEvent, WithdrawEvent, withdrawn}
pub use Rattle.osdp_calls.specs.Ends.{is_of_device}
pub use Rattle.osdp_calls.specs.Handing.{heard, told_by_all}
pub use Rattle.osdp_calls.specs.Lines.{Burst, InUse, Station}
pub use Rattle.osdp_link_ledger.proofs.Plain.{are_plain, gets_done, gets_each, IsDone, opens_open, queued_plain, queues_plain, told_done}
pub use Rattle.osdp_calls_ledger.specs.Steps.{answered, device_steps, given_back, opening, panel_restarts, panel_steps, reported, steps_along, steps_at, steps_from, steps_of}
pub use Rattle.osdp_ledger.specs.Plain.{IsPlain, KeepsPower, PlainStepsEndTold, ThrowsNoneAway}
pub use Rattle.osdp_calls.specs.Premises.{Addresses, AllKeep, InOrder, InRange, QuietOpening}
pub use Rattle.osdp_calls.proofs.Agreed.{ticks_to}
pub use Rattle.osdp_calls.proofs.Agreeing.{address_same, at_entry, reads_those}
pub use Rattle.osdp_calls.proofs.Devices.{IsNextOf, nexting}
pub use Rattle.osdp_calls.proofs.Holding.{its_site, one_call}
pub use Rattle.osdp_calls.proofs.Panel.{at_seen, hears_one, IsHeard, IsIgnored, IsRead, panel_on, reads_here}
pub use Rattle.osdp_calls.proofs.Runs.{NotPast, unheard}
pub use Rattle.osdp_calls.proofs.Same.{Controls, IsNetOf, IsSame, IsToOpen}
pub use Rattle.osdp_calls.proofs.Steps.{device_moves, IsOfOne, Made, StepsTo}
pub use Rattle.osdp_calls.proofs.Strangers.{AreOfOthers, IsElsewhere, Ordered, ordered, ordered_heard, others_hear}
pub use Rattle.osdp_calls.proofs.Matching.{found, FoundAt, IsOurs, Nobody, ours_below, Somebody}
pub use Rattle.osdp_calls.proofs.Lasting.{call_keeps, calls_keep, says_keep}
pub use Rattle.osdp_calls.specs.OneDevice.{KeepsHandler}
pub use Rattle.osdp_calls_ledger.specs.Promises.{LedgerHoldsOnce, LeftSo, RuledLedgerHoldsOnce}
pub use Rattle.osdp_link_laws.specs.Link.{after_move, Link, Move, outstanding_command, Repeated}
pub use Rattle.osdp_link_laws.proofs.Numbers.{is_false, is_true}
pub use Rattle.osdp_calls.proofs.Heeding.{new_at}
pub use Rattle.osdp_calls_ledger.specs.Laws.{EachKeepsLedger}
pub use Rattle.osdp_msg.specs.declared.reply.Reply.{Reply}
pub use Rattle.osdp_controller.specs.Machine.{after_begin, Machine, submit_refusal, withdrawn_in}
pub use Rattle.osdp_ledger.specs.Laws.{EventsHold, OrdersHold, TellsInTurn}
pub use Rattle.osdp_link_ledger.proofs.Ties.{after_append, runs_after}
pub use Rattle.osdp_shared_line.specs.Addresses.{NetMovesFit, NobodyElseHears}
pub use Rattle.osdp_shared_line.specs.Runs.{moves_at, moves_of}
pub use Rattle.osdp_shared_line.specs.Views.{EachMoveIsItsOwn, front_to_panel, HeardByOwn, move_of, one_if, other_reply, own, own_front, own_reply, view}
pub use Rattle.osdp_calls.proofs.Counting.{all_heard, AllHeard, quietly}
pub use Rattle.osdp_calls.proofs.Powers.{outstanding_same}
pub use Rattle.osdp_calls.proofs.Setting.{first_net, first_site, first_there, starts}
pub use Rattle.osdp_reader.specs.Table.{outcome}
pub use Rattle.osdp_shared_line.proofs.Hearing.{closed_hears, for_reader}
pub use Rattle.osdp_calls.proofs.Losing.{IsLoss}
pub use Rattle.osdp_controller.specs.Hearing.{comset_of, Heard, hears}
pub use Rattle.osdp_calls.proofs.Stations.{LosesTo, Makes, Sites}
pub use Rattle.osdp_controller.specs.Ticking.{Ticked, ticks, ticks_in}
pub use Rattle.osdp_controller.specs.declared.state.State.{State}
pub use Rattle.osdp_controller.specs.declared.state.State.TheVariants.{Closed, Idle, Pausing, Quiet, Waiting}
pub use Rattle.osdp_bus.specs.Entries.{first_from, is_at, step_of, told_of}
pub use Rattle.osdp_bus.specs.Hearing.{hears_packet}
pub use Rattle.osdp_calls.proofs.Controllers.{hears_same, ignored_quiet, ticks_same, waiting_same}
pub use Rattle.osdp_calls.proofs.Noticing.{first_at, first_before, FirstAt, NoneAt, OneAt}
pub use Rattle.osdp_shared_line.proofs.Rounds.{at_length, fits_both, net_more}
pub use Rattle.osdp_shared_line.proofs.Sites.{at_changed, some_same}
