-- The names that most proofs of this crate cite, passed on from one place. Declares nothing.
pub use Rattle.std.proofs.Common.{[], ap, arith, Bool, false, inl, inr, length, List, max, None, Option, refl, Some, subst, suc, sym, true, zero, ℕ, ◌*◌, ◌++◌, ◌+◌, ◌-◌, ◌<◌, ◌||◌, ◌∙◌, ◌∷◌, ◌≡◌, ◌≤◌}
pub use Rattle.std.specs.List.{list_any}
pub use Rattle.std.specs.Prelude.{All, drop, if◌then◌else◌, is_some, nat_eq, nat_le, nat_lt, not, option_map, slice_get, slice_set, ◌&&◌, ◌≢◌, ◌⊎◌}
pub use Rattle.std.specs.Option.{option_map_or}
pub use Rattle.std.proofs.Math.Nat.{suc-mul}
pub use Rattle.std.proofs.lemmas.Bool.{eqb-false, eqb-true, le-leb, leb-false, leb-true, lt-leb, ltb-false, ltb-true}
pub use Rattle.std.proofs.lemmas.List.{length-append}
pub use Rattle.std.proofs.lemmas.List.Elements.{All-cons, All-head, All-nil, All-tail}
pub use Rattle.osdp_controller.specs.declared.state.State.{State}
pub use Rattle.osdp_controller.specs.declared.state.State.TheVariants.{Closed, Idle, Pausing, Quiet, Waiting}
pub use Rattle.osdp_controller.specs.Machine.{begin_refusal, is_outstanding, Machine, refused_unless_closed, retarget_refusal}
pub use Rattle.osdp_controller.specs.Sessions.{is_poll_next, seen as seen_by}
pub use Rattle.osdp_controller.specs.States.{is_closed, is_idle}
pub use Rattle.osdp_time_laws.proofs.Duties.{Due, due_ahead, due_at, due_kept, due_seen, until_of}
pub use Rattle.osdp_time_laws.proofs.Instances.{reached_in}
pub use Rattle.osdp_bus.specs.declared.entry.Entry.{Entry}
pub use Rattle.osdp_bus.specs.Buses.{BusState, device_of, Devices, has_report, holder, is_silent, new_bus, seen, waiting_after}
pub use Rattle.osdp_bus.specs.Deadlines.{acts}
pub use Rattle.osdp_bus.specs.Entries.{address_of, entry_hears, entry_ticks, first_from, holds, is_at, is_entry_due, is_taken_beside, step_of, told_of}
pub use Rattle.osdp_bus.specs.Machine.{add_refusal, after_add, after_begin_at, after_retarget_at, after_submit_at, begin_refusal_at, begin_refusal_of, bus_fault, changed_unless, changes_entry, entry_begins, entry_retargets, entry_submits, entry_withdraws, new_device, retarget_refusal_at, retarget_refusal_of, submit_refusal_at}
pub use Rattle.osdp_bus.proofs.Waiting.{any_at, free_acts, free_ends, held_acts, held_ends, nothing_ends, nothing_silent}
pub use Rattle.osdp_bus_laws.specs.Calls.{Add, after_call, after_calls, Begin, Call, NextReport, OnBytes, OnSilence, Retarget, Submit, Tick, Withdraw}
pub use Rattle.osdp_bus_time_laws.specs.Clock.{DoneBy, ends_duty, IsBy, IsOwed, KeepsTime}
pub use Rattle.osdp_bus_time_laws.specs.Instances.{ack_bytes, before_opening, both_idle, both_open, opening_calls, OpeningIsReached, order_calls, ordered, OrderIsReached, short_line, SilenceIsReached, silent_calls, two_begun}
pub use Rattle.osdp_frame.specs.Packet.{next_sequence, Packet}
pub use Rattle.osdp_msg.specs.declared.command.Command.{Command}
pub use Rattle.osdp_controller.specs.declared.exchange.Exchange.TheVariants.{Opening, Polling}
pub use Rattle.osdp_controller.specs.declared.session.Session.{Session}
pub use Rattle.osdp_controller.specs.Answers.{meaning_of}
pub use Rattle.osdp_controller.specs.Hearing.{Heard, hears, hears_in, ignores}
pub use Rattle.osdp_controller.proofs.Choices.{either_way}
pub use Rattle.osdp_controller.proofs.Idling.{idle_way, poll_way, polls_first}
pub use Rattle.osdp_controller_laws.proofs.Ticks.{takes_front}
pub use Rattle.osdp_time_laws.specs.Laws.{is_quiet, IsNotBusy}
pub use Rattle.osdp_time_laws.specs.Orders.{is_under_way}
pub use Rattle.osdp_bus.specs.Ticking.{bus_ticks, BusTicked, is_due_at, is_held_and_due, next_due, stays, ticks_at, ticks_by, ticks_free, ticks_held, ticks_on, ticks_with}
pub use Rattle.osdp_bus_laws.specs.Fairness.{Begins}
pub use Rattle.osdp_bus_laws.specs.Turns.{asking, IsBefore, IsDueEntry, IsFree, judged}
pub use Rattle.osdp_bus_laws.proofs.Fairness.{begun_ticked, first_is, FirstIs, stands_after, Who, who}
pub use Rattle.osdp_bus_laws.proofs.Places.{added, is_false, IsAt, replaced}
pub use Rattle.osdp_bus_laws.proofs.Turning.{begins_frame, due_is_next, none_is_due, set_here, set_other, still_free, takes_turns}
pub use Rattle.osdp_bus_time_laws.specs.Laws.{exchange_of, ExchangesComeRound, ExchangesEnd, GoesOutBy, IsUnderWay, LinesAddUp, OpeningsBegin, OpeningsInTime, OrdersGoOut, OrdersInTime, PollsElse, TakesTheFront, time_of}
pub use Rattle.osdp_frame.specs.Items.{items, whole_packets}
pub use Rattle.osdp_controller.specs.declared.config.ControllerConfig.{ControllerConfig}
pub use Rattle.osdp_controller_laws.specs.Runs.{after_call as after_call_of, Begin as BeginOf, Call as CallOf, Hear as HearOf, Tick as TickOf}
pub use Rattle.osdp_controller_laws.proofs.Kept.{hears_at_moment}
pub use Rattle.osdp_time_laws.specs.Acceptance.{IsTimely, WaitsItsTime}
pub use Rattle.osdp_time_laws.proofs.Ends.{tick_at_moment}
pub use Rattle.osdp_time_laws.proofs.Phases.{frame_holds, Holds, later_within, Phase, phase_near, phase_passed, phase_seen, still, tick_holds}
pub use Rattle.osdp_time_laws.proofs.Timely.{stays_timely, timely_then}
pub use Rattle.osdp_bus.specs.declared.config.BusConfig.{BusConfig}
pub use Rattle.osdp_bus.specs.declared.fault.BusFault.{BusFault}
pub use Rattle.osdp_bus.specs.Hearing.{after_bytes, ends_run, ends_silent, hears_at, hears_item, hears_items, hears_with}
pub use Rattle.osdp_bus.specs.Settings.{controller_config, IsBusConfig}
pub use Rattle.osdp_bus_laws.proofs.Calling.{map_none, no_device, or_none, sound_call, sound_new}
pub use Rattle.osdp_bus_laws.proofs.Hearing.{items_keep}
pub use Rattle.osdp_bus_laws.proofs.Moments.{moments_are_seen}
pub use Rattle.osdp_bus_laws.proofs.Sound.{held_items, held_there, IsNobody, nobody, sound_run, sound_seen, sound_silent, SoundBus, still_nobody}
pub use Rattle.osdp_bus_laws.proofs.Staying.{stays_begin, stays_call, stays_silent, stays_tick}
pub use Rattle.osdp_time_laws.specs.Bounds.{longest_exchange, round_time}
pub use Rattle.osdp_bus_time_laws.specs.Turns.{BeginsBy, EndsBy, HasFew, KeepsTurns, NoneBegins, others_of, OutstandingTakes, turns_of, TurnsTake}
pub use Rattle.osdp_bus_laws.specs.Exchanges.{IsOutstandingAt}
pub use Rattle.osdp_time_laws.specs.Clock.{is_tick, IsBy as IsByOf, TicksBy}
pub use Rattle.osdp_controller.specs.Ticking.{ticks}
pub use Rattle.osdp_time_laws.proofs.Orders.{at_rest, due_idle, in_a_row, lives, next_product}
pub use Rattle.osdp_bus_laws.proofs.Exchanging.{has_exchange, has_one_exchange}
pub use Rattle.osdp_time_laws.proofs.Beginnings.{Begins as BeginsOne, begun_tick, Few, no_busy, one_less, whole, whole_is}
pub use Rattle.osdp_bus_laws.proofs.OneDevice.{heard_holds, heard_told}
pub use Rattle.osdp_controller.specs.declared.report.LostCause.TheVariants.{NoReply}
pub use Rattle.osdp_controller.specs.declared.report.Report.TheVariants.{Lost}
pub use Rattle.osdp_bus_time_laws.specs.Reading.{IsOfAnother, NothingIsRead, read_by_holder, read_if_silent, read_in, read_to_end, ReadsNothing}
pub use Rattle.osdp_bus_time_laws.specs.Telling.{IsIdle, IsLost, OpenAreAsked, ReportsAreTaken, round_of, SilenceIsTold, SilenceIsToldInTime, TakenBy, ToldBy}
