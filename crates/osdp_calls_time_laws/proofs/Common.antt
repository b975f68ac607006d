-- The names that most proofs of this crate cite, passed on from one place. Declares nothing.
pub use Rattle.std.proofs.lemmas.Bool.{and_parts, eqb-true, false≢true, le-leb, leb-true, ltb-true}
pub use Rattle.std.proofs.lemmas.Bool.Decides.{Decides-and, Decides-eqb, Decides-like, eqb_tells}
pub use Rattle.std.specs.Prelude.{IfSome, map, min, nat_le, nat_lt, slice_get, slice_set, take, ◌-◌, ◌==◌, ◌^◌}
pub use Rattle.std.proofs.Common.{[], ap, append-nil, append_assoc, arith, Bool, cond, false, inl, inr, is_some, length, List, max, None, not, Option, refl, Some, subst, suc, sym, true, zero, ℕ, ◌&&◌, ◌*◌, ◌++◌, ◌+◌, ◌<◌, ◌||◌, ◌∙◌, ◌∷◌, ◌≡◌, ◌≢◌, ◌≤◌, ◌⊎◌}
pub use Rattle.osdp_msg.specs.declared.command.Command.{Command}
pub use Rattle.osdp_bus.specs.declared.config.BusConfig.{BusConfig}
pub use Rattle.osdp_reader.specs.declared.handler.Answer.{Answer}
pub use Rattle.osdp_shared_line.specs.Line.{after_net, changed, Net, RestartPanel, site_at}
pub use Rattle.osdp_calls.specs.Calls.{device_called, does, on_called, after_call, after_calls, asked_at, begins_session, begins_with, begun_of, Call, change_at, changes_at, is_to_begin, last_of, NewDevice, NewPanel, Next, noted, OfPanel, panel_says, Pending, read_by, said_for, SetBusy, SetHandler, Silence, Step, SubmitEvent, Take, TickDevice, LapseEvent, WithdrawEvent}
pub use Rattle.osdp_calls.specs.Lines.{Burst, bus_with, concerns, InUse, is_ahead_of_device, is_before, is_past_for_device, is_past_for_panel, Opening, Station, those}
pub use Rattle.osdp_premises.specs.Deciding.{has_addresses, if_there, is_in_order, is_quiet}
pub use Rattle.osdp_calls_time_laws.specs.Deciding.{are_read_within, are_timely, is_timely, keeps_clock, TimelyIsExact, waits_twice}
pub use Rattle.osdp_calls_time_laws.specs.Moments.{AllKeepElse, AllKeepRuleElse, AllTimely, Clock, clock_after, clock_at, IsTimely, KeepsClock, moment_of, stamped, Timed, WaitsTwice}
pub use Rattle.osdp_frame.specs.Packet.{next_sequence, Packet}
pub use Rattle.osdp_controller.specs.declared.config.ControllerConfig.{ControllerConfig}
pub use Rattle.osdp_controller.specs.declared.state.State.TheVariants.{Closed, Idle, Pausing, Quiet, Waiting}
pub use Rattle.osdp_bus.specs.Buses.{BusState, device_of, Devices, seen, waiting_after}
pub use Rattle.osdp_bus.specs.Entries.{address_of, entry_hears, entry_ticks, is_taken_beside, step_of}
pub use Rattle.osdp_bus.specs.Hearing.{hears_packet}
pub use Rattle.osdp_bus.specs.Machine.{begin_refusal_at, bus_fault, changed_unless, entry_begins, new_device, or_taken, retarget_refusal_of}
pub use Rattle.osdp_bus.specs.declared.entry.Entry.{Entry}
pub use Rattle.osdp_bus.specs.declared.fault.BusFault.{BusFault}
pub use Rattle.osdp_bus_laws.proofs.Moments.{moments_are_seen}
pub use Rattle.osdp_link_laws.proofs.Lines.{both, each_all, each_map, each_of}
pub use Rattle.osdp_shared_line.proofs.Sites.{at_changed, some_same}
pub use Rattle.osdp_calls.specs.Handing.{hears_all}
pub use Rattle.osdp_calls.proofs.Noticing.{got_new, got_other, heard_at, HeardAt, Touched, Untouched}
pub use Rattle.osdp_link_laws.proofs.Stages.{Each}
pub use Rattle.osdp_calls.proofs.Agreeing.{address_same, at_entry, begun_change, begun_changed, reads_those}
pub use Rattle.osdp_calls.proofs.Nexts.{each_at, then_refines}
pub use Rattle.osdp_calls.proofs.Panel.{at_seen, hears_one, panel_on, reads_here}
pub use Rattle.osdp_calls.proofs.Runs.{NotPast, unheard}
pub use Rattle.osdp_calls.proofs.Same.{Controls, IsNetOf, IsRightly, IsToOpen}
pub use Rattle.osdp_calls.proofs.Stations.{by_none, of_station, Refines}
pub use Rattle.osdp_calls.proofs.Strangers.{IsUnanswered, order_for_device, Ordered, ordered, ordered_heard, unanswered_first}
pub use Rattle.osdp_shared_line.proofs.Rounds.{at_length}
pub use Rattle.osdp_bus.specs.Settings.{IsBusConfig}
pub use Rattle.osdp_link_laws.specs.Peers.{ReadsWhatIsAsked}
pub use Rattle.osdp_reader.specs.State.{after_set_busy, after_set_handler, ReaderState}
pub use Rattle.osdp_shared_line.proofs.Apart.{Apart, IsAway, IsToDevice, reader_address}
pub use Rattle.osdp_shared_line.proofs.Running.{apart_after, apart_all, apart_first}
pub use Rattle.osdp_calls.specs.Premises.{Addresses, AllKeep, AreInOrder, InOrder, InRange, IsSetUp, Keeps, NextInOrder, QuietOpening}
pub use Rattle.osdp_calls.proofs.Heeding.{AsBefore, changed_at, IsChanged, new_at}
pub use Rattle.osdp_calls.proofs.Holding.{one_call}
pub use Rattle.osdp_calls_ledger.specs.Promises.{LedgerHoldsOnce, RuledLedgerHoldsOnce}
pub use Rattle.osdp_calls_time_laws.specs.Laws.{steps_of, TimelyCallsOpenQuietly, TimelyLedgerHoldsOnce, TimelyRuledHoldsOnce}
pub use Rattle.osdp_shared_line.specs.Programs.{Note}
pub use Rattle.osdp_calls.specs.Programs.{AllKeepRule, CallsRuleSuffices, first_notes, KeepsByRule, notes_after}
pub use Rattle.osdp_calls_time_laws.specs.Instance.{brief, held_day, LongDayIsTimely, moment_in, one_line, timed, TwiceIsTooShort}
pub use Rattle.osdp_link_laws.proofs.Numbers.{is_false}
pub use Rattle.osdp_bus.specs.Ticking.{bus_ticks, ticks_at, ticks_with}
pub use Rattle.osdp_calls.proofs.Agreed.{ticks_to}
pub use Rattle.osdp_calls.proofs.Places.{station_other}
pub use Rattle.osdp_calls.proofs.Ahead.{and_false, any_false, AreWithin, from_panel}
