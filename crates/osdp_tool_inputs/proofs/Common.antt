-- The names that most proofs of this crate cite, passed on from one place. Declares nothing.
pub use Rattle.std.proofs.Common.{[], ap, append-nil, append_assoc, arith, Bool, Bor, codes, cond, drop, Err, false, flat_map, get_or, IfOk, inl, inr, is_some, length, length-drop, List, map, nat_le, nat_lt, None, not, Ok, OnOk, Option, refl, Result, rules, Some, string_bytes, subst, sym, take, take-append-drop, true, ℕ, ◌&&◌, ◌*◌, ◌++◌, ◌+◌, ◌-◌, ◌<◌, ◌==◌, ◌^◌, ◌||◌, ◌∙◌, ◌∷◌, ◌≡◌, ◌≤◌, ◌⊎◌}
pub use Rattle.std.proofs.lemmas.List.{at_drop_more, drop-map, drop_all, drop_more, get_or_past, length-append, length-map, map-append, take-map, take_rest}
pub use Rattle.std.proofs.Math.Seq.{drop-append-add, drop-drop, take-append_seam}
pub use Rattle.std.specs.List.{AllByRecursion, starts_with}
pub use Rattle.std.proofs.lemmas.Bool.{cases_Bool, cond-false, cond-true, eqb-true, le-leb, ltb-false, ltb-true, ne_eqb}
pub use Rattle.std.specs.Str.{bytes_eq}
pub use Rattle.std.specs.Prelude.{option_map}
pub use Rattle.std.specs.Option.{option_and_then, option_map_or}
pub use Rattle.osdp_tool_streams.specs.Cut.{ended_lines, HasLine, IsLine, last_line, line_feed, lines_of, unended_line}
pub use Rattle.osdp_tool_inputs.specs.Times.{ends_so, has_digits, is_stamp, no_stamp, number_after, parts, run_of, stamps_below, stamps_of, timed_line}
pub use Rattle.osdp_tool_inputs.specs.declared.echoes.Rest.{Rest}
pub use Rattle.osdp_tool_inputs.specs.declared.capture.Capture.{Capture}
pub use Rattle.osdp_tool_times.specs.declared.waits.Told.{Told}
pub use Rattle.osdp_tool.specs.Job.{texts_of, Words}
pub use Rattle.osdp_tool_captures.specs.declared.format.Format.{Format}
pub use Rattle.osdp_tool_monitor.specs.declared.mode.MonitorMode.{MonitorMode}
pub use Rattle.osdp_tool_inputs.specs.Asked.{AreAsked, check_task, has_lines, show_task, TaskOf}
pub use Rattle.osdp_tool_inputs.specs.declared.asked.Task.{Task}
pub use Rattle.osdp_tool_inputs.specs.declared.asked.Task.TheVariants.{Listen, Print, Time}
pub use Rattle.osdp_tool_captures.specs.Lines.{is_decimal}
pub use Rattle.osdp_tool_inputs.specs.Laws.{StampsOneRun, TellsInOrder, TimesByRuns}
pub use Rattle.osdp_tool_inputs.specs.Moments.{AreInOrder, Tells}
pub use Rattle.osdp_tool_streams.specs.Line.{kept, line_bytes, said}
pub use Rattle.osdp_tool_streams.proofs.RunsLemmas.{bad_line-append, bad_line-stays, good_front-append, good_front-stays}
pub use Rattle.osdp_tool_monitor.specs.Events.{Broken, End, run_events}
pub use Rattle.osdp_tool_monitor.specs.Hearing.{after_event, after_events, event_report, events_report, Hearing, hearing_of, Hears, IsOpen, line_detail, LineEvent, nothing_yet, RunEnds, TableDue}
pub use Rattle.osdp_tool_monitor.specs.Listening.{heard_items, is_wrong, listening_of, table}
pub use Rattle.osdp_tool_monitor.specs.declared.open_line.OpenLine.{OpenLine}
pub use Rattle.osdp_tool_monitor.proofs.OpenRuns.{after_events-append, events_report-append}
pub use Rattle.osdp_tool_times.specs.Captures.{after_line, after_lines, Heard, heard_of, line_told, nothing_heard}
pub use Rattle.osdp_tool_inputs.specs.Ears.{answer_by, ears_answer, HasEnded, HasHeard, HeardLines}
pub use Rattle.osdp_tool_inputs.specs.Echoes.{all_echoes, echo_line, echoes_below, echoes_in, ended, heard_part, is_echo, left_in, left_of, next_stamp, next_went, printed_by, went_after, went_by}
pub use Rattle.osdp_tool_inputs.specs.Places.{HasFollowed, IsAt, stamps_left, tells_left}
pub use Rattle.osdp_tool_inputs.specs.declared.ears.Ears.{Ears}
pub use Rattle.osdp_tool_monitor.specs.Reading.{Wrote}
pub use Rattle.osdp_tool_show.specs.Ending.{Stream, streamed, watched}
pub use Rattle.osdp_tool_streams.specs.declared.fault.ToolFault.{ToolFault}
pub use Rattle.osdp_tool_streams.specs.declared.fault.ToolFault.TheVariants.{NoMemory, NotHex, ReadFailed, TooLong, WriteFailed}
pub use Rattle.osdp_tool_inputs.specs.Done.{Does, DoesInput, DoesObjects, Ending, EndsHeard, has_objects, InMemory, is_whole, Listens, Read, Retells, text_of, unless_failed, Unread}
pub use Rattle.osdp_tool_times.specs.declared.waits.Told.TheVariants.{InTime, Late, Nothing}
pub use Rattle.osdp_tool_monitor.specs.Ending.{CameIn, input_report}
pub use Rattle.osdp_tool_objects.specs.Outputs.{fault_of, IsNew, lines_taken, output_of}
pub use Rattle.osdp_tool_streams.specs.Watched.{has_failed, inner_of}
pub use Rattle.osdp_tool_inputs.specs.Heard.{is_about, late_notice, marked_line, marked_object, names_run, place_named, retold_line, shown_stamp, tells_at, tells_of, times_after, told_line, took_text}
pub use Rattle.osdp_tool_inputs.specs.declared.clock.Clock.{Clock}
