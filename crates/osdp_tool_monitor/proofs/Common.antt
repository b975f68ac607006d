-- The names that most proofs of this crate cite, passed on from one place. Declares nothing.
pub use Rattle.std.proofs.Common.{[], ap, append-nil, append_assoc, arith, Bool, cond, drop, Err, false, get_or, IfErr, inl, inr, is_err, is_some, IsErrAnd, length, length-append, length-drop, List, map, MatchOption, nat_eq, None, not, Ok, OnOk, Option, refl, Result, slice_index_or, slice_set, Some, string_bytes, subst, sym, take, take-append-drop, true, ℕ, ◌&&◌, ◌*◌, ◌++◌, ◌+◌, ◌-◌, ◌<◌, ◌==◌, ◌^◌, ◌||◌, ◌↔◌, ◌∙◌, ◌∷◌, ◌≡◌, ◌≤◌, ◌⊎◌}
pub use Rattle.std.proofs.lemmas.List.{drop-drop, drop_all, drop_more, flat_map_more, get_or_default, length-map, length-take, map-append, take-take, take_all, take_more, take_rest}
pub use Rattle.std.specs.Option.{option_map_or}
pub use Rattle.std.proofs.Math.Seq.{take-add, take-append-add, take-length}
pub use Rattle.std.proofs.lemmas.List.Concat.{flat_map-append}
pub use Rattle.std.specs.Io.KnownBytes.{Appends, Consumes, IsAtEnd, Keeps}
pub use Rattle.std.proofs.KnownBytes.{Appends-kept, Appends-nil, Appends-trans, Consumes-nil, Consumes-trans}
pub use Rattle.std.specs.Prelude.{IsOkUnless, IsTrue}
pub use Rattle.std.proofs.lemmas.Option.{get_or_from_slice_get}
pub use Rattle.osdp_tool_streams.specs.Line.{is_blank, kept, line_bytes, said}
pub use Rattle.osdp_tool_streams.proofs.FormLemmas.{kept-append}
pub use Rattle.osdp_tool_monitor.specs.Counts.{after_packet, columns, counts_after, is_poll, kind_of_reply, more_if, no_counts, rows_from}
pub use Rattle.osdp_tool_streams.specs.declared.fault.ToolFault.{ToolFault}
pub use Rattle.osdp_tool_streams.specs.declared.fault.ToolFault.TheVariants.{NoMemory, NotHex, ReadFailed, TooLong, WriteFailed}
pub use Rattle.osdp_tool_streams.proofs.CutLemmas.{ended_after-append, ended_after-feed, ended_after-line, unended_after-append, unended_after-feed, unended_after-line}
pub use Rattle.osdp_tool_streams.proofs.RunsLemmas.{bad_line-append, bad_line-stays, good_front-append, good_front-stays}
pub use Rattle.osdp_tool_monitor.specs.Ending.{CameIn, Ends, input_report, IsBadAt, IsTold, IsToldInPart, IsTooLong, OnlyLastIsBad, Told}
pub use Rattle.osdp_tool_monitor.specs.Hearing.{after_event, after_events, Come, Drained, event_report, events_report, Hearing, hearing_of, Hears, HearsItems, IsOpen, line_detail, LineEvent, load, nothing_yet, RunEnds, TableDue, TableTold}
pub use Rattle.osdp_tool_monitor.specs.Listening.{after_table, detail_of, ended, heard_item, heard_items, HearsFirst, HearsItem, HearsRun, is_wrong, IsLineFault, item_report, items_report, Listening, listening_of, table, told_in}
pub use Rattle.osdp_tool_monitor.specs.declared.mode.MonitorMode.{MonitorMode}
pub use Rattle.osdp_tool_monitor.specs.Captures.{capture_answer, capture_events, capture_lines, capture_report, IsSteady, IsToldSoFar, last_events_of, TellsByTheClock, TellsCaptures, TellsFailures, TellsInTurn}
pub use Rattle.osdp_tool_monitor.specs.Events.{after_piece, after_pieces, bad_at_end, Broken, byte_events, bytes_events, bytes_of, closing_events, Cut, End, end_events, Following, gap_events, input_events, is_due, last_events, lines_in, moments_of, nothing_cut, Piece, piece_events, pieces_events, run_events, table_events, tabled_after}
pub use Rattle.osdp_tool_streams.proofs.Answered.{on_err, on_ok}
pub use Rattle.osdp_tool_monitor.specs.declared.open_line.OpenLine.{OpenLine}
pub use Rattle.osdp_tool_monitor.specs.declared.session.Session.{Session}
pub use Rattle.osdp_tool_monitor.specs.Reading.{after_failed_read, Broke, HasBroken, HasRead, HasTold, HasToldPieces, ReadsAll, TellsEvents, TellsPiece, Wrote}
pub use Rattle.osdp_tool_monitor.specs.Session.{Breaks, cut_of, EndsAll, EndsInput, Goes, GoesOrBreaks, IsNew, IsReady, TakesBytes, TakesPiece, weight}
pub use Rattle.osdp_tool_monitor.specs.declared.counts.Counts.{Counts}
pub use Rattle.osdp_frame.specs.Bytes.{AreBytes}
pub use Rattle.osdp_frame.specs.Items.{items, left_over, reading}
pub use Rattle.osdp_frame.specs.Reading.{IsFirst, item_size, PacketItem, RunItem, Stands, total_size}
pub use Rattle.osdp_frame.proofs.Head.{AreBytes-append, AreBytes-drop, AreBytes-take}
pub use Rattle.osdp_frame_laws.proofs.Readings.{is_reading, item_size-decided, item_size-positive, items-append, items_undecided, reading_is, sizes_reading}
pub use Rattle.osdp_tool_show.specs.declared.detail.Detail.{Detail}
pub use Rattle.osdp_tool_monitor.specs.declared.listener.Listener.{Listener}
pub use Rattle.osdp_tool_show.specs.Tally.{counted}
pub use Rattle.osdp_tool_show.proofs.Lines.{counted-after_run, counted-tally_after}
pub use Rattle.osdp_frame_laws.proofs.LeftOver.{gap_items, left_is, left_over-append, reading_split, takes_some, total_size-append}
pub use Rattle.osdp_frame.specs.Packet.{Packet}
pub use Rattle.osdp_monitor.proofs.Turns.{is_fresh, plain_found}
pub use Rattle.osdp_monitor.specs.declared.found.Found.{Found}
pub use Rattle.osdp_monitor.specs.Line.{copies_last, expected_if, expected_in, nothing_wrong}
pub use Rattle.osdp_tool_monitor.specs.Text.{accusation_line, accused_text, expected_bytes, expected_lines, found_text, is_left_out, is_profile, notice_line, told}
pub use Rattle.osdp_tool_monitor.specs.Trail.{detail_after, is_clean}
pub use Rattle.osdp_tool_streams.specs.Cut.{ended_after, IsLine, line_feed, unended_after}
pub use Rattle.osdp_tool_monitor.specs.Windows.{window_rows}
pub use Rattle.osdp_monitor.specs.Monitors.{knowledge_of}
pub use Rattle.osdp_frame.specs.Shown.{item_of}
pub use Rattle.osdp_tool_streams.specs.Watched.{has_failed, inner_of}
pub use Rattle.osdp_tool_monitor.specs.Diagnoses.{add, lines_from, survey_of}
pub use Rattle.osdp_tool_monitor.specs.InTurn.{after_all}
