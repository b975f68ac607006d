-- The names that most proofs of this crate cite, passed on from one place. Declares nothing.
pub use Rattle.std.proofs.Common.{[], add-one, ap, append-nil, append_assoc, arith, Bool, codes, cond, drop, drop-cons, eqb, Err, false, get_or, IfOk, inl, inr, is_some, length, length-append, length-drop, length-take, List, lit<, map, MatchOption, nat_le, nat_lt, None, not, Ok, OnErr, OnOk, Option, refl, Result, rules, slice_index, Some, string_bytes, subst, suc, sym, take, take-append-drop, true, zero, zero-add, ℕ, ◌%◌, ◌&&◌, ◌*◌, ◌++◌, ◌+◌, ◌-◌, ◌/◌, ◌<◌, ◌==◌, ◌^◌, ◌||◌, ◌∙◌, ◌∷◌, ◌≡◌, ◌≢◌, ◌≤◌, ◌⊎◌}
pub use Rattle.std.specs.Io.KnownBytes.{append_known, Appends, Consumes, IsAtEnd, Keeps}
pub use Rattle.std.proofs.KnownBytes.{Appends-kept, Appends-nil, Appends-trans, Consumes-kept, Consumes-nil, Consumes-trans}
pub use Rattle.std.proofs.lemmas.Bool.{cases_order, eq-eqb, eqb-false, eqb-true, le-leb, lt-leb, ne_eqb, true≢false}
pub use Rattle.std.proofs.lemmas.Fmt.{decimal_digit, decimal_injective}
pub use Rattle.std.specs.Fmt.{decimal}
pub use Rattle.std.specs.Str.Iter.{LacksByte}
pub use Rattle.std.proofs.lemmas.List.{append_cancel_left, append_cancel_right, drop_all, nil_from_length, take_all, take_more, take_rest}
pub use Rattle.std.specs.List.{AllByRecursion, concat, flat_map}
pub use Rattle.std.proofs.Math.Seq.{drop-append_seam, drop-drop, take-add, take-append_seam}
pub use Rattle.std.specs.Option.{option_map_or}
pub use Rattle.std.specs.Prelude.{if◌then◌else◌, IsErrAnd}
pub use Rattle.osdp_tool_show.specs.declared.capture.Capture.{Capture}
pub use Rattle.osdp_tool_show.specs.Shown.{answer_to, ends_within, is_refused_input, shown, shown_so_far, tally_of}
pub use Rattle.osdp_tool_show.specs.Capture.{HasShown, HasShownIf, LineStands, load, OpenLine, Stops, StopsInPiece, TookPart, TookPiece}
pub use Rattle.osdp_tool_show.specs.Written.{IsBeginning, StopsWithin}
pub use Rattle.osdp_tool_streams.specs.Watched.{AppendsPart, has_failed, inner_of}
pub use Rattle.osdp_tool_show.specs.declared.report.Report.{Report}
pub use Rattle.osdp_tool_show.specs.Machine.{Drained, EndedRun, IsSettled, IsStep, KeepsReport, Stands, StopsAtRunEnd, StopsIn, Tells, Took, written_or_held}
pub use Rattle.hex.specs.Hex.{decode_of, encode_upper, IsBytes}
pub use Rattle.osdp_words.proofs.RecordWords.{decimal_lacks}
pub use Rattle.osdp_frame.specs.Bytes.{AreBytes}
pub use Rattle.osdp_frame.specs.Reading.{IsReading, item_size, PacketItem, RefusedItem, RunItem, SkippedItem, total_size}
pub use Rattle.osdp_frame.specs.Held.{after_advance, after_first, after_gap, after_push, by_itself, decided, Held, later, new_run, taken_count}
pub use Rattle.osdp_frame.specs.Items.{Drains, items, left_over, reading}
pub use Rattle.osdp_frame_laws.proofs.Readings.{decided_nothing, drained_items, is_reading, item_size-decided, item_size-positive, items-append, items_decided, items_undecided, left_undecided, reading_is, sizes_reading}
pub use Rattle.osdp_tool_show.specs.Tally.{after_run, counted, no_tally, tally_after, tally_after_all}
pub use Rattle.osdp_tool_show.specs.ToldItems.{after_runs, end_line, lines_so_far, runs_lines, shown_line, shown_lines, tally_so_far}
pub use Rattle.osdp_tool_streams.specs.declared.form.Form.{Form}
pub use Rattle.osdp_tool_streams.specs.FinalAnswer.{final_answer_of}
pub use Rattle.osdp_tool_streams.specs.declared.fault.ToolFault.{ToolFault}
pub use Rattle.osdp_tool_streams.specs.declared.fault.ToolFault.TheVariants.{NoMemory, NotHex, ReadFailed, TooLong, WriteFailed}
pub use Rattle.osdp_tool_show.specs.declared.detail.Detail.{Detail}
pub use Rattle.osdp_tool_show.specs.Ending.{Ends, EndsAtBadLine, EndsAtFailedRead, EndsPartWay, EndsPastLimit, EndsWhole, IsWhole, Stream, streamed, watched}
pub use Rattle.osdp_tool_show.specs.Works.{Answered, Closed, EndedInput, EndsLine, ReadPart, ReadToBadLine, ReadToEnd, ReadToLimit, StopsAtEnd, StopsClosing, Works}
pub use Rattle.osdp_tool_show.specs.declared.tally.Tally.{Tally}
pub use Rattle.osdp_tool_show.specs.ItemText.{bits_text, body_text, counts_line, data_text, direction_name, fault_name, is_refusal, item_line, item_text, message_text, refusal_text, told_text, unread_text}
pub use Rattle.osdp_msg.specs.declared.fault.MsgFault.{MsgFault}
pub use Rattle.osdp_msg.specs.declared.fault.MsgFault.TheVariants.{Count, Length, UnknownCode}
pub use Rattle.osdp_msg.specs.CommandTable.{command_of, CommandFits, IsCommand}
pub use Rattle.osdp_msg.specs.ReplyTable.{IsReply, reply_of, ReplyFits}
pub use Rattle.osdp_msg_laws.specs.Laws.{HasOneSpelling, HasOneText, HasPlainWords, IsPlainCharacter, ReadsTheTable}
pub use Rattle.osdp_msg_laws.proofs.CommandLaws.{command_laws}
pub use Rattle.osdp_msg_laws.proofs.ReplyLaws.{reply_laws}
pub use Rattle.osdp_tool_show.specs.Laws.{HasOneCount, HasOneItem, HasOneLine, IsCount, IsItem}
pub use Rattle.osdp_frame.specs.Packet.{IsPacket, Packet, packet_length}
pub use Rattle.osdp_frame.specs.Spelling.{spelling, start_of_message}
pub use Rattle.osdp_frame.proofs.Head.{AreBytes-append, AreBytes-drop, AreBytes-nil, AreBytes-take}
pub use Rattle.osdp_tool_streams.specs.declared.form.Form.TheVariants.{Apart, Joined, Raw}
pub use Rattle.osdp_tool_streams.specs.Runs.{closed_runs, ended_runs, first_bad, first_bad_ended, open_run, runs_of, with_bytes}
pub use Rattle.osdp_tool_streams.proofs.Lengths.{runs_short, said_short}
pub use Rattle.osdp_tool_show.specs.declared.detail.Detail.TheVariants.{Filtered, Full, Refusals}
pub use Rattle.osdp_tool_show.specs.Told.{AreReadings, count_items, end_text, HasRuns, HasRunsSoFar, is_packet, is_skipped, items_text, readings_text, Say, Says, SaysSoFar, TellsRuns}
pub use Rattle.osdp_frame.specs.declared.check_kind.CheckKind.{CheckKind}
pub use Rattle.osdp_frame.specs.declared.check_kind.CheckKind.TheVariants.{Crc, Sum}
pub use Rattle.osdp_frame.specs.declared.fault.FrameFault.{FrameFault}
pub use Rattle.osdp_frame.specs.Check.{check_name}
pub use Rattle.osdp_frame.specs.declared.fault.FrameFault.TheVariants.{TooShort}
pub use Rattle.osdp_frame_laws.proofs.LeftOver.{gap_items, items_nothing, left_bytes, left_is, left_nothing, left_over-append, reading_split, takes_some}
pub use Rattle.osdp_tool_streams.specs.Line.{is_blank, kept, line_bytes, said}
pub use Rattle.osdp_tool_streams.proofs.FormLemmas.{bad_stays, end_apart, end_bad, end_joined, ended_lines-feed, ended_lines-hold, feed_apart, feed_bad, feed_joined, hold_runs, kept-append, unended_line-feed, unended_line-hold}
pub use Rattle.osdp_frame.proofs.Decided.{AreBytes-front, first_decided, undecided_ended, undecided_none}
pub use Rattle.osdp_tool_streams.specs.Cut.{ended_lines, HasLine, IsLine, last_line, line_feed, lines_of, unended_line}
pub use Rattle.osdp_tool_streams.proofs.Bytes.{good_front-bytes, is_cut}
pub use Rattle.osdp_frame.specs.Shown.{item_of}
