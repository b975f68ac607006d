-- The names that most proofs of this crate cite, passed on from one place. Declares nothing.
pub use Rattle.std.proofs.Common.{[], ap, append-nil, arith, Bool, codes, cond, drop, Err, false, filter, flat_map, if◌then◌else◌, inl, inr, length, length-append, length-drop, List, map, None, not, Ok, Option, refl, Result, Some, string_bytes, subst, suc, sym, take, true, ℕ, ◌++◌, ◌+◌, ◌-◌, ◌<◌, ◌==◌, ◌^◌, ◌↔◌, ◌∙◌, ◌∷◌, ◌≡◌, ◌≤◌, ◌⊎◌}
pub use Rattle.std.proofs.lemmas.List.{drop_all, take_rest}
pub use Rattle.std.specs.Io.KnownBytes.{Appends, Consumes, IsAtEnd, Keeps}
pub use Rattle.std.specs.Option.{option_map}
pub use Rattle.std.proofs.Math.Seq.{drop-drop, take-length}
pub use Rattle.std.specs.Prelude.{IsUtf8, MatchOption, slice_get}
pub use Rattle.std.proofs.lemmas.Bool.{ne_eqb, true≢false}
pub use Rattle.std.specs.List.{count_by, onto_first, slice_split}
pub use Rattle.osdp_tool_streams.specs.Cut.{HasLine, IsLine, last_line, lines_of}
pub use Rattle.osdp_tool_streams.specs.declared.fault.ToolFault.{ToolFault}
pub use Rattle.osdp_tool_streams.specs.declared.fault.ToolFault.TheVariants.{BadStep, BadWords, HoldsPacket, NoMemory, NotHex, NotQuiet, ReadFailed, TooLong, WriteFailed}
pub use Rattle.osdp_tool_test.specs.Ending.{Ends, IsPart, IsRead, IsReported, Judges, PastLimit, status_of}
pub use Rattle.osdp_tool_test.specs.Entries.{Told, told, with_finding}
pub use Rattle.osdp_tool_test.specs.Laws.{EndsByItsLines, EndsInTurn, IsReportedInPart, IsToldInTurn, WasStopped}
pub use Rattle.osdp_tool_test.specs.Report.{entry_text, has_outcome, report_text}
pub use Rattle.osdp_tool_test.specs.Running.{asking_words, AsksForm, AsksNone, Tests}
pub use Rattle.osdp_tool_test.specs.declared.report.Form.{Form}
pub use Rattle.osdp_tool_test.specs.declared.report.Form.TheVariants.{Plain, Tap}
pub use Rattle.osdp_tool_test.specs.Lines.{asks, breaks, device, exchange_words, ExchangeFits, heard_words, HeardFits, IsList, keeps, LeftOut, Line, opens, pair_words, PairFits, said_fields, said_name, said_of, said_words, SaidFits, sent_words, SentFits, skip_of, skips, skips_words, times}
pub use Rattle.osdp_tool_test.specs.Rules.{IsRule, IsWithin, rule_in}
pub use Rattle.osdp_tool_test.specs.Table.{device_rules, row, Row}
pub use Rattle.osdp_tool_test.specs.Tests.{after_breaks, after_each, after_exchange, after_keeps, after_said, after_seen, after_times, all_entries, begun_done, begun_entry, broken_entry, DeviceFinds, DeviceStops, DeviceTest, judged_entry, left_out, model, new_test, timed_entry, with_entry, with_known, with_run}
pub use Rattle.osdp_tool_test.specs.declared.exchange.Exchange.{Exchange}
pub use Rattle.osdp_tool_test.specs.Judging.{Finds, RefusesLine, Stops, StopsAt, TakesAll, TakesLine, TakesOr}
pub use Rattle.osdp_words.specs.Word.{AllStandFor, bytes, number, plain, StandsFor, texts, Word, words_in}
pub use Rattle.osdp_tool_test.specs.Saying.{after_all, IsComment, IsFirstBad, LineSays, LinesFind, LinesSay, RefusesSaid, SaysNone, ShowsByRows, TakesSaid, WordsSay}
pub use Rattle.arrayvec.specs.ArrayVec.{ArrayVec}
pub use Rattle.osdp_msg.proofs.RowTexts.{differ, made_row_read}
