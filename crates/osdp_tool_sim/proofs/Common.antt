-- The names that most proofs of this crate cite, passed on from one place. Declares nothing.
pub use Rattle.std.proofs.Common.{[], add-one, ap, append-nil, append_assoc, arith, Bool, codes, drop, drop-cons, Err, false, get_or, IfOk, inl, inr, length, length-append, length-take, List, lit<, map, None, not, Ok, OnOk, Option, refl, Result, Some, string_bytes, subst, suc, sym, take, true, zero, ℕ, ◌*◌, ◌++◌, ◌+◌, ◌-◌, ◌<◌, ◌==◌, ◌^◌, ◌||◌, ◌∙◌, ◌∷◌, ◌≡◌, ◌≢◌, ◌≤◌}
pub use Rattle.std.specs.Global.{Vec}
pub use Rattle.std.specs.Io.KnownBytes.{Appends, Consumes, IsAtEnd, Keeps}
pub use Rattle.std.proofs.KnownBytes.{Appends-kept, Consumes-kept, Consumes-trans}
pub use Rattle.std.proofs.lemmas.List.Elements.{All-head, All-tail}
pub use Rattle.std.specs.Fmt.{decimal}
pub use Rattle.std.specs.List.{All, AllByRecursion, flat_map, join_with_byte, list_all, list_any}
pub use Rattle.std.proofs.lemmas.List.{append_cancel_left, append_cancel_right, length-map, map-append}
pub use Rattle.osdp_bus.specs.Settings.{default_config, IsBusConfig}
pub use Rattle.osdp_script.specs.declared.script.Script.{Script}
pub use Rattle.osdp_script.specs.Script.{line_steps, lines_steps, Plan, steps_of, with_line}
pub use Rattle.osdp_script.specs.Handler.{handler_after, handler_answer, new_handler}
pub use Rattle.osdp_script.specs.declared.handler.ScriptReader.{ScriptReader}
pub use Rattle.osdp_sim.specs.declared.fault.Cause.{Cause}
pub use Rattle.osdp_sim.specs.declared.fault.Fault.{Fault}
pub use Rattle.osdp_sim.specs.declared.step.SimStep.{SimStep}
pub use Rattle.osdp_sim.specs.Account.{Account, lists_of}
pub use Rattle.osdp_sim.specs.State.{room_for}
pub use Rattle.osdp_sim_bus.specs.Runs.{are_apart, is_at, is_reader_in_range, lists_of_all, RunEnds, Stops, StopsAt}
pub use Rattle.osdp_sim_bus.specs.State.{accounts, Given}
pub use Rattle.osdp_sim_bus_laws.specs.Accounts.{BusAnswer, OfEach}
pub use Rattle.osdp_tool_streams.specs.declared.fault.ToolFault.{ToolFault}
pub use Rattle.osdp_tool_sim.specs.AccountText.{account_text, AddsNext, command_line, counts_line, end_name, end_words, ended_line, line_text, lines_text, named, reported_line, settled_line, settled_words, texts_from}
pub use Rattle.osdp_tool_sim.specs.Several.{line_of, readers_from, TellsEach}
pub use Rattle.osdp_tool_sim.specs.Steps.{EndsBy, RunTells, steps_taken}
pub use Rattle.osdp_tool_sim.specs.Told.{IsTextOfEach, IsTextOfOne, Tells, TellsReaders}
pub use Rattle.osdp_script.specs.Lines.{IsSetting, LineFits}
pub use Rattle.osdp_script.specs.Reading.{AreRead, IsBadLine, IsFree, IsRead, IsScriptOf}
pub use Rattle.osdp_sim.specs.Steps.{after_step, fault_of}
pub use Rattle.osdp_tool_streams.specs.declared.fault.ToolFault.TheVariants.{BadStep, BadWords, HoldsPacket, NoMemory, NotHex, NotQuiet, ReadFailed, TooLong, WriteFailed}
pub use Rattle.osdp_tool_sim.specs.One.{config_of, start_of, TellsOne}
pub use Rattle.osdp_tool_streams.specs.FinalAnswer.{final_answer_of}
pub use Rattle.osdp_tool_sim.specs.Ending.{AreFailed, Ends, EndsWhole, IsTold, IsWhole, PrintedPart, Says, SaysOf}
pub use Rattle.osdp_tool_sim.specs.Reading.{ReadsPastLimit, ReadsSome, ReadsToEnd}
pub use Rattle.osdp_msg.specs.CommandTable.{CommandFits}
pub use Rattle.osdp_msg.specs.Events.{event_reply, event_text, event_words, EventFits}
pub use Rattle.osdp_msg_laws.proofs.PrintedWords.{ArePrintedWords, both_printed, IsPrintedWord, IsTextCharacter, name_printed, number_printed, plain_words_printed, same_printed, text_shown}
pub use Rattle.osdp_words.specs.Word.{plain, printed, text_of, Word}
pub use Rattle.osdp_tool_sim.specs.Laws.{AccountFits, HasOneAccount, HasOneEach, PairFits, TellSame}
pub use Rattle.osdp_msg.specs.declared.command.Command.{Command}
pub use Rattle.osdp_msg.specs.declared.reply.Reply.{Reply}
pub use Rattle.osdp_msg.specs.declared.event.Event.{Event}
pub use Rattle.osdp_script.specs.Schedule.{steps_left}
pub use Rattle.osdp_tool_streams.specs.Watched.{has_failed, inner_of}
pub use Rattle.osdp_msg.specs.Kept.{command_kept, event_kept}
pub use Rattle.osdp_msg.specs.CommandText.{command_words}
