-- The names that most proofs of this crate cite, passed on from one place. Declares nothing.
pub use Rattle.std.proofs.Common.{[], ap, append_assoc, arith, Bool, codes, cond, drop, eqb, false, filter, get_or, inl, inr, IsTrue, length, List, lit<, map, nat_le, None, not, Option, refl, rules, set, Some, subst, suc, sym, take, take-append-drop, true, zero, ℕ, ◌++◌, ◌+◌, ◌-◌, ◌<◌, ◌==◌, ◌^◌, ◌||◌, ◌∙◌, ◌∷◌, ◌≡◌, ◌≢◌, ◌≤◌}
pub use Rattle.std.proofs.lemmas.List.{append_cancel_left, drop_all, drop_more, get_or-set_other, get_or-set_same, length-append, length-drop, length-set, map-append, take_all}
pub use Rattle.std.proofs.lemmas.Bool.Decides.{nat_tests}
pub use Rattle.std.proofs.lemmas.Bool.{both_ways, ne_eqb}
pub use Rattle.std.specs.List.{All, AllByRecursion, flat_map}
pub use Rattle.std.proofs.lemmas.List.Elements.{All-append, All-cons, All-head, All-nil, All-tail}
pub use Rattle.std.specs.Prelude.{option_map}
pub use Rattle.osdp_tool_streams.specs.Cut.{ended_lines, IsLine, last_line, line_feed, lines_of, unended_line}
pub use Rattle.osdp_tool_streams.proofs.CutLemmas.{ended_after-feed, ended_after-line, ended_lines-cut, unended_after-feed, unended_after-line}
pub use Rattle.osdp_script.specs.Words.{BeginsWithLine, characters, is_passed_over}
pub use Rattle.osdp_script.specs.Reading.{AreRead, IsBad, IsBadLine, IsFirstBad, IsFree, IsInPlace, IsRead, IsScriptOf, IsTold, Says, SaysNothing}
pub use Rattle.osdp_script.specs.Script.{no_plan, Plan, with_line}
pub use Rattle.osdp_words.specs.Reading.{ReadsWords}
pub use Rattle.osdp_words.specs.Word.{AllStandFor, bytes, number, plain, printed, text_of, texts, Word, words_in}
pub use Rattle.osdp_script.specs.declared.script.ScriptLine.{ScriptLine}
pub use Rattle.osdp_script.specs.Lines.{IsHappening, IsOrder, IsReader, IsSetting, line_fields, line_name, line_words, LineFits, move_words, MoveFits, StepFits, switch_word}
pub use Rattle.osdp_script.specs.Kept.{line_of, lines_kept, own_size}
pub use Rattle.osdp_frame.specs.Check.{check_name}
pub use Rattle.osdp_frame.specs.declared.check_kind.CheckKind.{CheckKind}
pub use Rattle.osdp_frame.specs.declared.check_kind.CheckKind.TheVariants.{Crc, Sum}
pub use Rattle.osdp_msg.specs.declared.command.Command.{Command}
pub use Rattle.osdp_msg.specs.declared.event.Event.{Event}
pub use Rattle.osdp_msg.specs.CommandText.{command_words}
pub use Rattle.osdp_msg.specs.Events.{event_reply, event_words, EventFits}
pub use Rattle.osdp_msg.proofs.RowTexts.{differ, IsRow, row_read}
pub use Rattle.osdp_sim.specs.declared.step.Move.{Move}
pub use Rattle.osdp_sim.specs.declared.step.Move.TheVariants.{Damage, Deliver, Drop, Repeat}
pub use Rattle.osdp_sim.specs.declared.step.SimStep.TheVariants.{Busy, Issue, Queue, Reopen, ToController, ToReader, Wait}
pub use Rattle.osdp_script.specs.declared.script.ScriptLine.TheVariants.{Check, Clean, Reader, Step}
pub use Rattle.osdp_script.specs.declared.script.Script.{Script}
pub use Rattle.osdp_script.specs.Settings.{AreApart, AreReaders, HasReaders}
pub use Rattle.osdp_script.specs.Outputs.{outputs_after, switched, switches_off, switches_on}
pub use Rattle.osdp_script.specs.Drafts.{Judges, plan_of}
