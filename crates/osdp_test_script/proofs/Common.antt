-- The names that most proofs of this crate cite, passed on from one place. Declares nothing.
pub use Rattle.std.proofs.Common.{[], ap, append_assoc, arith, Bool, codes, drop, false, get_or, if◌then◌else◌, inl, inr, length, List, nat_lt, None, not, OnOk, Option, refl, rules, Some, string_bytes, subst, suc, sym, true, zero, ℕ, ◌&&◌, ◌++◌, ◌+◌, ◌-◌, ◌<◌, ◌==◌, ◌^◌, ◌∙◌, ◌∷◌, ◌≡◌, ◌≤◌, ◌⊎◌}
pub use Rattle.std.specs.Borrow.{Bor}
pub use Rattle.std.specs.Option.{option_copied, unwrap_or}
pub use Rattle.std.proofs.lemmas.List.{length-append, nil_from_length}
pub use Rattle.osdp_test_script.specs.Runs.{after_text, answer_heard, answer_taken, Called, Comes, counted, counts_line, ends, goes_out, heard_exchange, hears, hears_by, is_put_off, is_whole, packet_of, settled, with_heard}
pub use Rattle.osdp_frame.specs.Check.{check_name}
pub use Rattle.osdp_frame.specs.declared.check_kind.CheckKind.{CheckKind}
pub use Rattle.osdp_msg.proofs.RowTexts.{differ, IsRow, row_read}
pub use Rattle.osdp_refused_words.specs.Stops.{GoesOn, StopsAt}
pub use Rattle.osdp_words.specs.Word.{AllStandFor, bytes, number, plain, texts}
pub use Rattle.osdp_test_script.specs.Awaited.{awaited_code, awaited_name}
pub use Rattle.osdp_test_script.specs.Calls.{call_fields, call_name, call_words, CallFits, IsHeard, IsPlace, permit_text, PermitFits, term_words, TermFits}
pub use Rattle.osdp_test_script.specs.Lines.{HasNoLine, SaysLine, SaysLineOf, SaysTerm}
pub use Rattle.osdp_test_script.specs.declared.awaited.Awaited.{Awaited}
pub use Rattle.osdp_test_script.specs.declared.awaited.Awaited.TheVariants.{Ack, Busy, Com, Formatted, Inputs, Keypad, LocalState, Maker, Nak, Outputs, PdCap, PdId, Raw, Readers, Same, Silence}
pub use Rattle.osdp_test_script.specs.declared.call.Term.{Term}
pub use Rattle.osdp_test_script.specs.declared.call.ScriptCall.{ScriptCall}
pub use Rattle.osdp_test_script.specs.declared.call.ScriptCall.TheVariants.{Check, Counts, Damage, Device, Expect, Heard, Keep, Lose, May, Reads as ReadsLine, Ready, Reopen, Repeat, Send, Wait}
pub use Rattle.osdp_test_script.specs.Laws.{AwaitsByName, count_of, CountsEachVerdict, IsUnanswered, TriesAgain}
pub use Rattle.osdp_frame.specs.Packet.{Packet, packet_length}
pub use Rattle.osdp_frame.specs.Reading.{item_size, PacketItem, RefusedItem, RunItem, SkippedItem, Stands}
pub use Rattle.osdp_test_script.specs.Answers.{EndsWith, is_reply_to, is_passed, IsAnswerIn, PassesTo}
pub use Rattle.arrayvec.specs.ArrayVec.{ArrayVec}
pub use Rattle.osdp_frame.specs.Times.{longest_time}
pub use Rattle.osdp_test_script.specs.Texts.{text_in, wrong_word_text}
pub use Rattle.osdp_refused_words.proofs.Places.{one_place, stays_refused, tells_missing_words}
