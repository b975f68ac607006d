-- The names that most proofs of this crate cite, passed on from one place. Declares nothing.
pub use Rattle.std.proofs.Common.{[], ap, arith, Bool, codes, cond, drop, eqb, false, get_or, inl, inr, length, length-append, List, lit<, lit≤, ltb, map, None, not, Option, refl, replicate, Result, Some, subst, suc, suc-mul, sym, true, zero, ℕ, ◌&&◌, ◌*◌, ◌++◌, ◌+◌, ◌-◌, ◌/◌, ◌<◌, ◌^◌, ◌||◌, ◌↔◌, ◌∙◌, ◌∷◌, ◌≡◌, ◌≤◌}
pub use Rattle.std.specs.Prelude.{nat_le, slice_index, ◌≢◌, ◌⊎◌}
pub use Rattle.std.proofs.lemmas.Bool.{eqb-false, eqb-true, false_from_ne_true, le-ltb, leb-true, lt-ltb, ltb-false, ltb-true, true≢false}
pub use Rattle.std.proofs.lemmas.List.Elements.{All-cons, All-head, All-nil, All-replicate, All-tail}
pub use Rattle.std.specs.List.{All, AllByRecursion, AllZip, flat_map, slice_split}
pub use Rattle.std.specs.Fmt.{decimal, digit_glyph}
pub use Rattle.std.proofs.lemmas.Fmt.{decimal_is_IsNumeral, length-decimal-le}
pub use Rattle.std.specs.Str.Iter.{LacksByte}
pub use Rattle.osdp_msg.specs.Refusal.{refusal, unless_fault}
pub use Rattle.osdp_msg.proofs.Table.{bounded, by_codes, IsTable, one_value, passes, reading, some_is, unless_err}
pub use Rattle.osdp_msg_laws.specs.Faults.{CommandCounts, CountIsWrong, FaultsHaveCauses, IsKnown, ReplyCounts}
pub use Rattle.osdp_msg.specs.declared.command.Command.{Command}
pub use Rattle.osdp_msg.specs.declared.command.Command.TheVariants.{Buzzer, Cap, Comset, Id, InputStatus, Led, LocalStatus, Maker, Output, OutputStatus, Poll, ReaderStatus, Text}
pub use Rattle.osdp_msg.specs.declared.command_fields.MakerMessage.{MakerMessage}
pub use Rattle.osdp_msg.specs.CommandFields.{buzzer_at, buzzer_words, BuzzerFits, communication_words, CommunicationFits, led_at, led_data, led_word, LedFits, maker_words, MakerFits, output_at, output_data, output_word, OutputFits, text_words, TextFits}
pub use Rattle.osdp_msg.proofs.Bytes.{IsBytes-cons, IsBytes-each, IsBytes-nil, number_2, number_4}
pub use Rattle.osdp_msg.proofs.CommandRows.{buzzer_spells, communication_spells, leds, maker_spells, outputs, text_spells}
pub use Rattle.osdp_msg.proofs.Commands.{commands}
pub use Rattle.hex.specs.Hex.{IsBytes, upper_digits}
pub use Rattle.osdp_msg.proofs.RecordLists.{records_spell}
pub use Rattle.osdp_msg.specs.CommandTable.{CommandFits}
pub use Rattle.osdp_msg.proofs.CommandTextRows.{command_fields, command_name}
pub use Rattle.osdp_msg.proofs.RowTexts.{differ}
pub use Rattle.osdp_msg.specs.declared.event.Event.{Event}
pub use Rattle.osdp_msg.specs.declared.reply.Reply.{Reply}
pub use Rattle.osdp_msg.specs.Events.{event_reply, event_text, event_words, EventFits}
pub use Rattle.hex.proofs.HexLemmas.{length-encode_with}
pub use Rattle.osdp_words.specs.Word.{AllStandFor, AreWords, bytes, IsWord, number, numbers, plain, printed, StandsFor, text_of, Word}
pub use Rattle.osdp_msg.specs.declared.capability.Capability.{Capability}
pub use Rattle.osdp_msg.specs.declared.leds.LedRecord.{LedRecord}
pub use Rattle.osdp_msg.specs.declared.outputs.OutputRecord.{OutputRecord}
pub use Rattle.osdp_msg.specs.declared.reply.Reply.TheVariants.{Ack, Busy, Com, Formatted, Inputs, Keypad, LocalState, MakerReply, Nak, Outputs, PdCap, PdId, Raw, Readers}
pub use Rattle.osdp_msg.specs.NakReasons.{reason_number, reason_of}
pub use Rattle.osdp_msg.specs.Raw.{RawCard}
pub use Rattle.osdp_msg.specs.ReplyFields.{capability_at, capability_data, capability_word, CapabilityFits, detail_words, formatted_words, FormattedFits, keypad_words, KeypadFits, local_state_at, local_state_words, LocalStateFits, nak_words, NakFits, pd_id_words, PdIdFits, raw_words, RawFits}
pub use Rattle.osdp_msg.specs.ReplyTable.{ReplyFits}
pub use Rattle.osdp_msg.proofs.ReplyRows.{capabilities, formatted_spells, keypad_spells, local_state_spells, nak_spells, pd_id_spells, raw_spells, reason_again, reason_byte}
pub use Rattle.osdp_msg_laws.specs.Laws.{FitsAPacket, FitsByKind, HasLongestText, HasLowByteFirst, HasOneMeaning, HasOneSpelling, HasOneText, HasOneValue, HasPlainWords, IsPlainCharacter, IsPlainWord, ReadsTheFaults, ReadsTheTable}
pub use Rattle.osdp_words.proofs.WordLaws.{are_all_words, has_one_word, is_decimal, lacks-cons, parts_at_colons, stands_for_itself}
pub use Rattle.byteorder.specs.Endian.{little_bytes, little_number}
pub use Rattle.osdp_msg.specs.CommandText.{command_words}
pub use Rattle.osdp_msg.proofs.ReplyTextRows.{reply_fields, reply_name}
pub use Rattle.osdp_msg.specs.ReplyText.{reply_words}
pub use Rattle.osdp_words.proofs.TextLaws.{parts_at_spaces}
pub use Rattle.osdp_msg.proofs.Replies.{replies}
