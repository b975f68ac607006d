-- The names that most proofs of this crate cite, passed on from one place. Declares nothing.
pub use Rattle.std.proofs.Common.{[], add-zero, ap, append_assoc, arith, Bool, codes, cond, drop, eqb, Err, false, get_or, inl, inr, IsTrue, leb, length, List, lit<, lit≤, ltb, map, None, not, Ok, Option, refl, Result, rules, slice_index, Some, subst, suc, sym, take, true, zero, ℕ, ◌%◌, ◌&&◌, ◌*◌, ◌++◌, ◌+◌, ◌-◌, ◌/◌, ◌<◌, ◌==◌, ◌^◌, ◌||◌, ◌↔◌, ◌∙◌, ◌∷◌, ◌≡◌, ◌≢◌, ◌≤◌}
pub use Rattle.std.specs.List.{All, AllByRecursion, flat_map}
pub use Rattle.std.proofs.lemmas.Bool.{cases_lt, eq-eqb, eqb-false, eqb-true, le-leb, le-ltb, leb-true, ltb-false, ne_eqb, true≢false}
pub use Rattle.std.proofs.lemmas.List.{append-nil, drop_at, flat_map_more, get_or-drop, get_or-take, get_or_past, length-append, length-drop, length-take, map_push, nil_from_length, take-append-drop, take_at, take_more}
pub use Rattle.std.proofs.Math.Nat.{add-div_left, div-add-mod, div-lt_iff_lt-mul, mul-div_cancel_left, mul-le-mul_left, mul-mod_right, mul-suc}
pub use Rattle.std.specs.Prelude.{IfErr, IfOk, IfSome, nat_le, option_map, unwrap_or}
pub use Rattle.std.specs.Bool.{then_some}
pub use Rattle.std.proofs.lemmas.List.Concat.{flat_map-cons}
pub use Rattle.std.proofs.lemmas.List.Elements.{All-cons, All-head, All-more, All-nil, All-push, All-tail}
pub use Rattle.hex.specs.Hex.{IsBytes}
pub use Rattle.byteorder.specs.Endian.{little_bytes, little_number}
pub use Rattle.osdp_msg.specs.declared.command_fields.Communication.{Communication}
pub use Rattle.osdp_msg.specs.declared.command_fields.MakerMessage.{MakerMessage}
pub use Rattle.osdp_msg.specs.declared.command_fields.Text.{Text}
pub use Rattle.osdp_msg.specs.declared.leds.LedRecord.{LedRecord}
pub use Rattle.osdp_msg.specs.CommandFields.{buzzer_at, buzzer_data, buzzer_words, BuzzerFits, communication_at, communication_data, communication_words, CommunicationFits, led_at, led_data, led_word, LedFits, maker_at, maker_data, maker_words, MakerFits, output_at, output_data, output_word, OutputFits, text_at, text_data, text_words, TextFits}
pub use Rattle.osdp_msg.specs.Records.{IsRecord, records_at, records_from}
pub use Rattle.osdp_words.specs.Word.{AllStandFor, AreWithin, bytes, number, numbers, plain, printed, StandsFor, Word}
pub use Rattle.osdp_msg.specs.declared.command.Command.{Command}
pub use Rattle.osdp_msg.specs.declared.command.Command.TheVariants.{Buzzer, Cap, Comset, Id, InputStatus, LocalStatus, OutputStatus, Poll, ReaderStatus}
pub use Rattle.osdp_msg.specs.declared.fault.MsgFault.{MsgFault}
pub use Rattle.osdp_msg.specs.Refusal.{refusal, unless_fault}
pub use Rattle.osdp_msg.specs.declared.reply.Reply.{Reply}
pub use Rattle.osdp_msg.specs.Kept.{command_from, command_kept, event_from, event_kept, reply_from, reply_kept}
pub use Rattle.arrayvec.specs.ArrayVec.{array_vec_len, ArrayVec}
pub use Rattle.osdp_words.specs.Reading.{Reads, ReadsWords, Takes}
pub use Rattle.osdp_words.proofs.Rows.{all_read, front_missing, IsMadeOf, made_taken, more_left, none_read, pair_taken, pair_words, PairAllowed}
pub use Rattle.osdp_msg.specs.declared.event_fields.Formatted.{Formatted}
pub use Rattle.osdp_msg.specs.declared.event_fields.Keypad.{Keypad}
pub use Rattle.osdp_msg.specs.declared.reply_fields.Nak.{Nak}
pub use Rattle.osdp_msg.specs.declared.reply_fields.PdId.{PdId}
pub use Rattle.osdp_msg.specs.NakReasons.{reason_number, reason_of, ReasonFits}
pub use Rattle.osdp_msg.specs.Raw.{raw_card, RawCard}
pub use Rattle.osdp_msg.specs.ReplyFields.{capability_at, capability_data, capability_word, CapabilityFits, detail_words, formatted_at, formatted_data, formatted_words, FormattedFits, keypad_at, keypad_data, keypad_words, KeypadFits, local_state_at, local_state_data, local_state_words, LocalStateFits, nak_at, nak_data, nak_words, NakFits, pd_id_at, pd_id_data, pd_id_words, PdIdFits, raw_at, raw_data, raw_words, RawFits}
pub use Rattle.osdp_msg.specs.ReplyTable.{reply_code, reply_data, ReplyFits, StatesFit}
pub use Rattle.osdp_msg.specs.ListedCommands.{AreWhole, HasLength}
pub use Rattle.osdp_msg.specs.declared.reply.Reply.TheVariants.{Ack, Busy, Com, LocalState}
pub use Rattle.osdp_msg.specs.CommandTable.{CommandFits}
