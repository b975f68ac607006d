-- The names that most proofs of this crate cite, passed on from one place. Declares nothing.
pub use Rattle.std.proofs.Common.{[], ap, append_assoc, arith, Bool, codes, drop, false, get_or, is_some, IsTrue, length, List, map, None, Option, refl, replicate, rules, Some, subst, suc, sym, zero, ℕ, ◌++◌, ◌+◌, ◌-◌, ◌/◌, ◌<◌, ◌↔◌, ◌∙◌, ◌∷◌, ◌≡◌, ◌≤◌}
pub use Rattle.std.proofs.lemmas.List.Elements.{All-from_recursion, recursion_from_All}
pub use Rattle.std.specs.Fmt.{decimal}
pub use Rattle.std.specs.List.{AllByRecursion}
pub use Rattle.std.proofs.lemmas.List.{append-nil, length-append, length-replicate, nil_from_length}
pub use Rattle.osdp_words.specs.Word.{AllStandFor, bytes, number, printed, StandsFor, texts, Word}
pub use Rattle.osdp_msg.proofs.Bytes.{IsBytes-cons, IsBytes-each, IsBytes-nil}
pub use Rattle.osdp_msg.proofs.RowTexts.{differ}
pub use Rattle.osdp_msg.specs.CommandFields.{led_word, LedFits, output_word, OutputFits}
pub use Rattle.osdp_refused_words.specs.Messages.{HasNoCommand, HasNoReply, IsCountOf, SaysCommand, SaysCommandOf, SaysReply, SaysReplyOf}
pub use Rattle.osdp_refused_words.specs.Slots.{Fills, IsSlot, SaysRecords, slot_word, SlotFits, SlotTakes, SlotValue}
pub use Rattle.osdp_refused_words.specs.Stops.{GoesOn, Stops, StopsAt}
pub use Rattle.hex.specs.Hex.{IsBytes}
pub use Rattle.osdp_refused_words.specs.declared.slot.Slot.{Slot}
pub use Rattle.osdp_refused_words.specs.declared.slot.Slot.TheVariants.{Bytes, Capability, Led, Number, Output, Text}
pub use Rattle.osdp_msg.specs.ReplyFields.{capability_word, CapabilityFits, detail_words, raw_words, RawFits}
