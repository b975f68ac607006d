use Rattle.osdp_msg.proofs.Common.{◌^◌, refl, ◌∙◌, KeypadFits, keypad_words}
use Rattle.osdp_msg.proofs.ParsedRows.{keypad_from, keypad_made, keypad_parts}
use Rattle.osdp_msg.proofs.TakenParts.{IsBelow, IsList, list_words, number_words, two_no_back, two_no_front, two_whole, within}
use Rattle.osdp_msg.proofs.event_fields.Keypad.parse.Goals as goal

pub returns-in_err-reader : goal.returns-in_err-reader
returns-in_err-reader c =
    two_no_front number_words (IsBelow (2 ^ 8)) list_words (IsList 255) keypad_words KeypadFits keypad_from keypad_parts keypad_made _ _ _ c.in_err-reader.ensures c.from_residual.ensures

pub returns-in_err-digits : goal.returns-in_err-digits
returns-in_err-digits c =
    two_no_back number_words (IsBelow (2 ^ 8)) list_words (IsList 255) keypad_words KeypadFits keypad_from keypad_parts keypad_made _ _ _ _ _ c.in_ok-reader.ensures c.in_err-digits.ensures c.from_residual-in_err-digits.ensures

pub returns-then-not-is_empty : goal.returns-then-not-is_empty
returns-then-not-is_empty c =
    two_whole number_words (IsBelow (2 ^ 8)) list_words (IsList 255) keypad_words KeypadFits keypad_from keypad_parts keypad_made _ _ _ _ _ _ _ c.in_ok-reader.ensures c.in_ok-digits.ensures c.if-not-is_empty.ensures refl

pub returns : goal.returns
returns c =
    let made = c.new.ensures ∙ within 255 _ _ c.in_ok-digits.digits _ (λ l. keypad_from (c.in_ok-reader.reader, l)) c.in_ok-digits.ensures c.bytes.ensures.value in
    two_whole number_words (IsBelow (2 ^ 8)) list_words (IsList 255) keypad_words KeypadFits keypad_from keypad_parts keypad_made _ _ _ _ _ _ _ c.in_ok-reader.ensures c.in_ok-digits.ensures c.if-not-is_empty.ensures made
