use Rattle.osdp_msg.proofs.Common.{refl, ◌∙◌, FormattedFits, formatted_words}
use Rattle.osdp_msg.proofs.ParsedRows.{formatted_from, formatted_made, formatted_parts}
use Rattle.osdp_msg.proofs.TakenParts.{AreNumbers, IsList, list_words, numbers_words, two_no_back, two_no_front, two_whole, within}
use Rattle.osdp_msg.proofs.event_fields.Formatted.parse.Goals as goal

pub returns-in_err-reader : goal.returns-in_err-reader
returns-in_err-reader c = two_no_front numbers_words (AreNumbers 2) list_words (IsList 255) formatted_words FormattedFits formatted_from formatted_parts formatted_made _ _ _ c.in_err-reader.ensures c.from_residual.ensures

pub returns-in_err-digits : goal.returns-in_err-digits
returns-in_err-digits c = two_no_back numbers_words (AreNumbers 2) list_words (IsList 255) formatted_words FormattedFits formatted_from formatted_parts formatted_made _ _ _ _ _ c.in_ok-reader.ensures c.in_err-digits.ensures c.from_residual-in_err-digits.ensures

pub returns-then-not-is_empty : goal.returns-then-not-is_empty
returns-then-not-is_empty c = two_whole numbers_words (AreNumbers 2) list_words (IsList 255) formatted_words FormattedFits formatted_from formatted_parts formatted_made _ _ _ _ _ _ _ c.in_ok-reader.ensures c.in_ok-digits.ensures c.if-not-is_empty.ensures refl

pub returns : goal.returns
returns c =
    let made = c.new.ensures ∙ within 255 _ _ c.in_ok-digits.digits _ (λ l. formatted_from (c.in_ok-reader.field-0, l)) c.in_ok-digits.ensures c.bytes.ensures.value in
    two_whole numbers_words (AreNumbers 2) list_words (IsList 255) formatted_words FormattedFits formatted_from formatted_parts formatted_made _ _ _ _ _ _ _ c.in_ok-reader.ensures c.in_ok-digits.ensures c.if-not-is_empty.ensures made
