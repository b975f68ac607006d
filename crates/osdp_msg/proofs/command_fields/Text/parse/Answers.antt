use Rattle.osdp_msg.proofs.Common.{refl, ◌∙◌, TextFits, text_words}
use Rattle.osdp_msg.proofs.ParsedRows.{text_from, text_made, text_parts}
use Rattle.osdp_msg.proofs.TakenParts.{AreNumbers, IsList, list_words, numbers_words, two_no_back, two_no_front, two_whole, within}
use Rattle.osdp_msg.proofs.command_fields.Text.parse.Goals as goal

pub returns-in_err-reader : goal.returns-in_err-reader
returns-in_err-reader c = two_no_front numbers_words (AreNumbers 5) list_words (IsList 255) text_words TextFits text_from text_parts text_made _ _ _ c.in_err-reader.ensures c.from_residual.ensures

pub returns-in_err-characters : goal.returns-in_err-characters
returns-in_err-characters c = two_no_back numbers_words (AreNumbers 5) list_words (IsList 255) text_words TextFits text_from text_parts text_made _ _ _ _ _ c.in_ok-reader.ensures c.in_err-characters.ensures c.from_residual-in_err-characters.ensures

pub returns-then-not-is_empty : goal.returns-then-not-is_empty
returns-then-not-is_empty c = two_whole numbers_words (AreNumbers 5) list_words (IsList 255) text_words TextFits text_from text_parts text_made _ _ _ _ _ _ _ c.in_ok-reader.ensures c.in_ok-characters.ensures c.if-not-is_empty.ensures refl

pub returns : goal.returns
returns c =
    let made = c.new.ensures ∙ within 255 _ _ c.in_ok-characters.characters _ (λ l. text_from (c.in_ok-reader.field-0, l)) c.in_ok-characters.ensures c.bytes.ensures.value in
    two_whole numbers_words (AreNumbers 5) list_words (IsList 255) text_words TextFits text_from text_parts text_made _ _ _ _ _ _ _ c.in_ok-reader.ensures c.in_ok-characters.ensures c.if-not-is_empty.ensures made
