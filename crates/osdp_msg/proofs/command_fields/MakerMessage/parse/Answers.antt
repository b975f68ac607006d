use Rattle.osdp_msg.proofs.Common.{refl, ◌∙◌, MakerFits, maker_words}
use Rattle.osdp_msg.proofs.ParsedRows.{maker_from, maker_made, maker_parts}
use Rattle.osdp_msg.proofs.TakenParts.{IsVendor, IsList, list_words, vendor_words, two_no_back, two_no_front, two_whole, within}
use Rattle.osdp_msg.proofs.command_fields.MakerMessage.parse.Goals as goal

pub returns-in_err-vendor : goal.returns-in_err-vendor
returns-in_err-vendor c = two_no_front vendor_words IsVendor list_words (IsList 1429) maker_words MakerFits maker_from maker_parts maker_made _ _ _ c.in_err-vendor.ensures c.from_residual.ensures

pub returns-in_err-bytes : goal.returns-in_err-bytes
returns-in_err-bytes c = two_no_back vendor_words IsVendor list_words (IsList 1429) maker_words MakerFits maker_from maker_parts maker_made _ _ _ _ _ c.in_ok-vendor.ensures c.in_err-bytes.ensures c.from_residual-in_err-bytes.ensures

pub returns-then-not-is_empty : goal.returns-then-not-is_empty
returns-then-not-is_empty c = two_whole vendor_words IsVendor list_words (IsList 1429) maker_words MakerFits maker_from maker_parts maker_made _ _ _ _ _ _ _ c.in_ok-vendor.ensures c.in_ok-bytes.ensures c.if-not-is_empty.ensures refl

pub returns : goal.returns
returns c =
    let made = c.new.ensures ∙ within 1429 _ _ c.in_ok-bytes.bytes _ (λ l. maker_from (c.in_ok-vendor.vendor, l)) c.in_ok-bytes.ensures c.bytes.ensures.value in
    two_whole vendor_words IsVendor list_words (IsList 1429) maker_words MakerFits maker_from maker_parts maker_made _ _ _ _ _ _ _ c.in_ok-vendor.ensures c.in_ok-bytes.ensures c.if-not-is_empty.ensures made
