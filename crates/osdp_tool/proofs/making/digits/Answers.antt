use Rattle.osdp_tool.proofs.Common.{◌≡◌, ap, subst, ◌∙◌, List, ℕ, string_bytes, IfOk, encode_upper, spelling, order_packet}
use Rattle.osdp_tool.proofs.making.digits.Goals as goal

pub returns : goal.returns
returns c =
    let bytes = c.as_slice.result.now in
    let spelled = ((c.one_spelling.ensures c.packet.result c.encode.result.items).0 c.encode.ensures).1 in
    let is : bytes ≡ spelling (order_packet c.args.order.now) = c.as_slice.ensures.value ∙ spelled ∙ ap spelling c.packet.ensures in
    subst (λ (bs : List ℕ). IfOk c.encode_upper.result (λ text. string_bytes text ≡ encode_upper bs)) is c.encode_upper.ensures
