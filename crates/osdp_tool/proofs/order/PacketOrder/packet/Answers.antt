use Rattle.osdp_tool.proofs.Common.{length, arith, ap, sym, ◌∙◌, subst, AreBytes, headed, IsPacket}
use Rattle.osdp_frame.specs.declared.view.Header.{Header}
use Rattle.osdp_tool.proofs.Orders.{some_if, is_packet}
use Rattle.osdp_tool.proofs.order.PacketOrder.packet.Goals as goal

pub unwrap-requires : goal.unwrap-requires
unwrap-requires c =
    let bytes = c.with_room-body.ensures in
    let body = c.body-body.ensures.body in
    let slice = c.as_slice.ensures in
    some_if c.new-made.result _ _ c.new-made.ensures
    (subst (λ (h : Header). IsPacket (headed h c.with_room-body.result.items)) (sym c.plain-head.ensures)
    (is_packet _ _ _ _ _ _ c.args.self.now.message c.with_room-body.result.items
    c.get.ensures.range c.get-2.ensures.range (omega arith) (bytes.bytes ∙ slice.value ∙ body) (subst (λ l. AreBytes l) (sym bytes.bytes) bytes.are_bytes)
    (omega (arith, ap length bytes.bytes, slice.fits))))
