use Rattle.osdp_device.proofs.Common.{◌≡◌, Some, is_some, sym, ap, ◌∙◌, decided, PacketItem, item_of, command_at, pending_if}
use Rattle.osdp_device.proofs.Taking.{pending_shown}
use Rattle.osdp_device.proofs.first.is_first_pending.Goals as goal

pub returns-clause-some : goal.returns-clause-some
returns-clause-some g c =
    c.is_pending.ensures.some
    ∙ ap is_some (pending_shown c.args.reader.now c.args.line.now.held (PacketItem c.in-Some-Packet.packet)
    (sym (ap (λ i. Some (item_of i)) c.in-Some-Packet.field-0-is) ∙ c.in-Some-Packet.ensures.shown) c.requires)

pub returns-clause-command : goal.returns-clause-command
returns-clause-command g c =
    let here : decided c.args.line.now.held.ended c.args.line.now.held.bytes ≡ Some (PacketItem c.in-Some-Packet.packet) =
    sym c.in-Some-Packet.ensures.shown ∙ ap (λ i. Some (item_of i)) c.in-Some-Packet.field-0-is in
    ap (λ o. pending_if c.is_pending.result (command_at o)) here
    ∙ c.is_pending.ensures.command
    ∙ pending_shown c.args.reader.now c.args.line.now.held (PacketItem c.in-Some-Packet.packet) (sym here) c.requires
