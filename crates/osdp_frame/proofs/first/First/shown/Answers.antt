use Rattle.osdp_frame.proofs.Common.{arith, ◌∙◌, ap, sym, Some, packet_at, item_in}
use Rattle.osdp_frame.proofs.FirstItems.{packet_decided}
use Rattle.osdp_frame.proofs.first.First.shown.Goals as goal

pub packet_at-requires-clause-packet : goal.packet_at-requires-clause-packet
packet_at-requires-clause-packet c =
    let rest = c.args.rest.now in
    packet_decided c.requires.decided.0 rest (packet_at rest) (λ i. omega (arith, c.type_inv.rest i))
    (ap (λ f. Some (item_in f rest)) (sym c.in-Packet.is) ∙ c.requires.decided.1)
