use Rattle.osdp_sim.proofs.Common.{◌≡◌, length, items, has_packet}
use Rattle.osdp_sim.proofs.line.holds_packet.Given as goal

-- a packet is among the items left where one is among all of them
abbrev pub invariant-items : goal.invariant-items
invariant-items l =
    has_packet (items l.framer.ended l.framer.bytes) ≡ has_packet (items l.initial.framer.ended l.initial.framer.bytes)

abbrev pub decreases-items : goal.decreases-items
decreases-items l = length l.framer.bytes
