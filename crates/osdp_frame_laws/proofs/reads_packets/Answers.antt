use Rattle.osdp_frame_laws.proofs.Common.{[], ◌∷◌, ap, refl, PacketItem}
use Rattle.osdp_frame.specs.Items.{items, reading, whole_packets}
use Rattle.osdp_frame_laws.proofs.reads_packets.Goals as goal

pub returns-clause-none : goal.returns-clause-none
unfolding items
returns-clause-none c = refl

pub returns-clause-one : goal.returns-clause-one
returns-clause-one c p bytes spells =
    ap whole_packets
    (c.one_reading.ensures.one bytes (reading bytes) (PacketItem p ∷ []) (c.one_reading.ensures.some bytes (c.spelling_of_bytes.ensures p bytes spells))
    (c.reading_of_spelling.ensures p bytes spells))
