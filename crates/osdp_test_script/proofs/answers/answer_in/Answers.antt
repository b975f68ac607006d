use Rattle.osdp_test_script.proofs.Common.{rules, PacketItem}
use Rattle.osdp_frame.specs.Shown.{item_read}
use Rattle.osdp_test_script.proofs.Passing.{passed_at}
use Rattle.osdp_test_script.proofs.answers.answer_in.Goals as goal

pub items-preserved-in-Packet : goal.items-preserved-in-Packet
items-preserved-in-Packet c answer h =
    passed_at _ _ c.items.rest.now _ (PacketItem c.in-Packet.frame) answer c.items.invariant (search rules) (search rules) (search rules) h

pub items-preserved : goal.items-preserved
items-preserved c answer h =
    passed_at _ _ c.items.rest.now _ (item_read c.read_at.result) answer c.items.invariant (search rules) (search rules) (search rules) h
