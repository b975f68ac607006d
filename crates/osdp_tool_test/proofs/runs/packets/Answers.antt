use Rattle.std.proofs.Common.{rules}
use Rattle.osdp_frame.specs.Shown.{item_read}
use Rattle.osdp_tool_test.proofs.Finding.{begun, byte_step, packet_step, searched}
use Rattle.osdp_tool_test.proofs.runs.packets.Goals as goal

pub items-init : goal.items-init
items-init c = begun c.args.is_of_devices c.args.run.now (search rules)

pub items-preserved-in-Packet : goal.items-preserved-in-Packet
items-preserved-in-Packet c =
    packet_step c.args.is_of_devices c.args.run.now c.items.rest.now _ c.items.found.first c.items.found.second c.items.found.count _ _ _ c.in-Packet.frame
    (search rules) (search rules) (search rules) (search rules) (search rules) c.items.invariant

pub items-preserved : goal.items-preserved
items-preserved c =
    byte_step c.args.is_of_devices c.args.run.now c.items.rest.now _ c.items.found.first c.items.found.second c.items.found.count (item_read c.read_at.result)
    (search rules) (search rules) (search rules) c.items.invariant

pub returns-clause-first : goal.returns-clause-first
returns-clause-first c = (searched c.args.is_of_devices c.args.run.now c.items.rest.now _ _ _ (search rules) c.items.invariant).first_is

pub returns-clause-second : goal.returns-clause-second
returns-clause-second c = (searched c.args.is_of_devices c.args.run.now c.items.rest.now _ _ _ (search rules) c.items.invariant).second_is

pub returns-clause-count : goal.returns-clause-count
returns-clause-count c = (searched c.args.is_of_devices c.args.run.now c.items.rest.now _ _ _ (search rules) c.items.invariant).count_is
