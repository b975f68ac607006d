use Rattle.std.proofs.Common.{length, slice_index, true, lit<, arith}
use Rattle.osdp_msg.specs.CommandTable.{command_fault}
use Rattle.osdp_msg.proofs.Table.{are_records, counted_length, exactly, has_length}
use Rattle.osdp_msg.proofs.command.value_at.Goals as goal

pub bounds-bytes-0 : goal.bounds-bytes-0
unfolding command_fault
bounds-bytes-0 c = omega (arith, (exactly (length c.args.bytes.now) 1 true (rw c.in-97.is at c.requires)).0)

pub bounds-bytes-0-in-98 : goal.bounds-bytes-0-in-98
unfolding command_fault
bounds-bytes-0-in-98 c = omega (arith, (exactly (length c.args.bytes.now) 1 true (rw c.in-98.is at c.requires)).0)

pub read-requires : goal.read-requires
unfolding command_fault
read-requires c =
    let p = are_records 4 c.args.bytes.now (rw c.in-104.is at c.requires) in
    (lit< tt, (p.some, (omega (arith, p.room), p.whole)))

pub read-requires-in-105 : goal.read-requires-in-105
unfolding command_fault
read-requires-in-105 c =
    let p = are_records 14 c.args.bytes.now (rw c.in-105.is at c.requires) in
    (lit< tt, (p.some, (omega (arith, p.room), p.whole)))

pub read-requires-in-106 : goal.read-requires-in-106
unfolding command_fault
read-requires-in-106 c = (exactly (length c.args.bytes.now) 5 true (rw c.in-106.is at c.requires)).0

pub read-requires-in-107 : goal.read-requires-in-107
unfolding command_fault
read-requires-in-107 c = counted_length 6 (slice_index c.args.bytes.now 5) c.args.bytes.now (omega (arith, c.type_inv.bytes 5)) (rw c.in-107.is at c.requires)

pub read-requires-in-110 : goal.read-requires-in-110
unfolding command_fault
read-requires-in-110 c = (exactly (length c.args.bytes.now) 5 true (rw c.in-110.is at c.requires)).0

pub read-requires-in-128 : goal.read-requires-in-128
unfolding command_fault
read-requires-in-128 c = has_length 3 c.args.bytes.now (rw c.in-128.is at c.requires)
