use Rattle.osdp_msg.proofs.Common.{◌+◌, ◌/◌, drop, length, slice_index, true, arith, little_number}
use Rattle.osdp_msg.proofs.Replies.{row_passes}
use Rattle.osdp_msg.proofs.Table.{any_length, counted, counted_length, exactly, has_length, multiple}
use Rattle.osdp_msg.proofs.reply.value_at.Goals as goal

pub read-requires : goal.read-requires
read-requires c = has_length 1 c.args.bytes.now (row_passes _ _ _ c.in-65.is c.requires)

pub read-requires-in-69 : goal.read-requires-in-69
read-requires-in-69 c = (exactly (length c.args.bytes.now) 12 true (row_passes _ _ _ c.in-69.is c.requires)).0

pub read-requires-in-70 : goal.read-requires-in-70
read-requires-in-70 c =
    let p = multiple 3 (length c.args.bytes.now) true (row_passes _ _ _ c.in-70.is c.requires) in
    record { whole = p.0; room = omega (arith, p.1) }

pub read-requires-in-72 : goal.read-requires-in-72
read-requires-in-72 c = (exactly (length c.args.bytes.now) 2 true (row_passes _ _ _ c.in-72.is c.requires)).0

pub read-requires-in-73 : goal.read-requires-in-73
read-requires-in-73 c = any_length (length c.args.bytes.now) true (row_passes _ _ _ c.in-73.is c.requires)

pub read-requires-in-74 : goal.read-requires-in-74
read-requires-in-74 c = any_length (length c.args.bytes.now) true (row_passes _ _ _ c.in-74.is c.requires)

pub read-requires-in-75 : goal.read-requires-in-75
read-requires-in-75 c = any_length (length c.args.bytes.now) true (row_passes _ _ _ c.in-75.is c.requires)

pub read-requires-in-80 : goal.read-requires-in-80
read-requires-in-80 c =
    let bs = c.args.bytes.now in
    let p = counted 4 (length bs) ((little_number 2 (drop 2 bs) + 7) / 8) (row_passes _ _ _ c.in-80.is c.requires) in
    record { some = p.0; room = p.2; needed = p.1 }

pub read-requires-in-81 : goal.read-requires-in-81
read-requires-in-81 c =
    counted_length 3 (slice_index c.args.bytes.now 2) c.args.bytes.now (omega (arith, c.type_inv.bytes 2)) (row_passes _ _ _ c.in-81.is c.requires)

pub read-requires-in-83 : goal.read-requires-in-83
read-requires-in-83 c =
    counted_length 2 (slice_index c.args.bytes.now 1) c.args.bytes.now (omega (arith, c.type_inv.bytes 1)) (row_passes _ _ _ c.in-83.is c.requires)

pub read-requires-in-84 : goal.read-requires-in-84
read-requires-in-84 c = (exactly (length c.args.bytes.now) 5 true (row_passes _ _ _ c.in-84.is c.requires)).0

pub read-requires-in-144 : goal.read-requires-in-144
read-requires-in-144 c = has_length 3 c.args.bytes.now (row_passes _ _ _ c.in-144.is c.requires)
