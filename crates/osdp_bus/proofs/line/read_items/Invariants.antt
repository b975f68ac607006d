use Rattle.osdp_bus.proofs.Common.{◌≡◌, length, vec_capacity, items, rest_of, Received, hears_items, devices_of}
use Rattle.osdp_bus.proofs.line.read_items.Given as goal

-- the items that are left bring the devices to where all of them do, and leave the same bytes
abbrev pub invariant-items : goal.invariant-items
invariant-items l = record {
  heard : hears_items l.now (items l.receiver.held.ended l.receiver.held.bytes) (devices_of l.devices)
      ≡ hears_items l.now (items l.initial.receiver.held.ended l.initial.receiver.held.bytes) (devices_of l.initial.devices);
  line : ◌≡◌ {A = Received} l.receiver (record l.initial.receiver { held = l.receiver.held });
  left : rest_of l.receiver.held.ended l.receiver.held.bytes ≡ rest_of l.initial.receiver.held.ended l.initial.receiver.held.bytes;
  capacity : vec_capacity l.devices.entries ≡ vec_capacity l.initial.devices.entries;
  count : length l.devices.entries.items ≡ length l.initial.devices.entries.items;
}

abbrev pub decreases-items : goal.decreases-items
decreases-items l = length l.receiver.held.bytes
