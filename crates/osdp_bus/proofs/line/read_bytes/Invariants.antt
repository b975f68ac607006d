use Rattle.osdp_bus.proofs.Common.{◌≡◌, ◌≤◌, ◌-◌, ◌++◌, false, length, drop, vec_capacity, items, left_over, IsAllRead, Received, hears_items, devices_of}
use Rattle.osdp_bus.proofs.line.read_bytes.Given as goal

-- the bytes that are left bring the devices to where all of them do
abbrev pub invariant-pieces : goal.invariant-pieces
invariant-pieces l = record {
  within : l.at ≤ length l.bytes;
  read : IsAllRead l.receiver;
  heard : hears_items l.now (items false (l.receiver.held.bytes ++ drop l.at l.bytes)) (devices_of l.devices)
      ≡ hears_items l.now (items false (l.initial.receiver.held.bytes ++ l.bytes)) (devices_of l.initial.devices);
  line : ◌≡◌ {A = Received} l.receiver (record l.initial.receiver { held = l.receiver.held });
  left : left_over (l.receiver.held.bytes ++ drop l.at l.bytes) ≡ left_over (l.initial.receiver.held.bytes ++ l.bytes);
  capacity : vec_capacity l.devices.entries ≡ vec_capacity l.initial.devices.entries;
  count : length l.devices.entries.items ≡ length l.initial.devices.entries.items;
}

abbrev pub decreases-pieces : goal.decreases-pieces
decreases-pieces l = length l.bytes - l.at
