use Rattle.osdp_line_calls.proofs.Common.{◌≡◌, ◌≤◌, ◌-◌, ◌++◌, false, length, drop, string_bytes, items, left_over, IsAllRead, Received, passed_item}
use Rattle.osdp_line_calls.proofs.Listening.{written}
use Rattle.osdp_line_calls.proofs.listener.read_bytes.Given as goal

-- what is written and the lines of the bytes that are left are what is to be written
abbrev pub invariant-pieces : goal.invariant-pieces
invariant-pieces l = record {
  within : l.at ≤ length l.bytes;
  read : IsAllRead l.receiver;
  written : written (passed_item l.bus.devices.entries l.opened) (items false (l.receiver.held.bytes ++ drop l.at l.bytes)) (string_bytes l.text)
      ≡ written (passed_item l.bus.devices.entries l.opened) (items false (l.initial.receiver.held.bytes ++ l.bytes)) (string_bytes l.initial.text);
  line : ◌≡◌ {A = Received} l.receiver (record l.initial.receiver { held = l.receiver.held });
  left : left_over (l.receiver.held.bytes ++ drop l.at l.bytes) ≡ left_over (l.initial.receiver.held.bytes ++ l.bytes);
}

abbrev pub decreases-pieces : goal.decreases-pieces
decreases-pieces l = length l.bytes - l.at
