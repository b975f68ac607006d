use Rattle.osdp_line_calls.proofs.Common.{◌≡◌, length, string_bytes, items, rest_of, Received, passed_item}
use Rattle.osdp_line_calls.proofs.Listening.{written}
use Rattle.osdp_line_calls.proofs.listener.read_items.Given as goal

-- what is written and the lines of the items that are left are what is to be written, and they leave the same bytes
abbrev pub invariant-items : goal.invariant-items
invariant-items l = record {
  written : written (passed_item l.bus.devices.entries l.opened) (items l.receiver.held.ended l.receiver.held.bytes) (string_bytes l.text)
      ≡ written (passed_item l.bus.devices.entries l.opened) (items l.initial.receiver.held.ended l.initial.receiver.held.bytes) (string_bytes l.initial.text);
  line : ◌≡◌ {A = Received} l.receiver (record l.initial.receiver { held = l.receiver.held });
  left : rest_of l.receiver.held.ended l.receiver.held.bytes ≡ rest_of l.initial.receiver.held.ended l.initial.receiver.held.bytes;
}

abbrev pub decreases-items : goal.decreases-items
decreases-items l = length l.receiver.held.bytes
