use Rattle.osdp_tool_monitor.proofs.Common.{◌≤◌, ◌-◌, [], ◌∷◌, length, take, string_bytes, Come, Hears}
use Rattle.osdp_tool_monitor.proofs.open_line.OpenLine.come.Given as goal

abbrev pub invariant-pieces : goal.invariant-pieces
invariant-pieces l = record {
  within : l.at ≤ length l.bytes;
  hears : Hears (Come (take l.at l.bytes) ∷ []) l.initial.self l.self (string_bytes l.initial.text) (string_bytes l.text);
}

abbrev pub decreases-pieces : goal.decreases-pieces
decreases-pieces l = length l.bytes - l.at
