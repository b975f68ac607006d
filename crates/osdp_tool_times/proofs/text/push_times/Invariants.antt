use Rattle.osdp_tool_times.proofs.Common.{◌≡◌, ◌++◌, drop, string_bytes, all_from, device_text}
use Rattle.osdp_tool_times.proofs.text.push_times.Given as goal

abbrev pub invariant-devices : goal.invariant-devices
invariant-devices l =
    string_bytes l.text ++ all_from device_text l.address (drop l.address l.times) ≡ string_bytes l.initial.text ++ all_from device_text 0 l.times
