use Rattle.osdp_tool_monitor.proofs.Common.{◌≡◌, ◌++◌, drop, string_bytes, lines_from}
use Rattle.osdp_tool_monitor.proofs.diagnosis.push_devices.Given as goal

abbrev pub invariant-devices : goal.invariant-devices
invariant-devices l =
    string_bytes l.text ++ lines_from l.survey l.address (drop l.address l.counts) ≡ string_bytes l.initial.text ++ lines_from l.survey 0 l.counts
