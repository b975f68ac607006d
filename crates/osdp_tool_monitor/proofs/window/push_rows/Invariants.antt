use Rattle.osdp_tool_monitor.proofs.Common.{◌≡◌, ◌++◌, drop, string_bytes, window_rows}
use Rattle.osdp_tool_monitor.proofs.window.push_rows.Given as goal

abbrev pub invariant-rows : goal.invariant-rows
invariant-rows l =
    string_bytes l.text ++ window_rows l.address (drop l.address l.befores) (drop l.address l.nows) ≡ string_bytes l.initial.text ++ window_rows 0 l.befores l.nows
