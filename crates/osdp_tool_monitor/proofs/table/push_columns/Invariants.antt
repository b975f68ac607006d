use Rattle.osdp_tool_monitor.proofs.Common.{◌≡◌, ◌++◌, string_bytes, take, columns}
use Rattle.osdp_tool_monitor.proofs.table.push_columns.Given as goal

abbrev pub invariant-loop-number : goal.invariant-loop-number
invariant-loop-number l = string_bytes l.text ≡ string_bytes l.initial.text ++ columns (take l.number-index l.numbers)
