use Rattle.osdp_tool_monitor.proofs.Common.{◌≡◌, ◌++◌, drop, string_bytes, rows_from}
use Rattle.osdp_tool_monitor.proofs.table.push_rows.Given as goal

abbrev pub invariant-rows : goal.invariant-rows
invariant-rows l =
    string_bytes l.text ++ rows_from l.address (drop l.address l.counts) ≡ string_bytes l.initial.text ++ rows_from 0 l.counts
