use Rattle.osdp_tool_monitor.proofs.OpenRuns.{table_told}
use Rattle.osdp_tool_streams.proofs.Answered.{on_ok}
use Rattle.osdp_tool_monitor.proofs.open_line.OpenLine.push_table.Goals as goal

pub returns-clause-hears : goal.returns-clause-hears
returns-clause-hears c =
    on_ok c.push_table.result (table_told c.args.self.now _ _ (record { bytes = c.requires.bytes; goes_on = c.requires.goes_on; none = c.requires.none })) c.push_table.ensures.text
