use Rattle.osdp_tool_monitor_laws.proofs.Windows.{rows_add_up, tables_add_up}
use Rattle.osdp_tool_monitor_laws.proofs.rows_add_up.Goals as goal

pub returns-clause-counts : goal.returns-clause-counts
returns-clause-counts c = rows_add_up

pub returns-clause-tables : goal.returns-clause-tables
returns-clause-tables c = tables_add_up
