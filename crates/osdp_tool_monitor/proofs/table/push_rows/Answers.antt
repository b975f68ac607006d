use Rattle.osdp_tool_monitor.proofs.Common.{sym, get_or_from_slice_get}
use Rattle.osdp_tool_monitor.proofs.Rows.{rows_end, rows_step}
use Rattle.osdp_tool_monitor.proofs.table.push_rows.Goals as goal

pub rows-preserved : goal.rows-preserved
rows-preserved c =
    rows_step _ _ _ c.args.counts.now c.rows.address c.row_at-row.result c.rows-test.true
    (sym (get_or_from_slice_get c.args.counts.now c.rows.address c.row_at-row.result c.row_at-row.result c.row_at-row.ensures))
    c.in_ok-push_row_if.ensures c.rows.invariant

pub returns : goal.returns
returns c = rows_end _ _ c.args.counts.now c.rows.address c.rows-test.false c.rows.invariant
