use Rattle.osdp_tool_monitor.proofs.Common.{get_or, string_bytes, take, take_more}
use Rattle.osdp_tool_monitor.proofs.Rows.{columns_more}
use Rattle.osdp_tool_monitor.proofs.table.push_columns.Goals as goal

pub loop-number-preserved : goal.loop-number-preserved
loop-number-preserved c =
    let all = c.args.numbers.now in
    let i = c.loop-number.number-index in
    rw (c.in_ok-push_column.ensures, c.loop-number.invariant, take_more all i (0, 0) c.loop-number-test.true)
    (columns_more (string_bytes c.args.text.now) (take i all) (get_or all i (0, 0)))
