use Rattle.osdp_tool_monitor.proofs.Common.{sym, subst, ◌<◌, ◌≤◌, ℕ, get_or_from_slice_get}
use Rattle.osdp_tool_monitor.proofs.Windows.{rows_end, rows_step}
use Rattle.osdp_tool_monitor.proofs.window.push_rows.Goals as goal

pub rows-preserved : goal.rows-preserved
rows-preserved c =
    rows_step _ _ _ c.args.befores.now c.args.nows.now c.rows.address c.row_at-before.result c.row_at-now.result
    (subst (λ (n : ℕ). c.rows.address < n) (sym c.requires.same) c.rows-test.true) c.rows-test.true
    (sym (get_or_from_slice_get c.args.befores.now c.rows.address c.row_at-before.result c.row_at-before.result c.row_at-before.ensures))
    (sym (get_or_from_slice_get c.args.nows.now c.rows.address c.row_at-now.result c.row_at-now.result c.row_at-now.ensures))
    c.in_ok-push_row_if.ensures c.rows.invariant

pub returns : goal.returns
returns c = rows_end _ _ c.args.befores.now c.args.nows.now c.rows.address (subst (λ (n : ℕ). n ≤ c.rows.address) (sym c.requires.same) c.rows-test.false) c.rows.invariant
