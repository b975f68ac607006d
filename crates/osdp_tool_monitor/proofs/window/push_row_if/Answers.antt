use Rattle.std.proofs.Common.{◌≡◌, ◌∙◌, ◌++◌, ◌||◌, false, cond, [], OnOk, string_bytes, ap, sym, subst}
use Rattle.osdp_tool_monitor.specs.Counts.{is_ghost, is_silent}
use Rattle.osdp_tool_monitor.specs.Windows.{since, told_counts, window_row, window_row_if}
use Rattle.osdp_tool_monitor.proofs.window.push_row_if.Goals as goal

pub returns : goal.returns
returns c =
    let now = c.args.now.now in
    let all = since (told_counts c.args.before.now) now in
    let came : c.since-came.result ≡ all = c.since-came.ensures ∙ ap (λ b. since b now) c.told_counts.ensures in
    let silent : is_silent all ≡ false = sym (ap is_silent came) ∙ sym c.is_silent.ensures ∙ c.if-is_silent.false in
    let ghost : is_ghost now ≡ false = sym c.is_ghost.ensures ∙ c.if-is_ghost.false in
    let row : window_row_if c.args.address c.args.before.now now ≡ window_row c.args.address c.since-came.result =
    ap (λ b. cond (b || is_ghost now) [] (window_row c.args.address all)) silent ∙ ap (λ b. cond b [] (window_row c.args.address all)) ghost
    ∙ ap (window_row c.args.address) (sym came) in
    subst (λ r. OnOk c.push_row.result (string_bytes c.push_row.new.text ≡ string_bytes c.args.text.now ++ r)) (sym row) c.push_row.ensures
