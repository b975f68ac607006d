use Rattle.osdp_tool_test_panel.proofs.Common.{◌<◌, ◌≤◌, arith, length, refl, judged_entry}
use Rattle.osdp_tool_test_panel.proofs.Each.{changed_all, changed_more}
use Rattle.osdp_tool_test_panel.proofs.tested.judge_all.Goals as goal

pub entries-preserved : goal.entries-preserved
entries-preserved c =
    let at = c.entries in
    let within : at.entry-index < length at.entries = omega (arith, c.entries-test.true, at.auto.entries) in
    changed_more (judged_entry c.args.form c.args.rules.now c.args.address c.args.known.now c.args.before.now c.args.packet.now c.args.exchange.now)
    c.args.entries.now at.entry-index at.entries _ c.entry-item.result c.judge_entry.new.entry within refl c.in_ok-judge_entry.ensures at.invariant

pub returns : goal.returns
returns c =
    let at = c.entries in
    let past : length at.entries ≤ at.entry-index = omega (arith, c.entries-test.false, at.auto.entries) in
    changed_all _ _ at.entry-index at.entries past at.invariant
