use Rattle.std.proofs.Common.{◌+◌, ◌≤◌, ap, arith, length, rules}
use Rattle.osdp_tool_test_panel.proofs.Each.{made_all, made_more}
use Rattle.osdp_tool_test_panel.proofs.tested.first_entries.Goals as goal

pub rules-preserved : goal.rules-preserved
rules-preserved c =
    let at = c.rules in
    record {
      counts = ap (λ n. n + 1) at.invariant.counts;
      made = made_more c.args.rules.now at.number at.rule-index at.entries.items _ _ c.new.result at.invariant.counts (omega (arith, c.rules-test.true)) (search rules)
          c.new.ensures at.invariant.made;
    }

pub returns : goal.returns
returns c =
    let at = c.rules in
    let past : length c.args.rules.now ≤ at.number = omega (arith, c.rules-test.false, at.invariant.counts) in
    made_all c.args.rules.now at.number at.entries.items past at.invariant.made
