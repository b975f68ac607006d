use Rattle.std.proofs.Common.{◌≡◌}
use Rattle.osdp_tool_test_panel.proofs.Each.{Made}
use Rattle.osdp_tool_test_panel.proofs.tested.first_entries.Given as goal

abbrev pub invariant-rules : goal.invariant-rules
invariant-rules l = record {
  counts : l.number ≡ l.rule-index;
  made : Made l.rules l.number l.entries.items;
}
