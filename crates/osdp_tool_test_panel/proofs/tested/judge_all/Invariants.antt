use Rattle.osdp_tool_test_panel.specs.Tests.{judged_entry}
use Rattle.osdp_tool_test_panel.proofs.Each.{Changed}
use Rattle.osdp_tool_test_panel.proofs.tested.judge_all.Given as goal

abbrev pub invariant-entries : goal.invariant-entries
invariant-entries l = Changed (judged_entry l.form l.rules l.address l.known l.before l.packet l.exchange) l.initial.entries l.entry-index l.entries
