use Rattle.osdp_tool_test_panel.proofs.Common.{skip_of, skipped_entry}
use Rattle.osdp_tool_test_panel.proofs.Each.{Changed}
use Rattle.osdp_tool_test_panel.proofs.tested.skip_in.Given as goal

abbrev pub invariant-entries : goal.invariant-entries
invariant-entries l = Changed (skipped_entry (skip_of l.skip)) l.initial.entries l.entry-index l.entries
