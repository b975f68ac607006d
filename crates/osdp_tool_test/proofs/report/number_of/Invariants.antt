use Rattle.osdp_tool_test.proofs.Common.{◌≡◌, take, count_by, told, has_outcome}
use Rattle.osdp_tool_test.proofs.report.number_of.Given as goal

abbrev pub invariant-entries : goal.invariant-entries
invariant-entries l = l.count ≡ count_by (λ e. has_outcome l.wanted (told e)) (take l.entry-index l.entries)
