use Rattle.osdp_tool_monitor.proofs.Common.{◌≡◌, drop, add, survey_of, after_all}
use Rattle.osdp_tool_monitor.proofs.diagnosis.look_over.Given as goal

abbrev pub invariant-addresses : goal.invariant-addresses
invariant-addresses l = after_all add l.survey (drop l.address l.counts) ≡ survey_of l.counts
