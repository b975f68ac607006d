use Rattle.std.proofs.Common.{ap, codes}
use Rattle.osdp_tool_monitor.proofs.Diagnosing.{two_lines}
use Rattle.osdp_tool_monitor.specs.Diagnoses.{copy_lines, told_at}
use Rattle.osdp_tool_monitor.proofs.diagnosis.push_copies.Goals as goal

pub returns : goal.returns
unfolding copy_lines
returns c =
    two_lines c.push_at-2.result _ _ _ _ _ _ _
    (ap (λ m. told_at m (codes "") c.args.address (codes " never answered")) c.is_absent-absent.ensures)
    (ap (λ m. told_at m (codes "each packet to ") c.args.address (codes " comes twice: an echo of the adapter?")) c.is_echoed-echoed.ensures)
    c.in_ok-push_at.ensures c.push_at-2.ensures
