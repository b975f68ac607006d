use Rattle.osdp_tool_monitor.proofs.Common.{sym, get_or_from_slice_get}
use Rattle.osdp_tool_monitor.proofs.Diagnosing.{survey_end, survey_step}
use Rattle.osdp_tool_monitor.proofs.diagnosis.look_over.Goals as goal

pub addresses-preserved : goal.addresses-preserved
addresses-preserved c =
    survey_step _ _ _ c.args.counts.now c.addresses.address c.row_at.result c.addresses-test.true
    (sym (get_or_from_slice_get c.args.counts.now c.addresses.address c.row_at.result c.row_at.result c.row_at.ensures))
    c.add-survey.ensures c.addresses.invariant

pub returns : goal.returns
returns c = survey_end _ _ c.args.counts.now c.addresses.address c.addresses-test.false c.addresses.invariant
