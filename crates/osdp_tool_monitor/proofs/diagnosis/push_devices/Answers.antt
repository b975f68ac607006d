use Rattle.osdp_tool_monitor.proofs.Common.{sym, get_or_from_slice_get}
use Rattle.osdp_tool_monitor.proofs.Diagnosing.{lines_end, lines_step}
use Rattle.osdp_tool_monitor.proofs.diagnosis.push_devices.Goals as goal

pub devices-preserved : goal.devices-preserved
devices-preserved c =
    lines_step c.args.survey _ _ _ c.args.counts.now c.devices.address c.row_at-row.result c.devices-test.true
    (sym (get_or_from_slice_get c.args.counts.now c.devices.address c.row_at-row.result c.row_at-row.result c.row_at-row.ensures))
    c.in_ok-push_device.ensures c.devices.invariant

pub returns : goal.returns
returns c = lines_end c.args.survey _ _ c.args.counts.now c.devices.address c.devices-test.false c.devices.invariant
