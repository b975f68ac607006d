use Rattle.osdp_tool_times.proofs.Common.{sym, get_or_from_slice_get, device_text}
use Rattle.osdp_tool_times.proofs.Rows.{all_end, all_step}
use Rattle.osdp_tool_times.proofs.text.push_times.Goals as goal

pub devices-preserved : goal.devices-preserved
devices-preserved c =
    all_step device_text _ _ _ c.args.times.now c.devices.address c.times_at-device.result c.devices-test.true
    (sym (get_or_from_slice_get c.args.times.now c.devices.address c.times_at-device.result c.times_at-device.result c.times_at-device.ensures))
    c.in_ok-push_device.ensures c.devices.invariant

pub returns : goal.returns
returns c = all_end device_text _ _ c.args.times.now c.devices.address c.devices-test.false c.devices.invariant
