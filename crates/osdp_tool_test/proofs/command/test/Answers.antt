use Rattle.osdp_tool_test.proofs.Common.{refl, DeviceFinds, DeviceStops}
use Rattle.osdp_tool_test.specs.Table.{device_rules, row}
use Rattle.osdp_tool_test.proofs.Telling.{tests_by_rows}
use Rattle.osdp_tool_test.proofs.command.test.Goals as goal

pub returns : goal.returns
unfolding device_rules
returns g c = tests_by_rows row device_rules DeviceFinds DeviceStops _ refl _ _ _ _ _ _ _ _ c.test_by.ensures
