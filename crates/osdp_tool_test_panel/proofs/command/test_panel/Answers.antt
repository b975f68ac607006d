use Rattle.osdp_tool_test_panel.proofs.Common.{refl, tests_by_rows, PanelFinds, PanelStops}
use Rattle.osdp_tool_test_panel.specs.Table.{panel_rules, row}
use Rattle.osdp_tool_test_panel.proofs.command.test_panel.Goals as goal

pub returns : goal.returns
unfolding panel_rules
returns g c = tests_by_rows row panel_rules PanelFinds PanelStops _ refl _ _ _ _ _ _ _ _ c.test_by.ensures
