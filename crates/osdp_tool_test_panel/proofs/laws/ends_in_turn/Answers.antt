use Rattle.osdp_tool_test.proofs.InTurn.{in_turn}
use Rattle.osdp_tool_test_panel.specs.Tests.{PanelShows, PanelStops}
use Rattle.osdp_tool_test_panel.proofs.laws.ends_in_turn.Goals as goal

pub returns : goal.returns
returns c = in_turn PanelShows PanelStops
