use Rattle.osdp_tool_test.specs.Tests.{DeviceShows, DeviceStops}
use Rattle.osdp_tool_test.proofs.InTurn.{in_turn}
use Rattle.osdp_tool_test.proofs.laws.ends_in_turn.Goals as goal

pub returns : goal.returns
returns c = in_turn DeviceShows DeviceStops
