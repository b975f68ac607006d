use Rattle.osdp_tool_sim.proofs.InTurn.{decides_by_input}
use Rattle.osdp_tool_sim.proofs.laws.input_decides.Goals as goal

pub returns : goal.returns
returns c = decides_by_input
