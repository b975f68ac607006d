use Rattle.osdp_tool_inputs.proofs.Held.{tells_in_order as the_law}
use Rattle.osdp_tool_inputs.proofs.laws.tells_in_order.Goals as goal

pub returns : goal.returns
returns c = the_law
