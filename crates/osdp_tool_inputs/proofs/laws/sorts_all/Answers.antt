use Rattle.osdp_tool_inputs.proofs.Echoing.{sorts_all as the_law}
use Rattle.osdp_tool_inputs.proofs.laws.sorts_all.Goals as goal

pub returns : goal.returns
returns c = the_law
