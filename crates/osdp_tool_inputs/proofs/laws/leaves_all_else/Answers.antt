use Rattle.osdp_tool_inputs.proofs.Echoing.{leaves_all_else as the_law}
use Rattle.osdp_tool_inputs.proofs.laws.leaves_all_else.Goals as goal

pub returns : goal.returns
returns c = the_law
