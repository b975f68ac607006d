use Rattle.osdp_tool_inputs.proofs.Echoing.{leaves_echo_out as the_law}
use Rattle.osdp_tool_inputs.proofs.laws.leaves_echo_out.Goals as goal

pub returns : goal.returns
returns c = the_law
