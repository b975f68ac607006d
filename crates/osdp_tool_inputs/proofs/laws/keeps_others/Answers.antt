use Rattle.osdp_tool_inputs.proofs.Echoing.{keeps_others as the_law}
use Rattle.osdp_tool_inputs.proofs.laws.keeps_others.Goals as goal

pub returns : goal.returns
returns c = the_law
