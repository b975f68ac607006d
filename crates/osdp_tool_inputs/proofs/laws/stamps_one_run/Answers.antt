use Rattle.osdp_tool_inputs.proofs.Held.{stamps_one_run as the_law}
use Rattle.osdp_tool_inputs.proofs.laws.stamps_one_run.Goals as goal

pub returns : goal.returns
returns c = the_law
