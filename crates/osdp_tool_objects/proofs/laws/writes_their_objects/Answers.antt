use Rattle.osdp_tool_objects.proofs.Outputs.{writes_their_objects as the_law}
use Rattle.osdp_tool_objects.proofs.laws.writes_their_objects.Goals as goal

pub returns : goal.returns
returns c = the_law
