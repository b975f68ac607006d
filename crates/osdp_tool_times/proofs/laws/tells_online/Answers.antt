use Rattle.osdp_tool_times.proofs.Presences.{tells_online as the_law}
use Rattle.osdp_tool_times.proofs.laws.tells_online.Goals as goal

pub returns : goal.returns
returns c = the_law
