use Rattle.osdp_tool_times.proofs.Presences.{tells_offline as the_law}
use Rattle.osdp_tool_times.proofs.laws.tells_offline.Goals as goal

pub returns : goal.returns
returns c = the_law
