use Rattle.osdp_tool_times.proofs.Presences.{counts_restarts as the_law}
use Rattle.osdp_tool_times.proofs.laws.counts_restarts.Goals as goal

pub returns : goal.returns
returns c = the_law
