use Rattle.osdp_tool_times.proofs.Presences.{counts_a_row_once as the_law}
use Rattle.osdp_tool_times.proofs.laws.counts_a_row_once.Goals as goal

pub returns : goal.returns
returns c = the_law
