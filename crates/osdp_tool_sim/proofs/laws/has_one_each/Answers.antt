use Rattle.osdp_tool_sim.proofs.OneAccount.{one_each}
use Rattle.osdp_tool_sim.proofs.laws.has_one_each.Goals as goal

pub returns : goal.returns
returns c = one_each
