use Rattle.osdp_tool_sim.proofs.OneAccount.{one_account}
use Rattle.osdp_tool_sim.proofs.laws.has_one_account.Goals as goal

pub returns : goal.returns
returns c = one_account
