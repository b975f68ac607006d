use Rattle.osdp_tool_plan.proofs.Refused.{refuses_once}
use Rattle.osdp_tool_plan.proofs.laws.refuses_once.Goals as goal

pub returns : goal.returns
returns c = refuses_once c.has_one_judgement.ensures
