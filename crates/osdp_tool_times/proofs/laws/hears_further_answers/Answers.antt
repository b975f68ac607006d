use Rattle.osdp_tool_times.proofs.Further.{heard_further}
use Rattle.osdp_tool_times.proofs.laws.hears_further_answers.Goals as goal

pub returns : goal.returns
returns c = heard_further
