use Rattle.osdp_tool_times.proofs.Steps.{the_longest, those_below}
use Rattle.osdp_tool_times.proofs.laws.tells_answer_times.Goals as goal

pub returns-clause-longest : goal.returns-clause-longest
returns-clause-longest c = the_longest

pub returns-clause-below : goal.returns-clause-below
returns-clause-below c = those_below
