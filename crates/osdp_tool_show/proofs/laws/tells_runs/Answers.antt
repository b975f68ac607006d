use Rattle.osdp_tool_show.proofs.OneInput.{tells_runs}
use Rattle.osdp_tool_show.proofs.laws.tells_runs.Goals as goal

pub returns : goal.returns
returns c = tells_runs
