use Rattle.std.proofs.Common.{rules}
use Rattle.osdp_tool_times.proofs.Plain.{begins_at_once}
use Rattle.osdp_tool_times.proofs.run.from_start.Goals as goal

pub returns-in-83 : goal.returns-in-83
returns-in-83 c = begins_at_once c.args.run.now (search rules) (search rules)
