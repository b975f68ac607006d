use Rattle.osdp_tool_inputs.proofs.Timed.{moments_leave_lines as the_law}
use Rattle.osdp_tool_inputs.proofs.laws.moments_leave_lines.Goals as goal

pub returns : goal.returns
returns c = the_law
