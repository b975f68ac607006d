use Rattle.osdp_tool_inputs.proofs.Common.{arith, no_stamp, parts, stamps_below}
use Rattle.osdp_tool_inputs.proofs.Stamps.{past_all}
use Rattle.osdp_tool_inputs.proofs.times.stamps.Goals as goal

pub returns : goal.returns
returns c = past_all c.loop-line.found.items c.loop-line.held.now c.args.lines.now c.loop-line.line-index (stamps_below no_stamp (parts c.args.lines.now)) c.loop-line.invariant (omega arith)
