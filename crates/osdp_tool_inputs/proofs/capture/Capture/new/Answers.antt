use Rattle.std.proofs.Common.{refl, rules}
use Rattle.osdp_tool_inputs.proofs.Following.{followed_none}
use Rattle.osdp_tool_inputs.proofs.capture.Capture.new.Goals as goal

pub returns : goal.returns
returns c = followed_none (record { timed = c.in_ok-new.field-0; runs = 0; late = c.new-2.result }) c.in_ok-new.ensures refl (search rules)
