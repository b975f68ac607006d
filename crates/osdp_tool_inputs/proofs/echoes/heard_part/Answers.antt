use Rattle.std.proofs.Common.{arith}
use Rattle.osdp_tool_inputs.proofs.RunPlaces.{echoes_size}
use Rattle.osdp_tool_inputs.proofs.echoes.heard_part.Goals as goal

pub next-requires : goal.next-requires
next-requires c = omega (arith, c.lines.invariant.echoes, echoes_size c.args.text.now)

pub echoes-requires : goal.echoes-requires
echoes-requires c = c.in_default.ensures.left.1
