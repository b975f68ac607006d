use Rattle.std.proofs.Common.{arith}
use Rattle.osdp_tool_inputs.proofs.OneByOne.{hearing_echoes, hearing_room, holds_none}
use Rattle.osdp_tool_inputs.proofs.ears.Ears.hear_text.Goals as goal

pub next-requires : goal.next-requires
next-requires c = hearing_echoes c.args.mode c.args.text.now c.lines.number c.lines.self c.lines.rest c.lines.invariant (omega arith)

pub hear_line-requires-clause-none : goal.hear_line-requires-clause-none
hear_line-requires-clause-none c = holds_none _ _ c.lines.self.line _ _ c.lines.invariant.heard

pub hear_line-requires-clause-room : goal.hear_line-requires-clause-room
hear_line-requires-clause-room c =
    let room = hearing_room c.args.mode c.args.text.now c.lines.number c.lines.self c.lines.rest c.lines.invariant c.in-Some.line.now _ c.in-Some.ensures.left in
    omega (arith, room.1)

pub overflow_add-number : goal.overflow_add-number
overflow_add-number c =
    let room = hearing_room c.args.mode c.args.text.now c.lines.number c.lines.self c.lines.rest c.lines.invariant c.in-Some.line.now _ c.in-Some.ensures.left in
    omega (arith, room.0)

pub echoes-requires : goal.echoes-requires
echoes-requires c = c.in_default.ensures.left.1
