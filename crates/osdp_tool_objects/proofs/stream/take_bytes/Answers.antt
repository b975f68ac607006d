use Rattle.osdp_tool_objects.proofs.Lines.{held_done, one_more, text_done}
use Rattle.osdp_tool_objects.proofs.stream.take_bytes.Goals as goal

pub lines-preserved : goal.lines-preserved
lines-preserved c =
    one_more c.args.bytes.now c.lines.at c.in-Some.length c.args.held.now.items c.lines.held.items c.args.text.now.items c.lines.text.items c.lines.invariant c.in-Some.ensures _ _
    c.in_ok-end_line.ensures.held c.in_ok-end_line.ensures.text

pub returns-clause-text : goal.returns-clause-text
returns-clause-text c =
    text_done c.args.bytes.now c.lines.at c.args.held.now.items c.lines.held.items c.args.text.now.items c.lines.text.items c.lines.invariant c.in_default.ensures c.extend_from_slice.result

pub returns-clause-held : goal.returns-clause-held
returns-clause-held c =
    held_done c.args.bytes.now c.lines.at c.args.held.now.items c.lines.held.items c.args.text.now.items c.lines.text.items c.lines.invariant c.in_default.ensures c.extend_from_slice.result _
    c.extend_from_slice.ensures.items
