use Rattle.osdp_tool_inputs.proofs.Common.{◌≡◌, ◌++◌, length, lines_of, retold_line, IsAt, stamps_left, tells_left}
use Rattle.std.specs.Prelude.{flat_map}
use Rattle.osdp_tool_inputs.proofs.heard.retold_lines.Given as goal

-- the lines so far, and those to come
abbrev pub invariant-lines : goal.invariant-lines
invariant-lines l = record {
  told : l.told.items ++ flat_map (retold_line l.json l.clock (stamps_left l.source.text.now) (tells_left l.source.text.now)) l.lines
      ≡ flat_map (retold_line l.json l.clock (stamps_left l.source.text.now) (tells_left l.source.text.now)) (lines_of l.shown);
  place : IsAt l.source.text.now l.source.late.now l.place;
}

abbrev pub decreases-lines : goal.decreases-lines
decreases-lines l = length l.lines
