use Rattle.osdp_tool_inputs.proofs.Common.{◌≡◌, ◌++◌, length, all_echoes, echoes_in, ended, left_in, left_of}
use Rattle.std.specs.Prelude.{flat_map}
use Rattle.osdp_tool_inputs.proofs.echoes.heard_part.Given as goal

-- the lines so far, and those to come
abbrev pub invariant-lines : goal.invariant-lines
invariant-lines l = record {
  left : l.left.items ++ flat_map ended (left_in l.rest) ≡ flat_map ended (left_of l.text);
  echoes : all_echoes l.rest ≡ echoes_in l.text;
}

abbrev pub decreases-lines : goal.decreases-lines
decreases-lines l = length (left_in l.rest)
