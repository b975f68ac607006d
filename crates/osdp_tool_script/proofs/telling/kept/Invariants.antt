use Rattle.std.proofs.Common.{◌≡◌, ◌++◌, drop}
use Rattle.osdp_tool_script.specs.Answers.{kept}
use Rattle.osdp_tool_script.proofs.telling.kept.Given as goal

-- what is kept and what is to come are the whole
abbrev pub invariant-loop-byte : goal.invariant-loop-byte
invariant-loop-byte l = l.characters.items ++ kept (drop l.byte-index l.line) ≡ kept l.line
