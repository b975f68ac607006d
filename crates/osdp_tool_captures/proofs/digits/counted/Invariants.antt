use Rattle.std.proofs.Common.{◌≡◌, ◌++◌, drop}
use Rattle.osdp_tool_captures.specs.Digits.{counted}
use Rattle.osdp_tool_captures.proofs.digits.counted.Given as goal

-- what is kept and what is to come are the whole
abbrev pub invariant-loop-byte : goal.invariant-loop-byte
invariant-loop-byte l = l.kept.items ++ counted (drop l.byte-index l.characters) ≡ counted l.characters
