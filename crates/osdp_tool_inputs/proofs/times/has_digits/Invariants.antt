use Rattle.osdp_tool_inputs.proofs.Common.{◌≡◌, drop, has_digits}
use Rattle.osdp_tool_inputs.proofs.times.has_digits.Given as goal

-- blanks alone stand before
abbrev pub invariant-loop-byte : goal.invariant-loop-byte
invariant-loop-byte l = has_digits (drop l.byte-index l.line) ≡ has_digits l.line
