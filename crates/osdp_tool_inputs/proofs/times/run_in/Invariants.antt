use Rattle.osdp_tool_inputs.proofs.Common.{◌≡◌, drop, number_after, run_of}
use Rattle.osdp_tool_inputs.proofs.times.run_in.Given as goal

-- the digits so far, and those to come
abbrev pub invariant-loop-byte : goal.invariant-loop-byte
invariant-loop-byte l = number_after l.run (drop l.byte-index l.line) ≡ run_of l.line
