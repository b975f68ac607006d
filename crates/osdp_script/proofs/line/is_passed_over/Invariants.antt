use Rattle.osdp_script.proofs.Common.{◌≡◌, drop, is_passed_over}
use Rattle.osdp_script.proofs.line.is_passed_over.Given as goal

-- the characters so far are spaces
abbrev pub invariant-loop-byte : goal.invariant-loop-byte
invariant-loop-byte l = is_passed_over (drop l.byte-index l.characters) ≡ is_passed_over l.characters
