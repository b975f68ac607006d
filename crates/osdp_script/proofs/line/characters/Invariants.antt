use Rattle.osdp_script.proofs.Common.{◌≡◌, ◌++◌, drop, characters}
use Rattle.osdp_script.proofs.line.characters.Given as goal

-- what is kept and what is to come are the whole
abbrev pub invariant-loop-byte : goal.invariant-loop-byte
invariant-loop-byte l = l.kept.items ++ characters (drop l.byte-index l.line) ≡ characters l.line
