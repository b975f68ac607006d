use Rattle.osdp_tool_streams.proofs.Common.{◌≡◌, false, take, kept}
use Rattle.osdp_tool_streams.proofs.line.has_blank.Given as goal

-- what was looked at is kept whole, where no blank was found
abbrev pub invariant-loop-byte : goal.invariant-loop-byte
invariant-loop-byte l = l.found ≡ false → kept (take l.byte-index l.characters) ≡ take l.byte-index l.characters
