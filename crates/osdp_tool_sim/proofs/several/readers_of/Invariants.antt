use Rattle.osdp_tool_sim.proofs.Common.{◌≡◌, ◌+◌, ◌++◌, drop, readers_from}
use Rattle.osdp_tool_sim.proofs.several.readers_of.Given as goal

-- the readers so far, and those that are left
abbrev pub invariant-loop-reader : goal.invariant-loop-reader
invariant-loop-reader l = record {
  made : l.made.items ++ readers_from l.number (drop l.reader-index l.told) ≡ readers_from 1 l.told;
  count : l.number ≡ l.reader-index + 1;
}
