use Rattle.std.proofs.Common.{◌≡◌, ◌+◌, length}
use Rattle.std.specs.Io.KnownBytes.{Consumes}
use Rattle.osdp_tool_streams.specs.Watched.{inner_of}
use Rattle.osdp_tool_captures.proofs.whole.read_whole.Given as goal

-- what was read so far, and how much is left of the limit
abbrev pub invariant-reads : goal.invariant-reads
invariant-reads g l = record {
  taken : Consumes (g.R.Read.remaining (inner_of l.initial.input)) (g.R.Read.remaining (inner_of l.input)) l.bytes.items;
  within : length l.bytes.items + l.left ≡ l.limit;
}

abbrev pub decreases-reads : goal.decreases-reads
decreases-reads g l = l.left
