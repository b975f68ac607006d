use Rattle.osdp_tool_sim.proofs.Common.{◌≡◌, inner_of, has_failed}
use Rattle.osdp_tool_sim.proofs.ReadWhole.{HasRead}
use Rattle.osdp_tool_sim.proofs.reading.read_all.Given as goal

abbrev pub invariant-reads : goal.invariant-reads
invariant-reads g l = record {
  has_read : HasRead l.limit l.left l.bytes.items (g.R.Read.remaining (inner_of l.initial.input)) (g.R.Read.remaining (inner_of l.input));
  failed : has_failed l.input ≡ has_failed l.initial.input;
}

abbrev pub decreases-reads : goal.decreases-reads
decreases-reads g l = l.left
