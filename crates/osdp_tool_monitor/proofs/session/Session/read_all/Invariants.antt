use Rattle.osdp_tool_monitor.proofs.Common.{◌≡◌, false, inner_of, has_failed}
use Rattle.osdp_tool_monitor.proofs.Pieces.{HasReadMany}
use Rattle.osdp_tool_monitor.proofs.session.Session.read_all.Given as goal

-- the pieces before this one
abbrev pub invariant-reads : goal.invariant-reads
invariant-reads g l = record {
  input : has_failed l.input ≡ false;
  output : has_failed l.output ≡ false;
  read : HasReadMany l.counter g.M.Moments.tells l.initial.self.mode l.initial.clock l.clock
      (g.R.Read.remaining (inner_of l.initial.input)) (g.R.Read.remaining (inner_of l.input))
      (g.W.Write.contents (inner_of l.initial.output)) (g.W.Write.contents (inner_of l.output)) l.self;
}
