use Rattle.osdp_sim_bus.proofs.Common.{◌+◌, ◌-◌, ◌≤◌, length, bytes_of}
use Rattle.std.specs.VecDeque.{deque_capacity, deque_len}
use Rattle.osdp_sim_bus.proofs.Hearing.{HaveHeard}
use Rattle.osdp_sim_bus.proofs.line.hear_all.Given as goal

abbrev pub invariant-loop-site : goal.invariant-loop-site
invariant-loop-site g l = record {
  heard : HaveHeard g.H.Handler.answer_of g.H.Handler.after l.packet l.site-index l.initial.sites l.sites
      (bytes_of l.initial.line.items) (bytes_of l.line.items);
  place : deque_len l.line + (length l.sites - l.site-index) ≤ deque_capacity l.line;
}
