use Rattle.osdp_frame.proofs.Common.{◌≡◌, ◌+◌, take, IsRunning}
use Rattle.osdp_frame.proofs.buffer.run_on.Given as goal

abbrev pub invariant-loop-number : goal.invariant-loop-number
invariant-loop-number g l = record {
  before : take (l.from + 1) l.states ≡ take (l.from + 1) l.initial.states;
  run : IsRunning g.C.Check.TookSince l.states l.bytes l.from l.number;
}
