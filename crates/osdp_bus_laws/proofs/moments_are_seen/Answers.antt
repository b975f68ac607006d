use Rattle.osdp_bus_laws.proofs.Common.{new_bus, after_calls}
use Rattle.osdp_bus_laws.proofs.Calling.{always}
use Rattle.osdp_bus_laws.proofs.Moments.{moments_are_seen, runs_are_heard}
use Rattle.osdp_bus_laws.proofs.moments_are_seen.Goals as goal

pub returns : goal.returns
returns c = record {
  greatest = moments_are_seen;
  runs = λ config calls is. runs_are_heard (after_calls calls (new_bus config)) (always config calls is);
}
