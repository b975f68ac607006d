use Rattle.osdp_bus_laws.proofs.Common.{new_bus, after_calls}
use Rattle.osdp_bus_laws.proofs.Calling.{always}
use Rattle.osdp_bus_laws.proofs.Fairness.{always_first, turns_are_fair}
use Rattle.osdp_bus_laws.proofs.Turning.{takes_turns}
use Rattle.osdp_bus_laws.proofs.entries_take_turns.Goals as goal

pub returns : goal.returns
returns c = record {
  turns = takes_turns;
  fair = λ config calls is. turns_are_fair (after_calls calls (new_bus config)) (always config calls is) (always_first config calls is);
}
