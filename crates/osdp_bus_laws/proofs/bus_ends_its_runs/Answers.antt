use Rattle.osdp_bus_laws.proofs.Common.{new_bus, after_calls}
use Rattle.osdp_bus_laws.proofs.Calling.{always}
use Rattle.osdp_bus_laws.proofs.Silences.{bus_ends_its_runs}
use Rattle.osdp_bus_laws.proofs.bus_ends_its_runs.Goals as goal

pub returns : goal.returns
returns c = λ config calls is. bus_ends_its_runs (after_calls calls (new_bus config)) (always config calls is)
