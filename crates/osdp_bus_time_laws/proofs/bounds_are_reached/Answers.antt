use Rattle.osdp_bus_time_laws.proofs.Instances.{opening_is_reached}
use Rattle.osdp_bus_time_laws.proofs.SlowOrder.{order_is_reached}
use Rattle.osdp_bus_time_laws.proofs.SlowTelling.{silence_is_reached}
use Rattle.osdp_bus_time_laws.proofs.bounds_are_reached.Goals as goal

pub returns : goal.returns
returns c = record { opening = opening_is_reached; order = order_is_reached; silence = silence_is_reached }
