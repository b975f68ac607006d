use Rattle.osdp_bus_order_laws.proofs.Common.{new_bus, after_calls, always_well}
use Rattle.osdp_bus_order_laws.proofs.Along.{keep_their_places}
use Rattle.osdp_bus_order_laws.proofs.Flags.{always_flagged}
use Rattle.osdp_bus_order_laws.proofs.orders_keep_their_places.Goals as goal

pub returns : goal.returns
returns c = λ config calls is. keep_their_places (after_calls calls (new_bus config)) (always_well config calls is)
