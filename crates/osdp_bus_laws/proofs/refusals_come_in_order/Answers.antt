use Rattle.osdp_bus_laws.proofs.Common.{new_bus, after_calls}
use Rattle.osdp_bus_laws.proofs.Refusing.{refuses_in_order}
use Rattle.osdp_bus_laws.proofs.Rooms.{always_rooms}
use Rattle.osdp_bus_laws.proofs.refusals_come_in_order.Goals as goal

pub returns : goal.returns
returns c = λ config calls is. refuses_in_order (after_calls calls (new_bus config)) (always_rooms config calls)
