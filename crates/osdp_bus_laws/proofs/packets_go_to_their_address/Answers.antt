use Rattle.osdp_bus_laws.proofs.Common.{new_bus, after_calls}
use Rattle.osdp_bus_laws.proofs.Calling.{always}
use Rattle.osdp_bus_laws.proofs.Incoming.{packets_go_to_their_address}
use Rattle.osdp_bus_laws.proofs.packets_go_to_their_address.Goals as goal

pub returns : goal.returns
returns c = λ config calls is. packets_go_to_their_address (after_calls calls (new_bus config)) (always config calls is)
