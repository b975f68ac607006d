use Rattle.osdp_bus_laws.proofs.Common.{new_bus, after_calls}
use Rattle.osdp_bus_laws.proofs.Calling.{always}
use Rattle.osdp_bus_laws.proofs.Exchanging.{has_one_exchange}
use Rattle.osdp_bus_laws.proofs.one_exchange_is_outstanding.Goals as goal

pub returns : goal.returns
returns c = λ config calls is. has_one_exchange (after_calls calls (new_bus config)) (always config calls is)
