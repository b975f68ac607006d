use Rattle.osdp_bus_laws.proofs.Common.{new_bus, after_calls}
use Rattle.osdp_bus_laws.proofs.Calling.{always}
use Rattle.osdp_bus_laws.proofs.Incoming.{cuts_change_nothing}
use Rattle.osdp_bus_laws.proofs.cuts_change_nothing.Goals as goal

pub returns : goal.returns
returns c = λ config calls is. cuts_change_nothing (after_calls calls (new_bus config)) (always config calls is)
