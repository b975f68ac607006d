use Rattle.osdp_bus_order_laws.proofs.Common.{new_bus, after_calls, always_well}
use Rattle.osdp_bus_order_laws.proofs.Ending.{ends_are_told}
use Rattle.osdp_bus_order_laws.proofs.ended_sessions_are_told.Goals as goal

pub returns : goal.returns
returns c = λ config calls is. ends_are_told (after_calls calls (new_bus config)) (let well = always_well config calls is in well.sound)
