-- What a call of a bus reads.
use Rattle.std.specs.Prelude.{◌≡◌}
use Rattle.osdp_bus.specs.Buses.{BusState}
use Rattle.osdp_bus_laws.specs.Calls as bus
use Rattle.osdp_bus_time_laws.specs.Reading.{read_in}
use Rattle.osdp_calls.specs.Calls.{read_by}

-- by the laws in time of a bus it is what any calls hand to their controllers (`HandsOver` of `osdp_calls`)
abbrev pub ReadsAreHandedOver : Type 0
ReadsAreHandedOver = (call : bus.Call) (b : BusState) → read_in call b ≡ read_by call b
