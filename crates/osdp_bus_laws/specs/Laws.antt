-- The statements of the laws, passed on from one place, module by module in the order of the library. Declares nothing.
pub use Rattle.osdp_bus_laws.specs.Calls.{Always}
pub use Rattle.osdp_bus_laws.specs.Addresses.{NoAddressOfTwo, ReservationsLast, ReserveTheirComsets}
pub use Rattle.osdp_bus_laws.specs.Exchanges.{HasOneExchange, KeepsReports}
pub use Rattle.osdp_bus_laws.specs.Packets.{CutsChangeNothing, PacketsGoToTheirAddress}
pub use Rattle.osdp_bus_laws.specs.Silences.{BusEndsItsRuns}
pub use Rattle.osdp_bus_laws.specs.Turns.{TakesTurns}
pub use Rattle.osdp_bus_laws.specs.Fairness.{TurnsAreFair}
pub use Rattle.osdp_bus_laws.specs.Sending.{HoldersSendTheirFrame, SessionsBeginAlone}
pub use Rattle.osdp_bus_laws.specs.Resending.{HoldersSendTheSame}
pub use Rattle.osdp_bus_laws.specs.Holding.{HoldersTick}
pub use Rattle.osdp_bus_laws.specs.Refusals.{RefusesInOrder}
pub use Rattle.osdp_bus_laws.specs.Reports.{TellsEachOnce}
pub use Rattle.osdp_bus_laws.specs.Repeating.{MarksWhatMayComeAgain}
pub use Rattle.osdp_bus_laws.specs.Moments.{MomentsAreSeen, RunsAreHeardAtTheirEnd}
pub use Rattle.osdp_bus_laws.specs.Retargeting.{RetargetsSetTheAddress}
pub use Rattle.osdp_bus_laws.specs.Settings.{DefaultsAreThese, DevicesAreSetAsTheBus}
pub use Rattle.osdp_bus_laws.specs.Making.{AddsAsLast, ComesOfItsSettings, WritesOnce}
