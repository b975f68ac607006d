-- The statements of the laws, passed on from one place. Declares nothing.
pub use Rattle.osdp_bus_progress.specs.Progress.{EachAnswerRecovers, EachComesThrough, EachRecovers}
pub use Rattle.osdp_bus_progress.specs.Resting.{ClearsTheLine, EachHasItsRound, EachIsIdle, EachRoundBringsOneMore, EachRoundRests}
pub use Rattle.osdp_bus_progress.specs.RowsAfterLosses.{FourRoundsBringThree, SixRoundsBringThreeOfTwo}
pub use Rattle.osdp_bus_progress.specs.RowsOfRounds.{ThreeRoundsSettleTwoAndReportOne}
pub use Rattle.osdp_bus_progress.specs.RowsOfTaken.{OfTwoTakenOneIsSettled}
pub use Rattle.osdp_bus_progress.specs.RowsOfTurns.{ItsSecondRoundSettles, OneOfTwoIsItsRound}
pub use Rattle.osdp_bus_progress.specs.SeveralLinks.{SeveralLinks}
