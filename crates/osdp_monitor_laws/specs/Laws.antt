-- The statements of the laws, passed on from one place. Declares nothing.
pub use Rattle.osdp_monitor_laws.specs.Misses.{MissesNoOtherPacket, MissesNoOtherReply, MissesNoUnanswered}
pub use Rattle.osdp_monitor_laws.specs.AnyReader.{AccusesNoReaderByTheRules}
pub use Rattle.osdp_monitor_laws.specs.LateReader.{AccusesNoLateReader, TellsLateReaders}
pub use Rattle.osdp_monitor_laws.specs.AnyPanel.{AccusesNoPanelByTheRules}
pub use Rattle.osdp_monitor_laws.specs.Late.{LeavesStrayBusy, TellsLateAnswers}
pub use Rattle.osdp_monitor_laws.specs.Names.{MissesNoPacketOutOfTurn, NamesReaders, NamesSecondReplies}
pub use Rattle.osdp_monitor_laws.specs.Panels.{AccusesTheSender, NamesPanels, TellsFirstDoubts}
pub use Rattle.osdp_monitor_laws.specs.PanelLine.{AccusesNoPanel}
pub use Rattle.osdp_monitor_laws.specs.ReaderLine.{AccusesNoReader}
pub use Rattle.osdp_monitor_laws.specs.Repeats.{NamesAnswersToRepeats}
pub use Rattle.osdp_monitor_laws.specs.Suspicion.{SuspectsAfterDoubts, SuspectsForAWhile}
pub use Rattle.osdp_monitor_laws.specs.Notices.{TellsNoAnswered, TellsReplies, TellsTooLittle, TellsUnanswered, TellsUnansweredOnce, TellsUnheard}
