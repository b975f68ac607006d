-- The names that most proofs of this crate cite, passed on from one place. Declares nothing.
pub use Rattle.std.proofs.Common.{[], ap, arith, Bool, Err, false, inl, inr, List, None, Ok, Option, refl, Result, Some, subst, sym, true, ℕ, ◌∙◌, ◌≡◌, ◌⊎◌}
pub use Rattle.osdp_c_values.specs.Panels.{added_entry, added_status, AddsTo}
pub use Rattle.osdp_c_values.specs.Statuses.{number}
pub use Rattle.osdp_tool_monitor.specs.Hearing.{Come, LineEvent, RunEnds, TableDue}
pub use Rattle.osdp_c_values.specs.declared.status.Status.{Status}
pub use Rattle.osdp_c_values.specs.HeldMonitors.{HeldMonitor}
pub use Rattle.osdp_c_values.specs.Monitors.{EventEnds, EventEndsIn, IsStopped}
pub use Rattle.osdp_c.specs.Outcomes.{AnswersTellOfIt, AreBoth, AreMadeAlike, CommandsAreReadOnce, CommandsHaveOneAnswer, DeadlinesAreTold, EventsAreReadOnce, GivesOneBurst, HaveHeardTheSame, LacksMemory, moment_in, MonitorsAreMadeAlike, NoMonitorHears, OneBurstGoesOut, ReadersAreMadeAlike, ReadersWithRoomAreMadeAlike, RepliesHaveOneAnswer, RepliesTellOneEvent, TellsOfIt}
pub use Rattle.osdp_msg.specs.declared.fault.MsgFault.{MsgFault}
pub use Rattle.osdp_c_values.specs.declared.status.Status.TheVariants.{Done, Monitor, TooSmall}
