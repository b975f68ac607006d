-- By when what is told is taken, and by when a device that falls silent is told lost.
use Rattle.std.specs.Prelude.{◌≡◌, ℕ, ◌+◌, ◌-◌, ◌*◌, ◌≤◌, true, List, [], ◌∷◌, Option, Some}
use Rattle.osdp_msg.specs.declared.command.Command.{Command}
use Rattle.osdp_controller.specs.declared.report.LostCause.{LostCause}
use Rattle.osdp_controller.specs.declared.report.Report.TheVariants.{Lost}
use Rattle.osdp_controller.specs.States.{is_idle}
use Rattle.osdp_time_laws.specs.Bounds.{round_time}
use Rattle.osdp_bus.specs.declared.entry.Entry.{Entry}
use Rattle.osdp_bus.specs.Buses.{BusState, device_of, has_report}
use Rattle.osdp_bus.specs.Settings.{controller_config}
use Rattle.osdp_bus_laws.specs.Calls.{Call, NextReport, after_call}
use Rattle.osdp_bus_time_laws.specs.Clock.{KeepsTime}
use Rattle.osdp_bus_time_laws.specs.Laws.{exchange_of}
use Rattle.osdp_bus_time_laws.specs.Reading.{NothingIsRead}
use Rattle.osdp_bus_time_laws.specs.Turns.{BeginsBy, HasFew, KeepsTurns, others_of}

-- the session of an entry is open, and no exchange of it is outstanding
pub record IsIdle (entry : ℕ) (b : BusState) : Type 0 where
  pub device : Entry
  pub there : device_of entry b ≡ Some device
  pub idle : is_idle device.controller.session.state ≡ true

-- an open entry is asked in time: the interval between POLLs, a late tick, and a turn of each other entry
abbrev pub OpenAreAsked : BusState → Type 0
OpenAreAsked b = (late : ℕ) (time : ℕ → ℕ) (n entry : ℕ) (calls : List Call) → IsIdle entry b → KeepsTurns late time n calls b
    → BeginsBy (b.greatest + (b.config.poll_interval + late + others_of time late n entry)) entry calls b

-- no call comes later than this moment before the report that waits has been taken
abbrev pub TakenBy : ℕ → List Call → BusState → Type 0
TakenBy limit [] b = Unit {0}
TakenBy limit (call ∷ calls) b =
    ((after_call call b).greatest ≤ limit) × ((call ≡ NextReport → ⊥) → TakenBy limit calls (after_call call b))

-- what is told is taken in time
abbrev pub ReportsAreTaken : BusState → Type 0
ReportsAreTaken b = (late : ℕ) (calls : List Call) → has_report b ≡ true → KeepsTime late calls b → TakenBy (b.greatest + late) calls b

-- the report that waits says that the session of an entry has ended without an answer
pub record IsLost (entry : ℕ) (b : BusState) : Type 0 where
  pub cause : LostCause
  pub command : Option Command
  pub report : b.devices.report ≡ Some (entry, Lost cause command)

-- no call comes later than this moment before the entry has been told lost: the report is taken
abbrev pub ToldBy : ℕ → ℕ → List Call → BusState → Type 0
ToldBy limit entry [] b = Unit {0}
ToldBy limit entry (call ∷ calls) b =
    ((after_call call b).greatest ≤ limit) × ((IsLost entry b → call ≡ NextReport → ⊥) → ToldBy limit entry calls (after_call call b))

-- a round of sends, by the settings of a bus
abbrev pub round_of : BusState → ℕ → ℕ
round_of b late = round_time (controller_config 0 b.config) late

-- a device of which nothing is read after the answer that ended its last exchange is told lost in time: the interval between POLLs, a late tick and a turn of
-- each other entry, then a round of sends, and the report is taken so late at the most
abbrev pub SilenceIsTold : BusState → Type 0
SilenceIsTold b = (late : ℕ) (time : ℕ → ℕ) (n entry : ℕ) (calls : List Call) → IsIdle entry b → KeepsTurns late time n calls b → NothingIsRead entry calls b
    → ToldBy (b.greatest + (b.config.poll_interval + late + others_of time late n entry + (round_of b late + late))) entry calls b

-- whatever the line does: the turn of each other entry is as long as the settings allow
abbrev pub silence_bound : BusState → ℕ → ℕ → ℕ
silence_bound b late n = b.config.poll_interval + late + (n - 1) * (exchange_of b late + late) + (round_of b late + late)

abbrev pub SilenceIsToldInTime : BusState → Type 0
SilenceIsToldInTime b = (late n entry : ℕ) (calls : List Call) → IsIdle entry b → KeepsTime late calls b → HasFew n calls b → NothingIsRead entry calls b
    → ToldBy (b.greatest + silence_bound b late n) entry calls b
