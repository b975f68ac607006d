-- What a tick does while an entry holds the line.
use Rattle.std.specs.Prelude.{◌≡◌, ◌≢◌, ◌⊎◌, ℕ, true, false, Some, None}
use Rattle.osdp_frame.specs.Packet.{Packet}
use Rattle.osdp_controller.specs.declared.report.LostCause.TheVariants.{NoReply}
use Rattle.osdp_controller.specs.declared.report.Report.TheVariants.{Lost}
use Rattle.osdp_controller.specs.States.{is_closed}
use Rattle.osdp_controller_laws.specs.Commands.{asked_in}
use Rattle.osdp_bus.specs.declared.entry.Entry.{Entry}
use Rattle.osdp_bus.specs.Buses.{BusState, device_of, has_report, holder, seen}
use Rattle.osdp_bus.specs.Entries.{holds, is_entry_due}
use Rattle.osdp_bus.specs.Ticking.{BusTicked, bus_ticks, stays}
use Rattle.osdp_bus_laws.specs.Exchanges.{IsOutstandingAt}
use Rattle.osdp_bus_laws.specs.Exchanges.{own_frame}
use Rattle.osdp_bus_laws.specs.Turns.{IsDueEntry, asking, judged}

-- no report waits at a tick, and an entry holds the line
pub record HoldsAt (now entry : ℕ) (b : BusState) : Type 0 where
  pub before : has_report b ≡ false
  pub held : holder (judged now b) ≡ Some entry

-- the exchange of an entry still stands, and it is still due
pub record IsStillDue (entry : ℕ) (b : BusState) : Type 0 where
  pub device : Entry
  pub there : device_of entry b ≡ Some device
  pub outstanding : holds device ≡ true
  pub due : is_entry_due b.greatest device ≡ true

-- the burst of its exchange goes out, the exchange stands on, and nothing is told
pub record SendsItsOwn (entry : ℕ) (d : Entry) (t : BusTicked) : Type 0 where
  pub frame : Packet
  pub sent : t.sent ≡ Some frame
  pub own : own_frame d ≡ Some frame
  pub stands : IsOutstandingAt entry t.bus
  pub untold : has_report t.bus ≡ false

-- or nothing goes out: its session has ended without a reply, this waits to be taken with the command that was outstanding,
-- and the line is free
pub record TellsItsEnd (entry : ℕ) (d : Entry) (t : BusTicked) : Type 0 where
  pub nothing : t.sent ≡ None
  pub told : t.bus.devices.report ≡ Some (entry, Lost NoReply (asked_in d.controller.session.state))
  pub after : Entry
  pub there : device_of entry t.bus ≡ Some after
  pub closed : is_closed after.controller.session.state ≡ true
  pub free : holder t.bus ≡ None

-- the tick is the holder's, and no other device changes in it
pub record TicksItsHolder (now entry : ℕ) (d : Entry) (b : BusState) : Type 0 where
  pub own : SendsItsOwn entry d (bus_ticks now b) ⊎ TellsItsEnd entry d (bus_ticks now b)
  pub others : (other : ℕ) → other ≢ entry → device_of other (bus_ticks now b).bus ≡ device_of other (asking now b)

pub record HoldersTick (b : BusState) : Type 0 where
  -- a holder that isn't due: nothing, and the run goes on
  pub not_due : (now entry : ℕ) → HoldsAt now entry b → (IsDueEntry entry (judged now b) → ⊥) → bus_ticks now b ≡ stays (judged now b)
  -- one that is due: the run ends, and where that ended its exchange or it is no longer due, nothing more
  pub over : (now entry : ℕ) → HoldsAt now entry b → IsDueEntry entry (judged now b) → (IsStillDue entry (asking now b) → ⊥)
      → bus_ticks now b ≡ stays (asking now b)
  -- where its exchange still stands and it is still due, the tick is the holder's
  pub ticks : (now entry : ℕ) → HoldsAt now entry b → IsDueEntry entry (judged now b) → (still : IsStillDue entry (asking now b))
      → TicksItsHolder now entry still.device b
  -- while a report waits nothing but the moment is seen, and where the end of the run left one, nothing goes out either
  pub waits : (now : ℕ) → has_report b ≡ true → bus_ticks now b ≡ stays (seen now b)
  pub told : (now : ℕ) → has_report b ≡ false → holder (judged now b) ≡ None → has_report (asking now b) ≡ true
      → bus_ticks now b ≡ stays (asking now b)
