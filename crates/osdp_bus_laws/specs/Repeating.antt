-- Events that may have been reported before.
use Rattle.std.specs.Prelude.{◌≡◌, ℕ, true, ◌==◌, ◌⊎◌, if◌then◌else◌, List, [], ◌∷◌, ◌++◌, Some}
use Rattle.osdp_controller.specs.declared.report.Report.{Report}
use Rattle.osdp_controller.specs.declared.report.Report.TheVariants as report
use Rattle.osdp_msg.specs.declared.event.Event.{Event}
use Rattle.osdp_bus.specs.declared.config.BusConfig.{BusConfig}
use Rattle.osdp_bus.specs.Buses.{BusState, is_maybe_again, new_bus}
use Rattle.osdp_bus.specs.Remembering.{event_bytes}
use Rattle.osdp_bus.specs.Settings.{IsBusConfig}
use Rattle.osdp_bus_laws.specs.Calls.{Call, after_calls}
use Rattle.osdp_bus_laws.specs.Reports.{taken_along}

-- the reports of an entry among those of all, in their order
abbrev pub of_entry : ℕ → List (ℕ × Report) → List Report
of_entry k [] = []
of_entry k (told ∷ more) = if k == told.0 then told.1 ∷ of_entry k more else of_entry k more

abbrev pub IsNoEvent : Report → Type 0
IsNoEvent (report.Event e) = ⊥
IsNoEvent _ = Unit {0}

abbrev pub IsOpening : Report → Type 0
IsOpening (report.Opened id) = Unit {0}
IsOpening _ = ⊥

-- none of these reports tells an event; one of them tells that a session has opened
abbrev pub NoEventAmong : List Report → Type 0
NoEventAmong [] = Unit {0}
NoEventAmong (r ∷ rs) = IsNoEvent r × NoEventAmong rs

abbrev pub OpeningAmong : List Report → Type 0
OpeningAmong [] = ⊥
OpeningAmong (r ∷ rs) = IsOpening r ⊎ OpeningAmong rs

-- the last event among these reports has the same bytes, and a session opened after it
pub record CameBefore (e : Event) (reports : List Report) : Type 0 where
  pub before : List Report
  pub last : Event
  pub after : List Report
  pub whole : reports ≡ before ++ report.Event last ∷ after
  pub equal : event_bytes e ≡ event_bytes last
  pub none_later : NoEventAmong after
  pub opened : OpeningAmong after

-- the report that waits is told as one that may have come before exactly where it is an event of which this holds, by what was taken before it
pub record MarksExactly (b : BusState) (taken : List (ℕ × Report)) : Type 0 where
  pub marked : is_maybe_again b ≡ true
      → (entry : ℕ) × (e : Event) × (b.devices.report ≡ Some (entry, report.Event e)) × CameBefore e (of_entry entry taken)
  pub marks : (entry : ℕ) (e : Event) → b.devices.report ≡ Some (entry, report.Event e) → CameBefore e (of_entry entry taken)
      → is_maybe_again b ≡ true

-- of a bus that was made anew, whatever is called
abbrev pub MarksWhatMayComeAgain : Type 0
MarksWhatMayComeAgain = (config : BusConfig) (calls : List Call) → IsBusConfig config
    → MarksExactly (after_calls calls (new_bus config)) (taken_along calls (new_bus config))
