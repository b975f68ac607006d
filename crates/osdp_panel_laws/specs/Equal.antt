-- Which events a panel marks as ones that may have been told before, to the byte.
use Rattle.std.specs.Prelude.{◌≡◌, ℕ, true, List, ◌∷◌, ◌++◌, Some}
use Rattle.osdp_msg.specs.declared.event.Event.{Event}
use Rattle.osdp_msg.specs.Events.{event_reply}
use Rattle.osdp_msg.specs.ReplyTable.{reply_code, reply_data}
use Rattle.osdp_controller.specs.declared.report.Report.{Report}
use Rattle.osdp_controller.specs.declared.report.Report.TheVariants as report
use Rattle.osdp_bus.specs.declared.config.BusConfig.{BusConfig}
use Rattle.osdp_bus.specs.Buses.{BusState, is_maybe_again, new_bus}
use Rattle.osdp_bus.specs.Settings.{IsBusConfig}
use Rattle.osdp_bus_laws.specs.Calls.{Call, after_calls}
use Rattle.osdp_bus_laws.specs.Repeating.{NoEventAmong, OpeningAmong, of_entry}
use Rattle.osdp_bus_laws.specs.Reports.{taken_along}

-- the replies that tell two events have the same code and the same data
pub record AreEqual (a b : Event) : Type 0 where
  pub code : reply_code (event_reply a) ≡ reply_code (event_reply b)
  pub bytes : reply_data (event_reply a) ≡ reply_data (event_reply b)

-- the last event among these reports is equal, and a session opened after it
pub record WasToldLast (e : Event) (reports : List Report) : Type 0 where
  pub before : List Report
  pub last : Event
  pub after : List Report
  pub whole : reports ≡ before ++ report.Event last ∷ after
  pub equal : AreEqual e last
  pub none_later : NoEventAmong after
  pub opened : OpeningAmong after

-- an event is marked exactly where this holds of it, by the reports of its entry that were taken before it
pub record MarksEqualEvents (b : BusState) (taken : List (ℕ × Report)) : Type 0 where
  pub marked : is_maybe_again b ≡ true
      → (entry : ℕ) × (e : Event) × (b.devices.report ≡ Some (entry, report.Event e)) × WasToldLast e (of_entry entry taken)
  pub marks : (entry : ℕ) (e : Event) → b.devices.report ≡ Some (entry, report.Event e) → WasToldLast e (of_entry entry taken)
      → is_maybe_again b ≡ true

abbrev pub EqualEventsAreMarked : Type 0
EqualEventsAreMarked = (config : BusConfig) (calls : List Call) → IsBusConfig config
    → MarksEqualEvents (after_calls calls (new_bus config)) (taken_along calls (new_bus config))
