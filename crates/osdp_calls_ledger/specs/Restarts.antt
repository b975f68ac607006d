-- What a restart costs an entry, by the history of its ledger before and after it: of its device, and of the panel.
use Rattle.std.specs.Prelude.{◌≡◌, ℕ, is_some, List, [], ◌∷◌, ◌++◌, None, Some}
use Rattle.osdp_msg.specs.declared.command.Command.{Command}
use Rattle.osdp_msg.specs.declared.limits.Room.{Room}
use Rattle.osdp_bus.specs.Buses.{device_of}
use Rattle.osdp_bus.specs.declared.config.BusConfig.{BusConfig}
use Rattle.osdp_bus.specs.declared.entry.Entry.{Entry}
use Rattle.osdp_reader.specs.declared.config.ReaderConfig.{ReaderConfig}
use Rattle.osdp_reader.specs.declared.handler.Answer.{Answer}
use Rattle.osdp_ledger.specs.History.{History, new_history, runs}
use Rattle.osdp_ledger.specs.Restarts.{DeviceCosts, PanelCosts, ReportsNoMore}
use Rattle.osdp_link_laws.specs.Link.{outstanding_command}
use Rattle.osdp_shared_line.specs.Line.{site_at}
use Rattle.osdp_calls.specs.Calls.{NewDevice, NewPanel, Step, after_calls}
use Rattle.osdp_calls.specs.Lines.{InUse, Station}
use Rattle.osdp_calls.specs.Premises.{AllKeep, IsSetUp}
use Rattle.osdp_calls_ledger.specs.Steps.{steps_from}

module _ {H : Type 0} (answer_of : H → Command → Answer) (after : H → Command → H) where
  -- what the steps of an entry have come to after these calls
  abbrev pub history_of : ℕ → Station H → List (Step H) → InUse H → History
  history_of k first steps l = runs (steps_from answer_of after k first steps l) new_history

  -- the device is made anew
  abbrev pub NewDeviceCosts : Type 0
  NewDeviceCosts = (l : InUse H) (steps : List (Step H)) (places : List ℕ) (k : ℕ) (config : ReaderConfig) (handler : H) (room : Room) (gap : ℕ) (first t : Station H)
      → site_at k (after_calls answer_of after steps l).stations ≡ Some t
      → DeviceCosts (history_of k first steps l) (history_of k first (steps ++ record { call = NewDevice k config handler room gap; places = places } ∷ []) l)

  -- .. whatever is called then
  abbrev pub NewDeviceReportsNoMore : Type 0
  NewDeviceReportsNoMore = (l : InUse H) (steps more : List (Step H)) (places : List ℕ) (k : ℕ) (config : ReaderConfig) (handler : H) (room : Room) (gap : ℕ) (first t last : Station H) (e : Entry)
      → let all = steps ++ record { call = NewDevice k config handler room gap; places = places } ∷ more in
      IsSetUp l → AllKeep answer_of after all l → site_at k l.stations ≡ Some first → site_at k (after_calls answer_of after steps l).stations ≡ Some t
      → site_at k (after_calls answer_of after all l).stations ≡ Some last → device_of k (after_calls answer_of after all l).bus ≡ Some e
      → ReportsNoMore (history_of k first steps l) (history_of k first all l)

  -- the panel is made anew: nothing is kept for any COMSET
  abbrev pub NewPanelCosts : Type 0
  NewPanelCosts = (l : InUse H) (steps : List (Step H)) (places : List ℕ) (config : BusConfig) (addresses : List ℕ) (k : ℕ) (first : Station H) (d : Entry)
      → device_of k (after_calls answer_of after steps l).bus ≡ Some d
      → let step : Step H = record { call = NewPanel config addresses; places = places } in
      PanelCosts (is_some (outstanding_command d.controller.session.state)) (history_of k first steps l) (history_of k first (steps ++ step ∷ []) l)
      × ((e : Entry) → device_of k (after_calls answer_of after (steps ++ step ∷ []) l).bus ≡ Some e → e.reserved ≡ None)
