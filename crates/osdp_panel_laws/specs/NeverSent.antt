-- An order that has expired never went out.
use Rattle.std.specs.Prelude.{◌≡◌, ℕ, ◌+◌, List, ◌∷◌, ◌++◌, length, Some, slice_get}
use Rattle.osdp_msg.specs.declared.command.Command.{Command}
use Rattle.osdp_controller.specs.Held.{on_its_way}
use Rattle.osdp_bus.specs.declared.config.BusConfig.{BusConfig}
use Rattle.osdp_bus.specs.declared.entry.Entry.{Entry}
use Rattle.osdp_bus.specs.Buses.{device_of}
use Rattle.osdp_bus.specs.Settings.{IsBusConfig}
use Rattle.osdp_panel.specs.declared.report.PanelReport.{PanelReport}
use Rattle.osdp_panel.specs.declared.report.What.TheVariants.{Expired}
use Rattle.osdp_panel.specs.Orders.{PanelState}
use Rattle.osdp_panel.specs.Panels.{new_panel}
use Rattle.osdp_panel.specs.Telling.{tells}
use Rattle.osdp_panel_laws.specs.Calls.{Call, NextReport, after_calls}
use Rattle.osdp_panel_laws.specs.Outcome.{added_in, along, back_in, told_in, waits_to_be_told}

-- how many orders of an entry have ended
abbrev pub count_ended : ℕ → List Call → PanelState → ℕ
count_ended k calls p = length (along (told_in k) calls p) + length (waits_to_be_told k (after_calls calls p)) + length (along (back_in k) calls p)

-- After these calls an order of the entry is on its way: its packet has gone out, or goes out again. It is the first that hasn't ended, so its number is that of the first order
-- of all, and as many more as have ended.
pub record IsOnItsWay (k number : ℕ) (calls : List Call) (first : PanelState) : Type 0 where
  pub device : Entry
  pub there : device_of k (after_calls calls first).bus ≡ Some device
  pub command : Command
  pub out : on_its_way device.controller.session.state ≡ Some command
  pub added : ℕ
  pub from : slice_get (along added_in calls first) k ≡ Some added
  pub number_is : number ≡ added + count_ended k calls first

-- an order of which `next_report` tells that it has expired is on its way after no part of the calls, neither before that report nor after it
abbrev pub ExpiredNeverWentOut : Type 0
ExpiredNeverWentOut = (config : BusConfig) (before after some rest : List Call) → IsBusConfig config → (number : ℕ) (r : PanelReport) (command : Command)
    → tells (after_calls before (new_panel config)) ≡ Some r → r.what ≡ Expired command → r.number ≡ Some number
    → some ++ rest ≡ before ++ NextReport ∷ after → IsOnItsWay r.entry number some (new_panel config) → ⊥
