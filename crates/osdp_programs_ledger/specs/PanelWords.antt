-- What a panel answers and tells of orders, as steps of the ledger of an entry.
use Rattle.std.specs.Prelude.{◌≡◌, ℕ, Bool, not, ◌&&◌, ◌==◌, if◌then◌else◌, is_some, List, [], ◌∷◌, map, Some, None}
use Rattle.osdp_msg.specs.declared.command.Command.{Command}
use Rattle.osdp_controller.specs.Held.{on_its_way}
use Rattle.osdp_bus.specs.Buses.{device_of}
use Rattle.osdp_bus.specs.declared.entry.Entry.{Entry}
use Rattle.osdp_panel.specs.Giving.{give_refusal}
use Rattle.osdp_panel.specs.Orders.{PanelState}
use Rattle.osdp_panel.specs.Telling.{tells}
use Rattle.osdp_panel.specs.declared.report.PanelReport.{PanelReport}
use Rattle.osdp_panel.specs.declared.report.What.TheVariants.{Expired}
use Rattle.osdp_panel_laws.specs.Calls as panel
use Rattle.osdp_reader.specs.declared.handler.Answer.{Answer}
use Rattle.osdp_ledger.specs.Ledger as ledger
use Rattle.osdp_ledger.specs.Ledger.{Ledger}
use Rattle.osdp_link_ledger.specs.Steps.{order_at}
use Rattle.osdp_calls.specs.Calls.{Call, Step}
use Rattle.osdp_calls.specs.Lines.{InUse}
use Rattle.osdp_calls_instance.specs.Panels.{Calls, calls_of_panel}
use Rattle.osdp_calls_ledger.specs.Steps.{steps_along}

module _ {H : Type 0} (answer_of : H → Command → Answer) (after : H → Command → H) where
  -- what a call of a panel by which it reads nothing shows of an entry
  abbrev pub shown : ℕ → panel.Call → PanelState → InUse H → Ledger → List ledger.Step
  shown k call p l g =
      steps_along answer_of after k (map {A = Call H} {B = Step H} (λ c. record { call = c; places = [] }) (calls_of_panel (Calls call) p)) l g

  -- An order that `submit` accepts of an entry is the step Submit, with its command and the next place. One that it refuses is none, and one of another entry.
  abbrev pub AcceptedOrdersAreSteps : Type 0
  AcceptedOrdersAreSteps = (k entry until : ℕ) (command : Command) (p : PanelState) (l : InUse H) (g : Ledger) → l.bus ≡ p.bus
      → shown k (panel.Submit entry command until) p l g
      ≡ (if (entry == k) && not (is_some (give_refusal entry command p)) then ledger.Submit (record { place = g.submitted; command = command }) ∷ [] else [])

  -- A report that an order of an entry has expired is the step Withdraw of the front order, with the command that is told; and none of the entry is on its way.
  pub record IsWithdrawn (k : ℕ) (r : PanelReport) (command : Command) (p : PanelState) (l : InUse H) (g : Ledger) : Type 0 where
    pub step : shown k panel.NextReport p l g ≡ (if r.entry == k then ledger.Withdraw (order_at g.ahead command) ∷ [] else [])
    pub none : (d : Entry) → device_of r.entry p.bus ≡ Some d → on_its_way d.controller.session.state ≡ None

  abbrev pub ExpiredOrdersAreSteps : Type 0
  ExpiredOrdersAreSteps = (k : ℕ) (r : PanelReport) (command : Command) (p : PanelState) (l : InUse H) (g : Ledger) → l.bus ≡ p.bus
      → tells p ≡ Some r → r.what ≡ Expired command → IsWithdrawn k r command p l g
