-- No session in which the device has not restarted ends because it refused a number.
use Rattle.std.specs.Prelude.{◌≡◌, ℕ, Bool, true, false, All, List, [], ◌∷◌, Some}
use Rattle.osdp_msg.specs.declared.command.Command.{Command}
use Rattle.osdp_controller.specs.declared.report.Report.{Report}
use Rattle.osdp_bus_laws.specs.Calls as bus
use Rattle.osdp_bus_laws.specs.Reports.{told_in}
use Rattle.osdp_reader.specs.declared.handler.Answer.{Answer}
use Rattle.osdp_ledger.specs.Ledger as ledger
use Rattle.osdp_ledger.specs.Ledger.{Open, RestartDevice}
use Rattle.osdp_link_laws.specs.Refusals.{IsNoRefusal}
use Rattle.osdp_shared_line.specs.Line.{site_at}
use Rattle.osdp_calls.specs.Calls.{OfPanel, Step, after_calls}
use Rattle.osdp_calls.specs.Lines.{InUse, Station}
use Rattle.osdp_calls.specs.Premises.{AllKeep, IsSetUp, Keeps}
use Rattle.osdp_calls_ledger.specs.Steps.{steps_from}

-- whether the device has lost power since its session began, or, where none has begun in these steps, before them
abbrev pub has_restarted : Bool → List ledger.Step → Bool
has_restarted before [] = before
has_restarted before (Open ∷ steps) = has_restarted false steps
has_restarted before (RestartDevice ∷ steps) = has_restarted true steps
has_restarted before (step ∷ steps) = has_restarted before steps

module _ {H : Type 0} (answer_of : H → Command → Answer) (after : H → Command → H) where
  -- whatever the panel's program calls next
  abbrev pub CallsRefuseNoNumber : Type 0
  CallsRefuseNoNumber = (l : InUse H) (steps : List (Step H)) → IsSetUp l → AllKeep answer_of after steps l
      → (k : ℕ) (first : Station H) → site_at k l.stations ≡ Some first → has_restarted false (steps_from answer_of after k first steps l) ≡ false
      → let line = after_calls answer_of after steps l in
      (call : bus.Call) (places : List ℕ) → Keeps answer_of after (record { call = OfPanel call; places = places }) line
      → All (λ (said : ℕ × Report). said.0 ≡ k → IsNoRefusal said.1) (told_in call line.bus)
