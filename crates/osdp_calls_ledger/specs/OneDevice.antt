-- Where the device of an entry never changes.
use Rattle.std.specs.Prelude.{◌≡◌, ◌≢◌, ℕ, All, List, Some}
use Rattle.osdp_msg.specs.declared.command.Command.{Command}
use Rattle.osdp_reader.specs.declared.handler.Answer.{Answer}
use Rattle.osdp_ledger.specs.History.{Left, ThrownAway, new_history, runs}
use Rattle.osdp_link_ledger.specs.Answers.{HasAnswersOf}
use Rattle.osdp_shared_line.specs.Line.{site_at}
use Rattle.osdp_calls.specs.Calls.{Step}
use Rattle.osdp_calls.specs.Lines.{InUse, Station}
use Rattle.osdp_calls.specs.OneDevice.{KeepsHandler}
use Rattle.osdp_calls.specs.Premises.{AllKeep, IsSetUp}
use Rattle.osdp_calls_ledger.specs.Steps.{steps_from}

module _ {H : Type 0} (answer_of : H → Command → Answer) (after : H → Command → H) where
  -- what it acted on has the answers of its settings and of its one handler, and none of its events is thrown away
  abbrev pub OneDeviceHoldsOnce : Type 0
  OneDeviceHoldsOnce = (l : InUse H) (steps : List (Step H)) → IsSetUp l → AllKeep answer_of after steps l
      → (k : ℕ) (first : Station H) → site_at k l.stations ≡ Some first → All (λ (step : Step H). KeepsHandler k step.call) steps
      → let h = runs (steps_from answer_of after k first steps l) new_history in
      HasAnswersOf answer_of after first.reader.config first.reader.handler h × All (λ (w : Left). w.why ≢ ThrownAway) h.left
