-- Where nobody restarts, nothing of an entry is taken back and no event of it lapses, all that ends is told.
use Rattle.std.specs.Prelude.{ℕ, All, List}
use Rattle.osdp_msg.specs.declared.command.Command.{Command}
use Rattle.osdp_reader.specs.declared.handler.Answer.{Answer}
use Rattle.osdp_ledger.specs.History.{new_history, runs}
use Rattle.osdp_ledger.specs.Plain.{AllTold}
use Rattle.osdp_calls.specs.Calls.{Step}
use Rattle.osdp_calls.specs.Lines.{InUse, Station}
use Rattle.osdp_calls.specs.Undisturbed.{IsOrdinaryOf}
use Rattle.osdp_calls_ledger.specs.Steps.{steps_from}

-- where each call is ordinary for an entry, each end in its ledger was told to a program
abbrev pub OrdinaryCallsEndTold : {H : Type 0} → (H → Command → Answer) → (H → Command → H) → Type 0
OrdinaryCallsEndTold {H} answer_of after = (l : InUse H) (steps : List (Step H)) (k : ℕ) (first : Station H) → All (λ (step : Step H). IsOrdinaryOf k step.call) steps
    → AllTold (runs (steps_from answer_of after k first steps l) new_history)
