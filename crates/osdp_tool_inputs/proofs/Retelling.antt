-- A text that is retold.
use Rattle.osdp_tool_inputs.proofs.Common.{◌≡◌, ℕ, Bool, List, Result, Ok, Err, refl, Wrote, Stream, ToolFault, NoMemory, WriteFailed, Ending, InMemory, Retells}

module _ (ends : Ending) (retold : List ℕ → List ℕ) (text : List ℕ) (output : Stream) (shown : List ℕ) where
  -- all of it was written
  pub retells_all : (answer : Result Bool ToolFault) → InMemory ends text shown answer → Wrote (retold shown) output.before output.after output.failed (Ok tt)
      → (answer ≡ Err WriteFailed → ⊥) → (answer ≡ Err NoMemory → ⊥) → Retells ends retold text output answer
  retells_all (Ok wrong) heard wrote no_write no_memory = record { shown = shown; heard = heard; written = wrote.0; output_well = wrote.1 }
  retells_all (Err NoMemory) heard wrote no_write no_memory = absurd (no_memory refl)
  retells_all (Err WriteFailed) heard wrote no_write no_memory = absurd (no_write refl)
  retells_all (Err fault) heard wrote no_write no_memory = record { shown = shown; heard = heard; written = wrote.0; output_well = wrote.1 }

  -- or a beginning of it
  pub retells_part : (answer : Result Bool ToolFault) (fault : ToolFault) → InMemory ends text shown answer
      → Wrote (retold shown) output.before output.after output.failed (Err fault) → Retells ends retold text output (Err fault)
  retells_part answer WriteFailed heard wrote =
      record { answer = answer; shown = shown; heard = heard; count = wrote.0; written = wrote.1; output_failed = wrote.2 }
  retells_part answer fault heard wrote = absurd wrote
