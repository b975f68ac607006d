-- Whose round each is, and what it brings, over the bus of a script with two readers.
use Rattle.std.specs.Prelude.{◌≡◌, ◌≤◌, ◌<◌, ◌+◌, ℕ, suc, List, [], ◌∷◌, length, Some, slice_get}
use Rattle.osdp_bus_progress.specs.Resting.{AreRounds, HasNotEnded, IsIdle, IsItsRound, after_rounds}
use Rattle.osdp_script.specs.Handler.{handler_after, handler_answer}
use Rattle.osdp_script.specs.declared.handler.ScriptReader.{ScriptReader}
use Rattle.osdp_sim.specs.Account.{Account}
use Rattle.osdp_sim.specs.declared.step.SimStep.{SimStep}
use Rattle.osdp_sim.specs.declared.step.SimStep.TheVariants.{Issue}
use Rattle.osdp_sim_bus.specs.State.{LineState, accounts}
use Rattle.osdp_bus_progress.specs.RowsAfterLosses.{bus, readers}
use Rattle.osdp_bus_progress.specs.RowsOfRounds.{buz, out}

-- an OUT for the first reader and a BUZ for the second
abbrev pub both_issued : List SimStep
both_issued = Issue 1 out ∷ Issue 2 buz ∷ []

-- these steps and so many rounds of 400 ms, on a line that is clear after the steps
abbrev pub AreTheRounds : ℕ → Type 0
AreTheRounds m = AreRounds handler_answer handler_after bus readers both_issued m 400

-- the line after both commands and so many rounds of 400 ms
abbrev pub line_after : ℕ → LineState ScriptReader
line_after m = after_rounds handler_answer handler_after bus readers both_issued m 400

-- of the third and the fourth round one is the first reader's, whose session lasts
abbrev pub OneOfTwoIsItsRound : Type 0
OneOfTwoIsItsRound = (a : Account) → AreTheRounds 4 → HasNotEnded 0 a (line_after 4)
    → (r : ℕ) × (2 ≤ r) × (r < 4) × IsItsRound 0 400 (line_after r)

-- its second round leaves its controller idle, and settles its one command
abbrev pub ItsSecondRoundSettles : Type 0
ItsSecondRoundSettles = (r m : ℕ) (old new : Account) → AreTheRounds (suc m) → r < m → IsItsRound 0 400 (line_after r)
    → IsItsRound 0 400 (line_after m) → slice_get (accounts (line_after m)) 0 ≡ Some old → HasNotEnded 0 new (line_after (suc m))
    → new.issued ≡ out ∷ [] → new.queued ≡ [] → (length new.settled + length new.reported ≡ 0 → ⊥) × IsIdle 0 (line_after (suc m))
