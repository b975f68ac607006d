-- The run over a bus, for each of its readers.
use Rattle.osdp_sim_ledger.proofs.Common.{◌≡◌, ℕ, List, Some, subst, slice_get, Command, Answer, TellsInTurn, OrdinaryMovesEndTold, Account, SimStep, SchedulesAreMoves, KeepsLedger, TellsByLedger}
use Rattle.osdp_bus.specs.declared.config.BusConfig.{BusConfig}
use Rattle.osdp_shared_line.specs.Runs.{EachIsALink}
use Rattle.osdp_sim_bus.specs.Runs as simulation
use Rattle.osdp_sim_bus.specs.Runs.{steps_done}
use Rattle.osdp_sim_bus.specs.State.{Given, set_up}
use Rattle.osdp_sim_bus_laws.proofs.Rows.{account_at, answers, its_first, its_link, own_moves, run_first, told_by}
use Rattle.osdp_sim_bus_laws.specs.Accounts.{IsRun}
use Rattle.osdp_sim_ledger.specs.SeveralReaders.{BusRunKeepsLedgers, steps_of_reader}
use Rattle.osdp_sim_ledger.proofs.Telling.{tells_by_ledger}

module _ {H : Type 0} (answer_of : H → Command → Answer) (after : H → Command → H) (schedules : SchedulesAreMoves answer_of after) (links : EachIsALink answer_of after)
    (ledger : KeepsLedger answer_of after) (told : OrdinaryMovesEndTold answer_of after) (in_turn : TellsInTurn) where
  abbrev HasKept : ℕ → Given H → BusConfig → List (Given H) → List SimStep → List Account → Type 0
  HasKept k given config readers steps told =
      (a : Account) × (slice_get told k ≡ Some a) × TellsByLedger answer_of after given.0 given.2 a (steps_of_reader answer_of after k given config readers steps)

  one_reader : (config : BusConfig) (readers : List (Given H)) (steps : List SimStep) (k : ℕ) (given : Given H) → slice_get readers k ≡ Some given
      → IsRun answer_of after config readers steps → HasKept k given config readers steps (told_by answer_of after config readers steps)
  one_reader config readers steps k given at is =
      let own = its_link answer_of after schedules links config readers steps is k given at in (
        own.site.account,
        account_at k own.site (simulation.run answer_of after steps (set_up config readers)).sites own.there,
        tells_by_ledger answer_of after ledger told in_turn (own_moves answer_of after config readers steps k) (its_first config readers k given)
            own.site.account own.run_of own.tells,
      )

  pub bus_run_keeps_ledgers : BusRunKeepsLedgers answer_of after
  bus_run_keeps_ledgers config readers steps answer is was = record {
    whole = λ k given at.
        answers answer_of after (HasKept k given config readers (steps_done steps answer)) config readers steps answer is was
        (one_reader config readers (steps_done steps answer) k given at);
    until = λ before later same k given at.
        answers answer_of after (λ told. HasKept k given config readers before (told_by answer_of after config readers before)) config readers steps answer is was
        (λ done. one_reader config readers before k given at (run_first answer_of after config readers before later (subst (IsRun answer_of after config readers) same done)));
  }
