-- The run over a line with one reader.
use Rattle.osdp_sim_ledger.proofs.Common.{◌==◌, ℕ, Bool, true, false, if◌then◌else◌, List, [], ◌∷◌, refl, subst, Command, Answer, TellsInTurn, Move, IsSteady, each_append, Each, OrdinaryMovesEndTold, SimStep, Busy, Issue, Queue, Reopen, KeepsLedger, TellsByLedger}
use Rattle.osdp_link_laws.specs.Link as link
use Rattle.osdp_sim.specs.Runs.{run, steps_done}
use Rattle.osdp_sim.specs.State.{set_up}
use Rattle.osdp_sim.specs.declared.config.SimConfig.{SimConfig}
use Rattle.osdp_sim_laws.specs.Moves.{ScheduleIsMoves, first_link, move_of, moves_of, step_clock}
use Rattle.osdp_sim_laws.specs.Progress.{IsRun}
use Rattle.osdp_sim_laws.proofs.Holding.{answers, run_first}
use Rattle.osdp_sim_ledger.specs.OneReader.{RunTellsLedger, RunKeepsLedger, steps_of_run}
use Rattle.osdp_sim_ledger.proofs.Telling.{tells_by_ledger}

module _ {H : Type 0} where
  one_steady : (there : Bool) (m : Move H) → IsSteady m → Each IsSteady (if there then m ∷ [] else [])
  one_steady true m is = (is, tt)
  one_steady false m is = tt

step_steady : (H : Type 0) (x : SimStep) (clock : ℕ) → Each (IsSteady {H = H}) (move_of {H = H} x clock)
step_steady H (Issue number c) clock = one_steady (number == 1) (link.Submit c) tt
step_steady H (Queue number e) clock = one_steady (number == 1) (link.Queue e) tt
step_steady H (Busy number busy) clock = one_steady (number == 1) (link.SetBusy busy) tt
step_steady H (Reopen number) clock = one_steady (number == 1) (link.Reopen clock) tt
step_steady H _ clock = (tt, tt)

steps_steady : (H : Type 0) (xs : List SimStep) (clock : ℕ) → Each (IsSteady {H = H}) (moves_of {H = H} xs clock)
steps_steady H [] clock = tt
steps_steady H (x ∷ xs) clock =
    each_append IsSteady (move_of x clock) (moves_of xs (step_clock x clock)) (step_steady H x clock) (steps_steady H xs (step_clock x clock))

module _ {H : Type 0} (answer_of : H → Command → Answer) (after : H → Command → H) where
  module _ (moves : ScheduleIsMoves answer_of after) (ledger : KeepsLedger answer_of after) (told : OrdinaryMovesEndTold answer_of after) (in_turn : TellsInTurn) where
    one_run : (config : SimConfig) (handler : H) (steps : List SimStep) → IsRun answer_of after config handler steps → RunTellsLedger answer_of after config handler steps
    one_run config handler steps is =
        let m = moves config handler steps is.settings is.well is.fits in
        tells_by_ledger answer_of after ledger told in_turn (moves_of steps 0) (first_link config handler) (run answer_of after steps (set_up config handler)).account
        (record { begins = m.begins; commands = refl; events = refl; fits = m.fit; steady = steps_steady H steps 0 }) m.tells

    pub run_keeps_ledger : RunKeepsLedger answer_of after
    run_keeps_ledger config handler steps answer is was = record {
      whole = answers answer_of after (λ a. TellsByLedger answer_of after config.reader handler a (steps_of_run answer_of after config handler (steps_done steps answer)))
          config handler steps answer is was (one_run config handler (steps_done steps answer));
      until = λ before later same.
          answers answer_of after (λ a. RunTellsLedger answer_of after config handler before) config handler steps answer is was
          (λ done. one_run config handler before (run_first answer_of after config handler before later (subst (IsRun answer_of after config handler) same done)));
    }
