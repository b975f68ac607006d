-- Between the clearing of a line with several readers and the rounds after it, and between these rounds.
use Rattle.std.specs.Prelude.{◌≡◌, ◌≤◌, ◌<◌, ◌+◌, ℕ, suc, false, All, List, [], ◌++◌, length, None, Some, slice_get}
use Rattle.osdp_msg.specs.declared.command.Command.{Command}
use Rattle.osdp_controller.specs.declared.state.State.TheVariants.{Idle}
use Rattle.osdp_controller_laws.specs.Calls.{longest_wait}
use Rattle.osdp_reader.specs.declared.handler.Answer.{Answer}
use Rattle.osdp_bus.specs.Buses.{holder}
use Rattle.osdp_bus.specs.Settings.{controller_config}
use Rattle.osdp_bus.specs.declared.config.BusConfig.{BusConfig}
use Rattle.osdp_bus.specs.declared.entry.Entry.{Entry}
use Rattle.osdp_bus_links.specs.Links.{who_ticks}
use Rattle.osdp_sim.specs.Account.{Account}
use Rattle.osdp_sim.specs.Rounds.{rounds}
use Rattle.osdp_sim.specs.Steps.{moment_after}
use Rattle.osdp_sim.specs.declared.step.SimStep.{SimStep}
use Rattle.osdp_sim_bus.specs.Runs.{run}
use Rattle.osdp_sim_bus.specs.State.{Given, LineState, accounts, set_up}
use Rattle.osdp_sim_laws.specs.Accounts.{IsInSession}
use Rattle.osdp_sim_laws.specs.Resting.{BringsOneMore}
use Rattle.osdp_bus_progress.specs.Progress.{IsClear, NoneMoves, clear}
use Rattle.osdp_sim_bus_laws.specs.Accounts.{IsRun}

module _ {H : Type 0} where
  -- no burst is on the line, and no exchange is outstanding
  pub record IsAtRest (s : LineState H) : Type 0 where
    pub to_readers : s.to_readers ≡ []
    pub to_bus : s.to_bus ≡ []
    pub free : holder s.bus ≡ None

  -- a round is of the reader whose controller ticks in it, so of one at most: the next round is this reader's
  abbrev pub IsItsRound : ℕ → ℕ → LineState H → Type 0
  IsItsRound k wait s = who_ticks (moment_after wait s.clock) s.bus ≡ Some k

  -- its controller waits for no answer
  abbrev pub IsIdle : ℕ → LineState H → Type 0
  IsIdle k s = (d : Entry) → slice_get s.bus.devices.entries k ≡ Some d → (due : ℕ) × (d.controller.session.state ≡ Idle due)

  -- the account of this reader is there, and its session has not ended
  pub record HasNotEnded (k : ℕ) (a : Account) (s : LineState H) : Type 0 where
    pub there : slice_get (accounts s) k ≡ Some a
    pub lasts : a.ends ≡ []

  module _ (answer_of : H → Command → Answer) (after : H → Command → H) where
    -- whatever the steps were, the line is clear once it is cleared, and no account has changed
    abbrev pub ClearsTheLine : Type 0
    ClearsTheLine = (config : BusConfig) (readers : List (Given H)) (steps : List SimStep)
        → IsRun answer_of after config readers (steps ++ clear (length readers) steps)
        → let before = run answer_of after steps (set_up config readers) in
        NoneMoves (accounts before)
        → let s = run answer_of after (steps ++ clear (length readers) steps) (set_up config readers) in IsClear s × (accounts s ≡ accounts before)

    -- each round that loses nothing ends at rest, where some reader's session has not ended
    abbrev pub EachRoundRests : Type 0
    EachRoundRests = (config : BusConfig) (readers : List (Given H)) (steps : List SimStep) (m wait : ℕ)
        → IsRun answer_of after config readers (steps ++ rounds (suc m) wait) → All IsInSession steps
        → longest_wait (controller_config 0 config) ≤ wait → IsClear (run answer_of after steps (set_up config readers))
        → let last = run answer_of after (steps ++ rounds (suc m) wait) (set_up config readers) in
        (k : ℕ) (a : Account) → slice_get (accounts last) k ≡ Some a → a.ends ≡ [] → IsAtRest last

    -- rounds as long as the longest of the four waits, after steps in which no session begins again and that leave the line clear
    pub record AreRounds (config : BusConfig) (readers : List (Given H)) (steps : List SimStep) (m wait : ℕ) : Type 0 where
      pub run_is : IsRun answer_of after config readers (steps ++ rounds m wait)
      pub within : All IsInSession steps
      pub long : longest_wait (controller_config 0 config) ≤ wait
      pub clear : IsClear (run answer_of after steps (set_up config readers))

    -- the line after so many of them
    abbrev pub after_rounds : BusConfig → List (Given H) → List SimStep → ℕ → ℕ → LineState H
    after_rounds config readers steps m wait = run answer_of after (steps ++ rounds m wait) (set_up config readers)

    -- among as many rounds as there are readers, wherever these begin, each reader has one, where its session has not ended
    abbrev pub EachHasItsRound : Type 0
    EachHasItsRound = (config : BusConfig) (readers : List (Given H)) (steps : List SimStep) (m wait k : ℕ) (a : Account)
        → AreRounds config readers steps (m + length readers) wait
        → HasNotEnded k a (after_rounds config readers steps (m + length readers) wait)
        → (r : ℕ) × (m ≤ r) × (r < m + length readers) × IsItsRound k wait (after_rounds config readers steps r wait)

    -- once it has had a round its controller is idle after each round
    abbrev pub EachIsIdle : Type 0
    EachIsIdle = (config : BusConfig) (readers : List (Given H)) (steps : List SimStep) (r m wait k : ℕ) (a : Account)
        → AreRounds config readers steps m wait → r < m → IsItsRound k wait (after_rounds config readers steps r wait)
        → HasNotEnded k a (after_rounds config readers steps m wait) → IsIdle k (after_rounds config readers steps m wait)

    -- each round of a reader but its first brings one more than the rounds before had brought, where orders go out one after the other
    abbrev pub EachRoundBringsOneMore : Type 0
    EachRoundBringsOneMore = (config : BusConfig) (readers : List (Given H)) (steps : List SimStep) (r m wait k : ℕ) (old new : Account)
        → AreRounds config readers steps (suc m) wait → config.poll_between_orders ≡ false → r < m → IsItsRound k wait (after_rounds config readers steps r wait)
        → IsItsRound k wait (after_rounds config readers steps m wait)
        → slice_get (accounts (after_rounds config readers steps m wait)) k ≡ Some old
        → HasNotEnded k new (after_rounds config readers steps (suc m) wait) → BringsOneMore old new
