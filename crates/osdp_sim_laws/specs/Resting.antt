-- Between the clearing of a line and the rounds after it, and between these rounds.
use Rattle.std.specs.Prelude.{◌≡◌, ◌≤◌, ℕ, suc, ◌+◌, min, false, All, List, [], ◌++◌, length}
use Rattle.osdp_msg.specs.declared.command.Command.{Command}
use Rattle.osdp_controller.specs.declared.state.State.TheVariants.{Idle}
use Rattle.osdp_controller_laws.specs.Calls.{longest_wait}
use Rattle.osdp_reader.specs.declared.handler.Answer.{Answer}
use Rattle.osdp_sim.specs.Account.{Account}
use Rattle.osdp_sim.specs.Rounds.{rounds}
use Rattle.osdp_sim.specs.Runs.{run}
use Rattle.osdp_sim.specs.State.{SimState, set_up}
use Rattle.osdp_sim.specs.declared.config.SimConfig.{SimConfig}
use Rattle.osdp_sim.specs.declared.step.SimStep.{SimStep}
use Rattle.osdp_sim_laws.specs.Accounts.{IsInSession}
use Rattle.osdp_sim_laws.specs.Progress.{IsClear, IsRun, clear, done}

-- one more is settled or reported, or all are
abbrev pub BringsOneMore : Account → Account → Type 0
BringsOneMore before a = min (done before + 1) (length a.issued + length a.queued) ≤ done a

module _ {H : Type 0} where
  -- no burst is on the line, and the reader isn't busy
  pub record IsCleared (s : SimState H) : Type 0 where
    pub to_reader : s.to_reader ≡ []
    pub to_controller : s.to_controller ≡ []
    pub ready : s.reader.busy ≡ false

  -- no burst is on the line, and the controller waits for no answer
  pub record IsAtRest (s : SimState H) : Type 0 where
    pub to_reader : s.to_reader ≡ []
    pub to_controller : s.to_controller ≡ []
    pub idle : (due : ℕ) × (s.controller.session.state ≡ Idle due)

  module _ (answer_of : H → Command → Answer) (after : H → Command → H) where
    -- whatever the steps were, nothing is left of them on the line once it is cleared
    abbrev pub ClearsTheLine : Type 0
    ClearsTheLine = (config : SimConfig) (handler : H) (steps : List SimStep) → IsRun answer_of after config handler (steps ++ clear steps)
        → IsCleared (run answer_of after (steps ++ clear steps) (set_up config handler))

    -- each round that loses nothing ends at rest, where those before it and the steps before these left the link clear, and the session lasts
    abbrev pub EachRoundRests : Type 0
    EachRoundRests = (config : SimConfig) (handler : H) (steps : List SimStep) (m wait : ℕ)
        → IsRun answer_of after config handler (steps ++ rounds (suc m) wait) → All IsInSession steps → longest_wait config.controller ≤ wait
        → IsClear (run answer_of after steps (set_up config handler))
        → let last = run answer_of after (steps ++ rounds (suc m) wait) (set_up config handler) in
        last.account.ends ≡ [] → IsAtRest last

    -- .. and each but the first brings one more than those before it had brought, where orders go out one after the other
    abbrev pub EachRoundBringsOneMore : Type 0
    EachRoundBringsOneMore = (config : SimConfig) (handler : H) (steps : List SimStep) (m wait : ℕ)
        → IsRun answer_of after config handler (steps ++ rounds (suc (suc m)) wait) → All IsInSession steps → longest_wait config.controller ≤ wait
        → config.controller.poll_between_orders ≡ false
        → IsClear (run answer_of after steps (set_up config handler))
        → let before = run answer_of after (steps ++ rounds (suc m) wait) (set_up config handler) in
        let last = run answer_of after (steps ++ rounds (suc (suc m)) wait) (set_up config handler) in
        last.account.ends ≡ [] → BringsOneMore before.account last.account
