-- Something comes through: after m rounds that lose nothing m - 1 more commands and events, or all of them, are settled and reported.
use Rattle.std.specs.Prelude.{◌≡◌, ◌≤◌, ◌<◌, ℕ, ◌+◌, ◌-◌, min, true, false, All, List, [], ◌∷◌, ◌++◌, length, Ok}
use Rattle.osdp_msg.specs.declared.command.Command.{Command}
use Rattle.osdp_controller_laws.specs.Calls.{longest_wait}
use Rattle.osdp_reader.specs.declared.config.ReaderConfig.{ReaderConfig}
use Rattle.osdp_reader.specs.declared.handler.Answer.{Answer}
use Rattle.osdp_link_laws.specs.OneHandler.{with_answers}
use Rattle.osdp_link_laws.specs.Progress.{AreClear, SetsNoAddress}
use Rattle.osdp_sim.specs.Account.{Account, lists_of}
use Rattle.osdp_sim.specs.Rounds.{rounds}
use Rattle.osdp_sim.specs.Runs.{AreSettings, FitAlong, is_well, run}
use Rattle.osdp_sim.specs.State.{SimState, set_up}
use Rattle.osdp_sim.specs.declared.account.Account as declared
use Rattle.osdp_sim.specs.declared.config.SimConfig.{SimConfig}
use Rattle.osdp_sim.specs.declared.step.Move.TheVariants.{Drop}
use Rattle.osdp_sim.specs.declared.step.SimStep.{SimStep}
use Rattle.osdp_sim.specs.declared.step.SimStep.TheVariants.{Busy, ToController, ToReader}
use Rattle.osdp_sim_laws.specs.Accounts.{IsAnswer, IsInSession}

-- what is on the line is lost: no more than a burst in each direction for each of these steps
abbrev pub losses : List SimStep → List SimStep
losses [] = []
losses (step ∷ steps) = ToReader Drop ∷ ToController Drop ∷ losses steps

-- the steps that clear the line after these: the reader is not busy any more, and what is on the line is lost
abbrev pub clear : List SimStep → List SimStep
clear steps = Busy 1 false ∷ losses steps

-- how many commands are settled and events are reported
abbrev pub done : Account → ℕ
done a = length a.settled + length a.reported

-- after so many rounds as many more commands and events but one are settled and reported, or all are
abbrev pub ComesOn : ℕ → Account → Account → Type 0
ComesOn m before a = min (done before + (m - 1)) (length a.issued + length a.queued) ≤ done a

module _ {H : Type 0} (answer_of : H → Command → Answer) (after : H → Command → H) where
  -- each command issued is settled, with the reader's answer to it after those before it, and each event queued is reported
  pub record IsDone (config : ReaderConfig) (handler : H) (a : Account) : Type 0 where
    pub settled : a.settled ≡ with_answers answer_of after config handler a.issued
    pub reported : a.reported ≡ a.queued

  -- after so many rounds as many commands and events but one are settled and reported, or all are; so all are done where the rounds are
  -- more than the commands and events
  pub record HasComeThrough (count : ℕ) (config : ReaderConfig) (handler : H) (a : Account) : Type 0 where
    pub some : min (count - 1) (length a.issued + length a.queued) ≤ done a
    pub all : length a.issued + length a.queued < count → IsDone config handler a

module _ {H : Type 0} where
  -- the line and both ends are clear, as those of a link are
  abbrev pub IsClear : SimState H → Type 0
  IsClear s = AreClear s.to_reader s.to_controller s.reader s.controller s.account.issued

  module _ (answer_of : H → Command → Answer) (after : H → Command → H) where
    -- a schedule whose settings are in their ranges, of which no step is refused, and what goes over the line in it fits
    pub record IsRun (config : SimConfig) (handler : H) (steps : List SimStep) : Type 0 where
      pub settings : AreSettings config
      pub well : is_well answer_of after steps (set_up config handler) ≡ true
      pub fits : FitAlong answer_of after steps (set_up config handler)

    -- rounds as long as the longest of the controller's waits, after steps of one session that leave the link clear: something comes
    -- through, where orders go out one after the other and the session hasn't ended
    abbrev pub ComesThrough : Type 0
    ComesThrough = (config : SimConfig) (handler : H) (steps : List SimStep) (m wait : ℕ) → IsRun config handler (steps ++ rounds m wait)
        → All IsInSession steps → longest_wait config.controller ≤ wait → config.controller.poll_between_orders ≡ false
        → let before = run answer_of after steps (set_up config handler) in
        IsClear before
        → let last = run answer_of after (steps ++ rounds m wait) (set_up config handler) in
        last.account.ends ≡ [] → ComesOn m before.account last.account

    -- whatever the steps were: after them the line is cleared, and over m rounds something comes through, where both ends are at one
    -- address, orders go out one after the other, no COMSET to a device's address was issued and the session hasn't ended
    abbrev pub Recovers : Type 0
    Recovers = (config : SimConfig) (handler : H) (steps : List SimStep) (m wait : ℕ)
        → IsRun config handler ((steps ++ clear steps) ++ rounds m wait)
        → All IsInSession steps → config.reader.address ≡ config.controller.address → longest_wait config.controller ≤ wait
        → config.controller.poll_between_orders ≡ false
        → let last = run answer_of after ((steps ++ clear steps) ++ rounds m wait) (set_up config handler) in
        All SetsNoAddress last.account.issued → last.account.ends ≡ []
        → min (m - 1) (length last.account.issued + length last.account.queued) ≤ done last.account

    -- so it is of what `run_session` answers
    abbrev pub AnswerRecovers : Type 0
    AnswerRecovers = (config : SimConfig) (handler : H) (steps : List SimStep) (m wait : ℕ) (account : declared.Account)
        → IsAnswer answer_of after config handler ((steps ++ clear steps) ++ rounds m wait) (Ok account)
        → All IsInSession steps → config.reader.address ≡ config.controller.address → longest_wait config.controller ≤ wait
        → config.controller.poll_between_orders ≡ false
        → let a = lists_of account in
        All SetsNoAddress a.issued → a.ends ≡ [] → HasComeThrough answer_of after m config.reader handler a
