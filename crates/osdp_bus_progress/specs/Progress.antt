-- Something comes through for each of several readers. After m rounds that lose nothing, m / n - 1 more commands and events of each of n readers
-- are settled and reported, or all of them.
use Rattle.std.specs.Prelude.{◌≡◌, ◌≤◌, ℕ, zero, suc, ◌+◌, ◌-◌, ◌/◌, min, false, All, List, [], ◌∷◌, ◌++◌, length, Some, slice_get, Ok}
use Rattle.std.specs.Global.{Vec}
use Rattle.osdp_msg.specs.declared.command.Command.{Command}
use Rattle.osdp_controller_laws.specs.Calls.{longest_wait}
use Rattle.osdp_reader.specs.declared.handler.Answer.{Answer}
use Rattle.osdp_bus.specs.Settings.{controller_config}
use Rattle.osdp_bus.specs.declared.config.BusConfig.{BusConfig}
use Rattle.osdp_link_laws.specs.Progress.{SetsNoAddress}
use Rattle.osdp_sim.specs.Account.{Account}
use Rattle.osdp_sim.specs.Rounds.{rounds}
use Rattle.osdp_sim.specs.declared.account.Account as declared
use Rattle.osdp_sim.specs.declared.step.SimStep.{SimStep}
use Rattle.osdp_sim.specs.declared.step.SimStep.TheVariants.{Busy}
use Rattle.osdp_sim_bus.specs.Runs.{lists_of_all, run}
use Rattle.osdp_sim_bus.specs.State.{Given, LineState, ReaderSite, accounts, set_up}
use Rattle.osdp_sim_laws.specs.Accounts.{IsInSession}
use Rattle.osdp_sim_bus_laws.specs.Accounts.{IsAnswer, IsRun, OfEach}
use Rattle.osdp_sim_laws.specs.Progress.{HasComeThrough, done, losses}

-- m rounds are m / readers for each reader, rounded down. After them as many more of its commands and events but one are settled and
-- reported, or all are.
abbrev pub ComesOn : ℕ → ℕ → Account → Account → Type 0
ComesOn m readers before a = min (done before + (m / readers - 1)) (length a.issued + length a.queued) ≤ done a

-- so it is of each whose session has not ended
abbrev pub EachComesOn : ℕ → ℕ → List Account → List Account → Type 0
EachComesOn m readers before last = (k : ℕ) (old new : Account) → slice_get before k ≡ Some old → slice_get last k ≡ Some new
    → new.ends ≡ [] → ComesOn m readers old new

-- none of so many readers is busy any more ..
abbrev pub all_ready : ℕ → List SimStep
all_ready zero = []
all_ready (suc n) = all_ready n ++ Busy (suc n) false ∷ []

-- .. and what is on the line is lost: no more than a burst in each direction for each of these steps
abbrev pub clear : ℕ → List SimStep → List SimStep
clear readers steps = all_ready readers ++ losses steps

-- no COMSET to a device's address was issued
abbrev pub NoneMoves : List Account → Type 0
NoneMoves told = All (λ (a : Account). All SetsNoAddress a.issued) told

module _ {H : Type 0} where
  -- the reader isn't busy, and no COMSET to a device's address was issued to it
  pub record IsReady (site : ReaderSite H) : Type 0 where
    pub ready : site.reader.busy ≡ false
    pub issued : All SetsNoAddress site.account.issued

  -- nothing is on the line, and every reader is ready
  pub record IsClear (s : LineState H) : Type 0 where
    pub to_readers : s.to_readers ≡ []
    pub to_bus : s.to_bus ≡ []
    pub readers : All IsReady s.sites

  module _ (answer_of : H → Command → Answer) (after : H → Command → H) where
    -- rounds as long as the longest of the four waits, after steps in which no session begins again and that leave the line clear:
    -- something comes through for each reader whose session has not ended, where orders go out one after the other
    abbrev pub EachComesThrough : Type 0
    EachComesThrough = (config : BusConfig) (readers : List (Given H)) (steps : List SimStep) (m wait : ℕ)
        → IsRun answer_of after config readers (steps ++ rounds m wait) → All IsInSession steps → longest_wait (controller_config 0 config) ≤ wait
        → config.poll_between_orders ≡ false
        → let before = run answer_of after steps (set_up config readers) in
        IsClear before
        → let last = run answer_of after (steps ++ rounds m wait) (set_up config readers) in
        EachComesOn m (length readers) (accounts before) (accounts last)

    -- whatever the steps were in which no session begins again: after them the line is cleared, and over m rounds something comes through
    -- for each reader whose session has not ended, where orders go out one after the other and no COMSET to a device's address was issued
    abbrev pub EachRecovers : Type 0
    EachRecovers = (config : BusConfig) (readers : List (Given H)) (steps : List SimStep) (m wait : ℕ)
        → IsRun answer_of after config readers ((steps ++ clear (length readers) steps) ++ rounds m wait) → All IsInSession steps
        → longest_wait (controller_config 0 config) ≤ wait → config.poll_between_orders ≡ false
        → let before = run answer_of after steps (set_up config readers) in
        NoneMoves (accounts before)
        → let last = run answer_of after ((steps ++ clear (length readers) steps) ++ rounds m wait) (set_up config readers) in
        EachComesOn m (length readers) (accounts before) (accounts last)

    -- a reader whose session has not ended has its share of the rounds
    abbrev pub HasItsShare : ℕ → ℕ → Given H → Account → Type 0
    HasItsShare count k given a = a.ends ≡ [] → HasComeThrough answer_of after count given.0 given.2 a

    -- so it is of what `run_bus` answers, where no COMSET to a device's address was issued
    abbrev pub EachAnswerRecovers : Type 0
    EachAnswerRecovers = (config : BusConfig) (readers : List (Given H)) (steps : List SimStep) (m wait : ℕ) (told : Vec declared.Account)
        → IsAnswer answer_of after config readers ((steps ++ clear (length readers) steps) ++ rounds m wait) (Ok told)
        → All IsInSession steps → longest_wait (controller_config 0 config) ≤ wait → config.poll_between_orders ≡ false → NoneMoves (lists_of_all told.items)
        → OfEach (HasItsShare (m / length readers)) readers (lists_of_all told.items)
