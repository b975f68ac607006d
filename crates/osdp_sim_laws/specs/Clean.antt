-- Schedules without losses: what their accounts are, exactly.
use Rattle.std.specs.Prelude.{◌≡◌, ◌≤◌, ℕ, ◌-◌, false, All, List, [], ◌++◌, length, take, Result, Ok, Err}
use Rattle.osdp_msg.specs.declared.command.Command.{Command}
use Rattle.osdp_reader.specs.declared.handler.Answer.{Answer}
use Rattle.osdp_link_laws.specs.OneHandler.{with_answers}
use Rattle.osdp_link_laws.specs.Progress.{SetsNoAddress}
use Rattle.osdp_sim.specs.Account.{Account, lists_of}
use Rattle.osdp_sim.specs.Rounds.{clean}
use Rattle.osdp_sim.specs.Runs.{AreSettings}
use Rattle.osdp_sim.specs.declared.account.Account as declared
use Rattle.osdp_sim.specs.declared.config.SimConfig.{SimConfig}
use Rattle.osdp_sim.specs.declared.fault.Cause.TheVariants.{NoMemory}
use Rattle.osdp_sim.specs.declared.fault.Fault.{Fault}
use Rattle.osdp_sim.specs.declared.step.SimStep.{SimStep}
use Rattle.osdp_sim.specs.declared.step.SimStep.TheVariants.{Busy, Issue, Queue, Reopen, ToController, ToReader, Wait}
use Rattle.osdp_sim_laws.specs.Accepted.{commands_of, events_of}
use Rattle.osdp_sim_laws.specs.Accounts.{IsAnswer, account_in}

-- a command that is issued, or an event that is queued
abbrev pub IsOrder : SimStep → Type 0
IsOrder (Issue number command) = Unit {0}
IsOrder (Queue number event) = Unit {0}
IsOrder (Busy number busy) = ⊥
IsOrder (Wait wait) = ⊥
IsOrder (ToReader move) = ⊥
IsOrder (ToController move) = ⊥
IsOrder (Reopen number) = ⊥

module _ {H : Type 0} (answer_of : H → Command → Answer) (after : H → Command → H) where
  -- after these orders and n rounds: as many commands and events were accepted as there is room for. Each round took and settled a
  -- command, the oldest first, with the reader's answer to it after those before it; once all were settled, each reported an event,
  -- the oldest first. No command is unsettled, and the session lasts.
  pub record IsInTurn (config : SimConfig) (handler : H) (orders : List SimStep) (n : ℕ) (a : Account) : Type 0 where
    pub issued : a.issued ≡ take config.commands (commands_of orders)
    pub queued : a.queued ≡ take config.events (events_of orders)
    pub taken : a.taken ≡ take n a.issued
    pub settled : a.settled ≡ with_answers answer_of after config.reader handler (take n a.issued)
    pub reported : a.reported ≡ take (n - length a.settled) a.queued
    pub unsettled : a.unsettled ≡ []
    pub ends : a.ends ≡ []

  -- such an account, or no memory; no step is refused
  abbrev pub IsInTurnOrNoMemory : SimConfig → H → List SimStep → ℕ → Result declared.Account (Fault declared.Account) → Type 0
  IsInTurnOrNoMemory config handler orders n (Ok account) = IsInTurn config handler orders n (lists_of account)
  IsInTurnOrNoMemory config handler orders n (Err fault) = fault.cause ≡ NoMemory

  -- any orders, and then n rounds without losses, where the settings are in their ranges, both ends are at one address, the rounds are as
  -- long as the controller's waits, orders go out one after the other, and no COMSET to a device's address was issued
  abbrev pub GoesInTurn : Type 0
  GoesInTurn = (config : SimConfig) (handler : H) (orders : List SimStep) (n : ℕ) (answer : Result declared.Account (Fault declared.Account))
      → IsAnswer answer_of after config handler (orders ++ clean n) answer → All IsOrder orders
      → AreSettings config → config.reader.address ≡ config.controller.address
      → config.controller.quiet_wait ≤ 400 → config.controller.poll_interval ≤ 50 → config.controller.poll_between_orders ≡ false
      → All SetsNoAddress (account_in answer).issued
      → IsInTurnOrNoMemory config handler orders n answer
