-- Three rounds without losses, over the link of a script with one reader.
use Rattle.std.specs.Prelude.{◌≡◌, List, [], ◌∷◌, ◌++◌, Ok}
use Rattle.osdp_controller.specs.Settings.{default_config}
use Rattle.osdp_frame.specs.declared.check_kind.CheckKind.TheVariants.{Crc}
use Rattle.osdp_msg.specs.declared.command.Command.{Command}
use Rattle.osdp_msg.specs.declared.command.Command.TheVariants.{Buzzer, Output}
use Rattle.osdp_msg.specs.declared.event.Event.{Event}
use Rattle.osdp_msg.specs.declared.event.Event.TheVariants.{Keypad}
use Rattle.osdp_msg.specs.declared.reply.Reply.TheVariants.{Ack}
use Rattle.osdp_script.specs.Handler.{handler_after, handler_answer, new_handler}
use Rattle.osdp_script.specs.Identity.{script_config}
use Rattle.osdp_sim.specs.Account.{lists_of}
use Rattle.osdp_sim.specs.Rounds.{clean}
use Rattle.osdp_sim.specs.declared.account.Account as declared
use Rattle.osdp_sim.specs.declared.config.SimConfig.{SimConfig}
use Rattle.osdp_sim.specs.declared.step.SimStep.{SimStep}
use Rattle.osdp_sim.specs.declared.step.SimStep.TheVariants.{Issue, Queue}
use Rattle.osdp_sim_laws.specs.Accounts.{IsAnswer}

-- `check crc`, `reader 5 4`: the settings by default, and room for 64 commands
abbrev pub config : SimConfig
config = record { reader = script_config 1 5; events = 4; controller = default_config 5 Crc; commands = 64 }

-- OUT 0:2:0
abbrev pub out : Command
out = Output (record { output = 0; control = 2; timer = 0 } ∷ [])

-- BUZ 0 2 5 5 1
abbrev pub buz : Command
buz = Buzzer (record { reader = 0; tone = 2; on_time = 5; off_time = 5; count = 1 })

-- KEYPAD 0 31
abbrev pub first_key : Event
first_key = Keypad (record { reader = 0; digits = record { items = 0x31 ∷ [] } })

-- KEYPAD 0 32
abbrev pub second_key : Event
second_key = Keypad (record { reader = 0; digits = record { items = 0x32 ∷ [] } })

-- two commands and two events, in this order
abbrev pub orders : List SimStep
orders = Issue 1 out ∷ Issue 1 buz ∷ Queue 1 first_key ∷ Queue 1 second_key ∷ []

-- what the row prints
pub record IsTheRow (account : declared.Account) : Type 0 where
  pub issued : (lists_of account).issued ≡ out ∷ buz ∷ []
  pub taken : (lists_of account).taken ≡ out ∷ buz ∷ []
  pub settled : (lists_of account).settled ≡ (out, Ack) ∷ (buz, Ack) ∷ []
  pub unsettled : (lists_of account).unsettled ≡ []
  pub queued : (lists_of account).queued ≡ first_key ∷ second_key ∷ []
  pub reported : (lists_of account).reported ≡ first_key ∷ []
  pub ends : (lists_of account).ends ≡ []

-- three rounds without losses after these orders: the account is the row
abbrev pub ThreeRoundsSettleTwoAndReportOne : Type 0
ThreeRoundsSettleTwoAndReportOne = (account : declared.Account)
    → IsAnswer handler_answer handler_after config new_handler (orders ++ clean 3) (Ok account) → IsTheRow account
