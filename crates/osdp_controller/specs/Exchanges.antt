-- Exchanges: the command of each, and the numbers that they go by.
use Rattle.std.specs.Prelude.{ℕ, zero, suc, ◌+◌, ◌%◌, Bool, List, ◌∷◌, Option, Some, None, is_some}
use Rattle.osdp_msg.specs.declared.command.Command.{Command}
use Rattle.osdp_msg.specs.declared.command.Command.TheVariants.{Poll, Id}
use Rattle.osdp_msg.specs.CommandTable.{command_code, command_data}
use Rattle.osdp_controller.specs.declared.exchange.Exchange.{Exchange}
use Rattle.osdp_controller.specs.declared.exchange.Exchange.TheVariants.{Opening, Polling, Asking}

-- what an exchange asks: the opening ID has data byte 0
abbrev pub exchange_command : Exchange → Command
exchange_command Opening = Id 0
exchange_command Polling = Poll
exchange_command (Asking command) = command

-- its command's code and data
abbrev pub exchange_body : Exchange → List ℕ
exchange_body x = command_code (exchange_command x) ∷ command_data (exchange_command x)

-- the command that was submitted for it
abbrev pub submitted_command : Exchange → Option Command
submitted_command Opening = None
submitted_command Polling = None
submitted_command (Asking command) = Some command

-- a submitted command is asked, and no opening ID or POLL
abbrev pub is_order : Exchange → Bool
is_order x = is_some (submitted_command x)

-- the sequence number of the exchanges of a session, counted from 0: the opening has 0, and those after it
-- take 1, 2 and 3 in turn
abbrev pub exchange_number : ℕ → ℕ
exchange_number zero = 0
exchange_number (suc k) = k % 3 + 1
