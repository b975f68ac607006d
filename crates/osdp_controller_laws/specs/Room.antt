-- The bytes of commands stay within the room for them; and with room for each however long, one is refused for its place alone.
use Rattle.std.specs.Option.{option_map_or}
use Rattle.std.specs.Prelude.{◌≡◌, ◌<◌, ◌≤◌, ◌+◌, ◌-◌, ◌*◌, ◌&&◌, ℕ, nat_le, nat_lt, List, [], ◌∷◌, length}
use Rattle.osdp_msg.specs.declared.command.Command.{Command}
use Rattle.osdp_msg.specs.CommandTable.{CommandFits, command_data}
use Rattle.osdp_msg.specs.Limits.{most_data}
use Rattle.osdp_controller.specs.declared.config.ControllerConfig.{ControllerConfig}
use Rattle.osdp_controller.specs.Machine.{Machine, bytes_waiting, command_size, has_room, new_machine}
use Rattle.osdp_controller.specs.declared.state.State.{State}
use Rattle.osdp_controller_laws.specs.Commands.{asked_in}
use Rattle.osdp_controller_laws.specs.Runs.{Call, Submit, after_calls}

-- the bytes of the command that waits for its answer; none where no command does
abbrev pub bytes_asked : State → ℕ
bytes_asked state = option_map_or command_size (asked_in state) 0

-- no more bytes wait than there is room for; and where there is less room than for each command however long, those of the command that waits for its
-- answer have room beside them
pub record HasRoom (m : Machine) : Type 0 where
  pub waiting : bytes_waiting m.waiting ≤ m.room
  pub together : m.room < m.capacity * (1 + most_data) → bytes_asked m.session.state + bytes_waiting m.waiting ≤ m.room

-- that holds of a new controller, and after whatever is called
pub record StaysInRoom : Type 0 where
  pub new : (config : ControllerConfig) (capacity room : ℕ) → HasRoom (new_machine config capacity room)
  pub later : (m : Machine) (calls : List Call) → HasRoom m → HasRoom (after_calls calls m)

-- where there is less room than for each command however long, one has room exactly where fewer wait than may, and its code and its data fit beside the bytes of
-- those that wait and of the one that waits for its answer
pub record RefusesForItsBytes (m : Machine) (command : Command) : Type 0 where
  pub size : command_size command ≡ 1 + length (command_data command)
  pub little : m.room < m.capacity * (1 + most_data) → has_room command m
      ≡ (nat_lt (length m.waiting) m.capacity && nat_le (command_size command) (m.room - (bytes_asked m.session.state + bytes_waiting m.waiting)))

-- each command that calls submit has its fields in their ranges
abbrev pub SubmitsFitting : List Call → Type 0
SubmitsFitting [] = Unit {0}
SubmitsFitting (Submit command ∷ calls) = CommandFits command × SubmitsFitting calls
SubmitsFitting (call ∷ calls) = SubmitsFitting calls

-- then, whatever is called, a command has room exactly where fewer wait than may
abbrev pub RefusesForItsPlace : Type 0
RefusesForItsPlace =
    (config : ControllerConfig) (capacity room : ℕ) (calls : List Call) (command : Command)
    → capacity * (1 + most_data) ≤ room → SubmitsFitting calls → CommandFits command
    → let m = after_calls calls (new_machine config capacity room) in has_room command m ≡ nat_lt (length m.waiting) capacity
