-- Structs of plain fields, as they are written.
use Rattle.std.specs.Prelude.{ℕ, Bool, if◌then◌else◌, List, [], ◌∷◌, ◌++◌, length, drop, Option, None, Some}
use Rattle.osdp_msg.specs.declared.command.Command.{Command}
use Rattle.osdp_msg.specs.declared.reply.Reply.{Reply}
use Rattle.osdp_msg.specs.CommandTable.{command_code, command_data}
use Rattle.osdp_msg.specs.ReplyTable.{reply_code, reply_data}
use Rattle.osdp_c_values.specs.declared.arrays.BurstStruct.{BurstStruct}
use Rattle.osdp_c_values.specs.declared.message.MessageStruct.{MessageStruct}

-- whether something is so: 1, or else 0
abbrev pub flag : Bool → ℕ
flag so = if so then 1 else 0

-- bytes at the front of an array; the others stay as they were
abbrev pub filled : List ℕ → List ℕ → List ℕ
filled bytes room = bytes ++ drop (length bytes) room

abbrev pub burst_of : List ℕ → BurstStruct → BurstStruct
burst_of bytes b = record { length = length bytes; bytes = filled bytes b.bytes }

-- a message is there, or none
abbrev pub message_of : ℕ → List ℕ → MessageStruct → MessageStruct
message_of code body m = record { length = length body; present = 1; code = code; body = filled body m.body }

abbrev pub no_message : MessageStruct → MessageStruct
no_message m = record { length = 0; present = 0; code = 0; body = m.body }

-- the same of a code with the data after it
abbrev pub spelled_message : List ℕ → MessageStruct → MessageStruct
spelled_message [] m = m
spelled_message (code ∷ body) m = message_of code body m

abbrev pub command_struct : Option Command → MessageStruct → MessageStruct
command_struct None m = no_message m
command_struct (Some command) m = message_of (command_code command) (command_data command) m

abbrev pub reply_struct : Option Reply → MessageStruct → MessageStruct
reply_struct None m = no_message m
reply_struct (Some reply) m = message_of (reply_code reply) (reply_data reply) m
