-- Texts of messages, written to a room.
use Rattle.std.specs.Prelude.{◌≡◌, ◌≤◌, ◌<◌, ℕ, List, [], ◌∷◌, ◌++◌, length, nat_lt, if◌then◌else◌, Result, Ok, Err}
use Rattle.osdp_msg.specs.declared.fault.MsgFault.{MsgFault}
use Rattle.osdp_msg.specs.CommandTable.{command_of}
use Rattle.osdp_msg.specs.CommandText.{command_text}
use Rattle.osdp_msg.specs.ReplyTable.{reply_of}
use Rattle.osdp_msg.specs.ReplyText.{reply_text}
use Rattle.osdp_c_values.specs.declared.status.Status.{Status}
use Rattle.osdp_c_values.specs.declared.status.Status.TheVariants.{Done, TooSmall, Message}
use Rattle.osdp_c_values.specs.Structs.{filled}

-- a text, and a zero after it where there is room for one
abbrev pub ended_text : List ℕ → List ℕ → List ℕ
ended_text text room = if nat_lt (length text) (length room) then text ++ 0 ∷ [] else text

-- a text is written with its length, or else there is less room, and only its length is written
abbrev pub IsTold : List ℕ → Status → List ℕ → List ℕ → ℕ → Type 0
IsTold text Done room room' count = (length text ≤ length room) × (room' ≡ filled (ended_text text room) room) × (count ≡ length text)
IsTold text TooSmall room room' count = (length room < length text) × (room' ≡ room) × (count ≡ length text)
IsTold text _ room room' count = ⊥

-- the text of a message, where there is one; else why there is none, and nothing is written
abbrev pub TextEnds : {M : Type 0} → (M → List ℕ) → Result M MsgFault → Status → List ℕ → List ℕ → ℕ → ℕ → Type 0
TextEnds text_of (Ok m) status room room' count count' = IsTold (text_of m) status room room' count'
TextEnds text_of (Err fault) status room room' count count' = (status ≡ Message fault) × (room' ≡ room) × (count' ≡ count)

abbrev pub CommandTextEnds : ℕ → List ℕ → Status → List ℕ → List ℕ → ℕ → ℕ → Type 0
CommandTextEnds code body status room room' count count' = TextEnds command_text (command_of code body) status room room' count count'

abbrev pub ReplyTextEnds : ℕ → List ℕ → Status → List ℕ → List ℕ → ℕ → ℕ → Type 0
ReplyTextEnds code body status room room' count count' = TextEnds reply_text (reply_of code body) status room room' count count'
