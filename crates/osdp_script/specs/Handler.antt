-- What a script's readers do with their commands.
use Rattle.std.specs.Prelude.{ℕ, List, [], ◌∷◌, if◌then◌else◌}
use Rattle.std.specs.Str.{bytes_eq}
use Rattle.osdp_msg.specs.declared.command.Command.{Command}
use Rattle.osdp_msg.specs.declared.command.Command.TheVariants.{LocalStatus, InputStatus, OutputStatus, ReaderStatus, Output, Led, Buzzer, Text, Maker}
use Rattle.osdp_msg.specs.declared.command_fields.MakerMessage.{MakerMessage}
use Rattle.osdp_msg.specs.declared.nak.NakReason.TheVariants.{RecordNotProcessed}
use Rattle.osdp_reader.specs.declared.handler.Answer.{Answer}
use Rattle.osdp_reader.specs.declared.handler.Answer.TheVariants as answer
use Rattle.osdp_script.specs.Known.{all_known}
use Rattle.osdp_script.specs.Outputs.{outputs_after}
use Rattle.osdp_script.specs.declared.handler.ScriptReader.{ScriptReader}

-- all outputs are off
abbrev pub new_handler : ScriptReader
new_handler = record { outputs = 0 ∷ 0 ∷ 0 ∷ 0 ∷ 0 ∷ 0 ∷ 0 ∷ 0 ∷ [] }

-- the maker's code of a script's readers
abbrev pub script_vendor : List ℕ
script_vendor = 0x53 ∷ 0x49 ∷ 0x4D ∷ []

-- the same bytes come back, from the same maker
abbrev pub answer_to_maker : MakerMessage → Answer
answer_to_maker m = if bytes_eq m.vendor script_vendor then answer.Maker m else answer.Refuse RecordNotProcessed

-- no timer counts; one input and one reader, at 0; OUT is refused as a whole where a record isn't known
abbrev pub handler_answer : ScriptReader → Command → Answer
handler_answer h LocalStatus = answer.Local 0 0
handler_answer h InputStatus = answer.List (record { items = 0 ∷ [] })
handler_answer h ReaderStatus = answer.List (record { items = 0 ∷ [] })
handler_answer h OutputStatus = answer.List (record { items = h.outputs })
handler_answer h (Output records) = if all_known records then answer.Done else answer.Refuse RecordNotProcessed
handler_answer h (Led records) = answer.Done
handler_answer h (Buzzer b) = answer.Done
handler_answer h (Text t) = answer.Done
handler_answer h (Maker m) = answer_to_maker m
handler_answer h _ = answer.Refuse RecordNotProcessed

-- only an OUT of which all records are known changes the outputs
abbrev pub handler_after : ScriptReader → Command → ScriptReader
handler_after h (Output records) = if all_known records then record { outputs = outputs_after h.outputs records } else h
handler_after h _ = h
