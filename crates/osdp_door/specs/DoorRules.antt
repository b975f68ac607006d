-- What the door does with its commands, and what its program tells it.
use Rattle.std.specs.Prelude.{ℕ, ◌==◌, Bool, true, false, List, [], ◌∷◌, map, slice_index_or, slice_set, if◌then◌else◌}
use Rattle.osdp_msg.specs.declared.command.Command.{Command}
use Rattle.osdp_msg.specs.declared.command.Command.TheVariants.{LocalStatus, InputStatus, OutputStatus, ReaderStatus, Output, Led, Buzzer}
use Rattle.osdp_msg.specs.declared.leds.LedRecord.{LedRecord}
use Rattle.osdp_msg.specs.declared.nak.NakReason.TheVariants.{RecordNotProcessed}
use Rattle.osdp_msg.specs.declared.outputs.OutputRecord.{OutputRecord}
use Rattle.osdp_reader.specs.declared.handler.Answer.{Answer}
use Rattle.osdp_reader.specs.declared.handler.Answer.TheVariants as answer
use Rattle.osdp_door.specs.declared.door.Door.{Door}
use Rattle.osdp_door.specs.declared.output.DoorOutput.{DoorOutput}
use Rattle.osdp_script.specs.Known.{all_known}
use Rattle.osdp_door.specs.Outputs.{controlled, is_on, off, passed}

abbrev pub closed_door : Door
closed_door = record {
  outputs = off ∷ off ∷ off ∷ off ∷ off ∷ off ∷ off ∷ off ∷ [];
  inputs = 0 ∷ 0 ∷ [];
  is_tampered = false;
  has_no_power = false;
  color = 0;
  sounds = false;
}

-- as a reply tells it
abbrev pub bit : Bool → ℕ
bit b = if b then 1 else 0

-- an input that isn't there is none
abbrev pub with_input : ℕ → Bool → Door → Door
with_input input active door = record door { inputs = slice_set door.inputs input (bit active) }

-- after so many milliseconds
abbrev pub after_time : ℕ → Door → Door
after_time milliseconds door = record door { outputs = map (λ o. passed o milliseconds) door.outputs }

-- a record of an output that isn't there changes none
abbrev pub switched : List DoorOutput → OutputRecord → List DoorOutput
switched outputs r = slice_set outputs r.output (controlled (slice_index_or outputs r.output off) r.control r.timer)

abbrev pub outputs_after : List DoorOutput → List OutputRecord → List DoorOutput
outputs_after outputs [] = outputs
outputs_after outputs (r ∷ rs) = outputs_after (switched outputs r) rs

-- the last record that sets the permanent color counts
abbrev pub color_after : ℕ → List LedRecord → ℕ
color_after color [] = color
color_after color (r ∷ rs) = color_after (if r.permanent_control == 1 then r.permanent_on_color else color) rs

-- OUT is refused as a whole where a record isn't known, and so is what the door hasn't
abbrev pub door_answer : Door → Command → Answer
door_answer door LocalStatus = answer.Local (bit door.is_tampered) (bit door.has_no_power)
door_answer door InputStatus = answer.List (record { items = door.inputs })
door_answer door ReaderStatus = answer.List (record { items = 0 ∷ [] })
door_answer door OutputStatus = answer.List (record { items = map (λ o. bit (is_on o)) door.outputs })
door_answer door (Output records) = if all_known records then answer.Done else answer.Refuse RecordNotProcessed
door_answer door (Led records) = answer.Done
door_answer door (Buzzer b) = answer.Done
door_answer door _ = answer.Refuse RecordNotProcessed

abbrev pub door_after : Door → Command → Door
door_after door (Output records) =
    if all_known records then record door { outputs = outputs_after door.outputs records } else door
door_after door (Led records) = record door { color = color_after door.color records }
door_after door (Buzzer b) = record door { sounds = b.tone == 2 }
door_after door _ = door
