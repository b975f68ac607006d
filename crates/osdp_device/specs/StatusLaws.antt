-- What a device answers whose program sets beforehand what there is.
use Rattle.std.specs.Prelude.{◌≡◌, ◌<◌, ◌≤◌, ◌++◌, ◌∷◌, ℕ, List, [], length}
use Rattle.std.specs.List.{All}
use Rattle.osdp_msg.specs.declared.command.Command.{Command}
use Rattle.osdp_msg.specs.declared.command.Command.TheVariants.{LocalStatus, InputStatus, OutputStatus, ReaderStatus, Output, Led, Buzzer, Text, Maker}
use Rattle.osdp_msg.specs.declared.command_fields.Buzzer.{Buzzer as Sound}
use Rattle.osdp_msg.specs.declared.command_fields.MakerMessage.{MakerMessage}
use Rattle.osdp_msg.specs.declared.command_fields.Text.{Text as Shown}
use Rattle.osdp_msg.specs.declared.leds.LedRecord.{LedRecord}
use Rattle.osdp_msg.specs.declared.outputs.OutputRecord.{OutputRecord}
use Rattle.osdp_msg.specs.ReplyTable.{reply_code, reply_data}
use Rattle.osdp_reader.specs.Replies.{reply_for}
use Rattle.osdp_device.specs.Status.{status_answer}
use Rattle.osdp_device.specs.declared.status.DeviceStatus.{DeviceStatus}

-- the code and the data of what a panel is told
abbrev pub told_to : DeviceStatus → Command → List ℕ
told_to s command = let said = reply_for (status_answer s command) command in reply_code said ∷ reply_data said

-- LSTATR with tamper and power; ISTATR, OSTATR and RSTATR with a byte for each input, output and reader, as it was set. OUT is told done by ACK where each
-- of its outputs is there, whatever it does with it, and else refused by NAK 9. LED, BUZ and TEXT are told done, and MFG is refused, whatever they say
pub record AnswersFromStatus (s : DeviceStatus) : Type 0 where
  pub local : told_to s LocalStatus ≡ 0x48 ∷ s.tamper ∷ s.power ∷ []
  pub inputs : told_to s InputStatus ≡ 0x49 ∷ s.inputs.items
  pub outputs : told_to s OutputStatus ≡ 0x4A ∷ s.outputs.items
  pub readers : told_to s ReaderStatus ≡ 0x4B ∷ s.readers.items
  pub there : (records : List OutputRecord) → All (λ (r : OutputRecord). r.output < length s.outputs.items) records
      → told_to s (Output records) ≡ 0x40 ∷ []
  pub missing : (front : List OutputRecord) (r : OutputRecord) (rest : List OutputRecord) → length s.outputs.items ≤ r.output
      → told_to s (Output (front ++ r ∷ rest)) ≡ 0x41 ∷ 9 ∷ []
  pub led : (records : List LedRecord) → told_to s (Led records) ≡ 0x40 ∷ []
  pub buzzer : (b : Sound) → told_to s (Buzzer b) ≡ 0x40 ∷ []
  pub text : (t : Shown) → told_to s (Text t) ≡ 0x40 ∷ []
  pub maker : (m : MakerMessage) → told_to s (Maker m) ≡ 0x41 ∷ 9 ∷ []
