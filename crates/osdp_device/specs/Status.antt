-- What a device tells and does whose program sets beforehand what there is.
use Rattle.std.specs.Prelude.{ℕ, ◌&&◌, nat_lt, Bool, true, List, [], ◌∷◌, length, if◌then◌else◌}
use Rattle.osdp_msg.specs.declared.command.Command.{Command}
use Rattle.osdp_msg.specs.declared.command.Command.TheVariants.{LocalStatus, InputStatus, OutputStatus, ReaderStatus, Output, Led, Buzzer, Text}
use Rattle.osdp_msg.specs.declared.nak.NakReason.TheVariants.{RecordNotProcessed}
use Rattle.osdp_msg.specs.declared.outputs.OutputRecord.{OutputRecord}
use Rattle.osdp_reader.specs.declared.handler.Answer.{Answer}
use Rattle.osdp_reader.specs.declared.handler.Answer.TheVariants as answer
use Rattle.osdp_device.specs.declared.status.DeviceStatus.{DeviceStatus}

-- no input, no output and no reader, no tamper and power as it should be
abbrev pub new_status : DeviceStatus
new_status = record {
  tamper = 0;
  power = 0;
  inputs = record { items = [] };
  outputs = record { items = [] };
  readers = record { items = [] };
}

-- each record is of an output that there is
abbrev pub are_there : ℕ → List OutputRecord → Bool
are_there count [] = true
are_there count (r ∷ rs) = nat_lt r.output count && are_there count rs

-- what is asked for is told as it was set; OUT is refused as a whole where one of its outputs isn't there; of all others
-- nothing is known here: what OUT, LED, BUZ and TEXT do is done by the device's program, and MFG is refused
abbrev pub status_answer : DeviceStatus → Command → Answer
status_answer s LocalStatus = answer.Local s.tamper s.power
status_answer s InputStatus = answer.List s.inputs
status_answer s OutputStatus = answer.List s.outputs
status_answer s ReaderStatus = answer.List s.readers
status_answer s (Output records) =
    if are_there (length s.outputs.items) records then answer.Done else answer.Refuse RecordNotProcessed
status_answer s (Led records) = answer.Done
status_answer s (Buzzer b) = answer.Done
status_answer s (Text t) = answer.Done
status_answer s _ = answer.Refuse RecordNotProcessed

-- no command changes it: the device's program does
abbrev pub status_after : DeviceStatus → Command → DeviceStatus
status_after s command = s
