-- Commands made of structs of plain fields.
use Rattle.std.specs.Prelude.{ℕ, List, nat_lt, if◌then◌else◌, take, map, option_map, Option, None, Some}
use Rattle.osdp_bus.specs.declared.fault.BusFault.TheVariants.{AddressOutOfRange}
use Rattle.osdp_msg.specs.CommandFields.{records_within}
use Rattle.osdp_msg.specs.declared.command.Command.{Command}
use Rattle.osdp_msg.specs.declared.command.Command.TheVariants as command
use Rattle.osdp_msg.specs.declared.command_fields.Buzzer.{Buzzer}
use Rattle.osdp_msg.specs.declared.command_fields.MakerMessage.{MakerMessage}
use Rattle.osdp_msg.specs.declared.command_fields.Text.{Text}
use Rattle.osdp_msg.specs.declared.fault.MsgFault.TheVariants.{Length}
use Rattle.osdp_msg.specs.declared.leds.LedRecord.{LedRecord}
use Rattle.osdp_msg.specs.declared.outputs.OutputRecord.{OutputRecord}
use Rattle.osdp_msg.specs.Limits.{most_maker_bytes}
use Rattle.osdp_c_values.specs.declared.fields.OutputStruct.{OutputStruct}
use Rattle.osdp_c_values.specs.declared.making.BuzzerStruct.{BuzzerStruct}
use Rattle.osdp_c_values.specs.declared.making.LedStruct.{LedStruct}
use Rattle.osdp_c_values.specs.declared.making.TextStruct.{TextStruct}
use Rattle.osdp_c_values.specs.declared.message.MessageStruct.{MessageStruct}
use Rattle.osdp_c_values.specs.declared.shared.MakerStruct.{MakerStruct}
use Rattle.osdp_c_values.specs.declared.status.Status.TheVariants as status
use Rattle.osdp_c_values.specs.Fields.{Read, reads, unread}
use Rattle.osdp_c_values.specs.Structs.{command_struct}

abbrev pub output_record : OutputStruct → OutputRecord
output_record s = record { output = s.output; control = s.control; timer = s.timer }

abbrev pub led_record : LedStruct → LedRecord
led_record s = record {
  reader = s.reader;
  led = s.led;
  timer = s.timer;
  temporary_control = s.temporary.control;
  temporary_on_time = s.temporary.on_time;
  temporary_off_time = s.temporary.off_time;
  temporary_on_color = s.temporary.on_color;
  temporary_off_color = s.temporary.off_color;
  permanent_control = s.permanent.control;
  permanent_on_time = s.permanent.on_time;
  permanent_off_time = s.permanent.off_time;
  permanent_on_color = s.permanent.on_color;
  permanent_off_color = s.permanent.off_color;
}

abbrev pub buzzer_in : BuzzerStruct → Buzzer
buzzer_in s = record { reader = s.reader; tone = s.tone; on_time = s.on_time; off_time = s.off_time; count = s.count }

-- as many characters as the count says
abbrev pub text_in : TextStruct → Text
text_in s = record { reader = s.reader; command = s.command; time = s.time; row = s.row; column = s.column; characters = record { items = take s.count s.characters } }

-- the command is written, where there is one: one without records, and one with more than it may have, is none
abbrev pub made : Option Command → MessageStruct → Read MessageStruct
made None out = unread Length out
made (Some command) out = reads (command_struct (Some command) out)

abbrev pub made_out : List OutputStruct → MessageStruct → Read MessageStruct
made_out records out = made (option_map command.Output (records_within 358 (map output_record records))) out

abbrev pub made_led : List LedStruct → MessageStruct → Read MessageStruct
made_led records out = made (option_map command.Led (records_within 102 (map led_record records))) out

-- a COMSET to one of the addresses 0 to 126, which are those of devices; to any other none is written
abbrev pub made_comset : ℕ → ℕ → MessageStruct → Read MessageStruct
made_comset address baud_rate out =
    if nat_lt address 127 then made (Some (command.Comset (record { address = address; baud_rate = baud_rate }))) out
    else record { status = status.Panel AddressOutOfRange; out = out }

-- as many bytes as the length says
abbrev pub maker_in : MakerStruct → MakerMessage
maker_in s = record { vendor = s.vendor; bytes = record { items = take s.length s.bytes } }

-- a MFG, where there is room for as many bytes as the length says
abbrev pub made_maker : MakerStruct → MessageStruct → Read MessageStruct
made_maker s out = if nat_lt most_maker_bytes s.length then unread Length out else made (Some (command.Maker (maker_in s))) out
