-- The fields of commands, as structs of plain fields: what a device's program reads.
use Rattle.std.specs.Prelude.{ℕ, length, slice_get, Option, None, Some, Result, Ok, Err}
use Rattle.osdp_msg.specs.declared.command.Command.{Command}
use Rattle.osdp_msg.specs.declared.command.Command.TheVariants as command
use Rattle.osdp_msg.specs.declared.command_fields.Buzzer.{Buzzer}
use Rattle.osdp_msg.specs.declared.command_fields.Communication.{Communication}
use Rattle.osdp_msg.specs.declared.command_fields.MakerMessage.{MakerMessage}
use Rattle.osdp_msg.specs.declared.command_fields.Text.{Text}
use Rattle.osdp_msg.specs.declared.fault.MsgFault.{MsgFault}
use Rattle.osdp_msg.specs.declared.leds.LedRecord.{LedRecord}
use Rattle.osdp_c_values.specs.declared.making.BuzzerStruct.{BuzzerStruct}
use Rattle.osdp_c_values.specs.declared.making.LedState.{LedState}
use Rattle.osdp_c_values.specs.declared.making.LedStruct.{LedStruct}
use Rattle.osdp_c_values.specs.declared.making.TextStruct.{TextStruct}
use Rattle.osdp_c_values.specs.declared.shared.CommunicationStruct.{CommunicationStruct}
use Rattle.osdp_c_values.specs.declared.shared.MakerStruct.{MakerStruct}
use Rattle.osdp_c_values.specs.Fields.{Read, another, reads, unread}
use Rattle.osdp_c_values.specs.Structs.{filled}

abbrev pub temporary_of : LedRecord → LedState
temporary_of r = record {
  control = r.temporary_control;
  on_time = r.temporary_on_time;
  off_time = r.temporary_off_time;
  on_color = r.temporary_on_color;
  off_color = r.temporary_off_color;
}

abbrev pub permanent_of : LedRecord → LedState
permanent_of r = record {
  control = r.permanent_control;
  on_time = r.permanent_on_time;
  off_time = r.permanent_off_time;
  on_color = r.permanent_on_color;
  off_color = r.permanent_off_color;
}

abbrev pub led_struct : LedRecord → LedStruct
led_struct r = record { timer = r.timer; reader = r.reader; led = r.led; temporary = temporary_of r; permanent = permanent_of r }

-- a record of a LED, counted from 0; another message where there is none any more
abbrev pub led_or : Option LedRecord → LedStruct → Read LedStruct
led_or (Some r) out = reads (led_struct r)
led_or None out = another out

abbrev pub led_of : Result Command MsgFault → ℕ → LedStruct → Read LedStruct
led_of (Ok (command.Led records)) at out = led_or (slice_get records at) out
led_of (Ok other) at out = another out
led_of (Err fault) at out = unread fault out

abbrev pub buzzer_struct : Buzzer → BuzzerStruct
buzzer_struct b = record { reader = b.reader; tone = b.tone; on_time = b.on_time; off_time = b.off_time; count = b.count }

abbrev pub buzzer_of : Result Command MsgFault → BuzzerStruct → Read BuzzerStruct
buzzer_of (Ok (command.Buzzer b)) out = reads (buzzer_struct b)
buzzer_of (Ok other) out = another out
buzzer_of (Err fault) out = unread fault out

abbrev pub text_struct : Text → TextStruct → TextStruct
text_struct t out = record {
  reader = t.reader;
  command = t.command;
  time = t.time;
  row = t.row;
  column = t.column;
  count = length t.characters.items;
  characters = filled t.characters.items out.characters;
}

abbrev pub text_of : Result Command MsgFault → TextStruct → Read TextStruct
text_of (Ok (command.Text t)) out = reads (text_struct t out)
text_of (Ok other) out = another out
text_of (Err fault) out = unread fault out

abbrev pub communication_struct : Communication → CommunicationStruct
communication_struct c = record { baud_rate = c.baud_rate; address = c.address }

abbrev pub comset_of : Result Command MsgFault → CommunicationStruct → Read CommunicationStruct
comset_of (Ok (command.Comset c)) out = reads (communication_struct c)
comset_of (Ok other) out = another out
comset_of (Err fault) out = unread fault out

abbrev pub maker_struct : MakerMessage → MakerStruct → MakerStruct
maker_struct m out = record { length = length m.bytes.items; vendor = m.vendor; bytes = filled m.bytes.items out.bytes }

abbrev pub maker_of : Result Command MsgFault → MakerStruct → Read MakerStruct
maker_of (Ok (command.Maker m)) out = reads (maker_struct m out)
maker_of (Ok other) out = another out
maker_of (Err fault) out = unread fault out
