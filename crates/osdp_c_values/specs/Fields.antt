-- The fields of a reply, as structs of plain fields.
use Rattle.std.specs.Prelude.{ℕ, min, List, take, length, slice_get, Option, None, Some, Result, Ok, Err}
use Rattle.osdp_msg.specs.declared.command.Command.{Command}
use Rattle.osdp_msg.specs.declared.command.Command.TheVariants as command
use Rattle.osdp_msg.specs.declared.fault.MsgFault.{MsgFault}
use Rattle.osdp_msg.specs.declared.outputs.OutputRecord.{OutputRecord}
use Rattle.osdp_msg.specs.declared.reply.Reply.{Reply}
use Rattle.osdp_msg.specs.declared.reply.Reply.TheVariants as reply
use Rattle.osdp_msg.specs.declared.event_fields.Keypad.{Keypad}
use Rattle.osdp_msg.specs.declared.reply_fields.Nak.{Nak}
use Rattle.osdp_msg.specs.declared.reply_fields.PdId.{PdId}
use Rattle.osdp_msg.specs.CommandTable.{command_of}
use Rattle.osdp_msg.specs.Limits.{most_data}
use Rattle.osdp_msg.specs.NakReasons.{reason_number}
use Rattle.osdp_msg.specs.Raw.{RawCard}
use Rattle.osdp_msg.specs.ReplyTable.{reply_of}
use Rattle.osdp_c_values.specs.declared.fields.KeypadStruct.{KeypadStruct}
use Rattle.osdp_c_values.specs.declared.fields.NakStruct.{NakStruct}
use Rattle.osdp_c_values.specs.declared.fields.OutputStruct.{OutputStruct}
use Rattle.osdp_c_values.specs.declared.fields.PdIdStruct.{PdIdStruct}
use Rattle.osdp_c_values.specs.declared.fields.RawStruct.{RawStruct}
use Rattle.osdp_c_values.specs.declared.fields.StatesStruct.{StatesStruct}
use Rattle.osdp_c_values.specs.declared.message.MessageStruct.{MessageStruct}
use Rattle.osdp_c_values.specs.declared.settings.ProductStruct.{ProductStruct}
use Rattle.osdp_c_values.specs.declared.status.Status.{Status}
use Rattle.osdp_c_values.specs.declared.status.Status.TheVariants as status
use Rattle.osdp_c_values.specs.Structs.{filled}

-- the data of a message: as many bytes as its length says, and no more than there is room for
abbrev pub data_of : MessageStruct → List ℕ
data_of m = take (min m.length most_data) m.body

abbrev pub reply_in : MessageStruct → Result Reply MsgFault
reply_in m = reply_of m.code (data_of m)

abbrev pub command_in : MessageStruct → Result Command MsgFault
command_in m = command_of m.code (data_of m)

-- what became of a call that reads fields, and what is written
pub record Read (O : Type 0) : Type 0 where
  pub status : Status
  pub out : O

-- another message than the call reads, or none: nothing is written
abbrev pub another : {O : Type 0} → O → Read O
another out = record { status = status.OtherMessage; out = out }

abbrev pub unread : {O : Type 0} → MsgFault → O → Read O
unread fault out = record { status = status.Message fault; out = out }

abbrev pub reads : {O : Type 0} → O → Read O
reads out = record { status = status.Done; out = out }

abbrev pub raw_struct : RawCard → RawStruct → RawStruct
raw_struct card out = record {
  reader = card.reader;
  format = card.format;
  bits = card.bits;
  length = length card.bytes;
  bytes = filled card.bytes out.bytes;
}

abbrev pub raw_of : Result Reply MsgFault → RawStruct → Read RawStruct
raw_of (Ok (reply.Raw card)) out = reads (raw_struct card out)
raw_of (Ok other) out = another out
raw_of (Err fault) out = unread fault out

abbrev pub keypad_struct : Keypad → KeypadStruct → KeypadStruct
keypad_struct keys out = record { reader = keys.reader; count = length keys.digits.items; digits = filled keys.digits.items out.digits }

abbrev pub keypad_of : Result Reply MsgFault → KeypadStruct → Read KeypadStruct
keypad_of (Ok (reply.Keypad keys)) out = reads (keypad_struct keys out)
keypad_of (Ok other) out = another out
keypad_of (Err fault) out = unread fault out

abbrev pub states_struct : List ℕ → StatesStruct → StatesStruct
states_struct states out = record { length = length states; states = filled states out.states }

abbrev pub inputs_of : Result Reply MsgFault → StatesStruct → Read StatesStruct
inputs_of (Ok (reply.Inputs states)) out = reads (states_struct states.items out)
inputs_of (Ok other) out = another out
inputs_of (Err fault) out = unread fault out

abbrev pub outputs_of : Result Reply MsgFault → StatesStruct → Read StatesStruct
outputs_of (Ok (reply.Outputs states)) out = reads (states_struct states.items out)
outputs_of (Ok other) out = another out
outputs_of (Err fault) out = unread fault out

abbrev pub product_of : PdId → ProductStruct
product_of id = record { vendor = id.vendor; model = id.model; version = id.version; firmware_major = id.firmware_major; firmware_minor = id.firmware_minor; firmware_build = id.firmware_build }

abbrev pub pd_id_struct : PdId → PdIdStruct
pd_id_struct id = record { serial = id.serial; product = product_of id }

abbrev pub pd_id_of : Result Reply MsgFault → PdIdStruct → Read PdIdStruct
pd_id_of (Ok (reply.PdId id)) out = reads (pd_id_struct id)
pd_id_of (Ok other) out = another out
pd_id_of (Err fault) out = unread fault out

abbrev pub nak_struct : Nak → NakStruct → NakStruct
nak_struct n out = record { length = length n.detail.items; reason = reason_number n.reason; detail = filled n.detail.items out.detail }

abbrev pub nak_of : Result Reply MsgFault → NakStruct → Read NakStruct
nak_of (Ok (reply.Nak n)) out = reads (nak_struct n out)
nak_of (Ok other) out = another out
nak_of (Err fault) out = unread fault out

abbrev pub output_struct : OutputRecord → OutputStruct
output_struct r = record { timer = r.timer; output = r.output; control = r.control }

-- a record of an OUT, counted from 0; another message where there is none any more
abbrev pub record_or : Option OutputRecord → OutputStruct → Read OutputStruct
record_or (Some r) out = reads (output_struct r)
record_or None out = another out

abbrev pub output_of : Result Command MsgFault → ℕ → OutputStruct → Read OutputStruct
output_of (Ok (command.Output records)) at out = record_or (slice_get records at) out
output_of (Ok other) at out = another out
output_of (Err fault) at out = unread fault out
