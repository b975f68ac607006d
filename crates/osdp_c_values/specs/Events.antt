-- Replies that tell an event, made of structs of plain fields: what a device's program makes.
use Rattle.std.specs.Prelude.{ℕ, List, nat_lt, if◌then◌else◌, take, Option, None, Some}
use Rattle.osdp_msg.specs.declared.fault.MsgFault.TheVariants.{Count, Length}
use Rattle.osdp_msg.specs.declared.reply.Reply.{Reply}
use Rattle.osdp_msg.specs.declared.reply.Reply.TheVariants as reply
use Rattle.osdp_msg.specs.declared.event_fields.Formatted.{Formatted}
use Rattle.osdp_msg.specs.declared.event_fields.Keypad.{Keypad}
use Rattle.osdp_msg.specs.declared.reply_fields.LocalState.{LocalState}
use Rattle.osdp_msg.specs.Limits.{most_card_bytes, most_data}
use Rattle.osdp_msg.specs.Raw.{RawCard, raw_card}
use Rattle.osdp_c_values.specs.declared.fields.KeypadStruct.{KeypadStruct}
use Rattle.osdp_c_values.specs.declared.fields.RawStruct.{RawStruct}
use Rattle.osdp_c_values.specs.declared.fields.StatesStruct.{StatesStruct}
use Rattle.osdp_c_values.specs.declared.message.MessageStruct.{MessageStruct}
use Rattle.osdp_c_values.specs.declared.told.FormattedStruct.{FormattedStruct}
use Rattle.osdp_c_values.specs.declared.told.LocalStruct.{LocalStruct}
use Rattle.osdp_c_values.specs.Fields.{Read, reads, unread}
use Rattle.osdp_c_values.specs.Structs.{reply_struct}

-- the reply is written
abbrev pub told : Reply → MessageStruct → Read MessageStruct
told reply out = reads (reply_struct (Some reply) out)

-- a card whose bytes are as many as its bits need
abbrev pub told_card : Option RawCard → MessageStruct → Read MessageStruct
told_card (Some card) out = told (reply.Raw card) out
told_card None out = unread Count out

-- as many bytes as the length says, for which there is room
abbrev pub made_raw : RawStruct → MessageStruct → Read MessageStruct
made_raw s out =
    if nat_lt most_card_bytes s.length then unread Length out
    else told_card (raw_card s.reader s.format s.bits (take s.length s.bytes)) out

-- as many keys as the count says
abbrev pub keypad_in : KeypadStruct → Keypad
keypad_in s = record { reader = s.reader; digits = record { items = take s.count s.digits } }

abbrev pub formatted_in : FormattedStruct → Formatted
formatted_in s = record { reader = s.reader; direction = s.direction; digits = record { items = take s.count s.digits } }

abbrev pub local_in : LocalStruct → LocalState
local_in s = record { tamper = s.tamper; power = s.power }

-- as many states as the length says, for which there is room
abbrev pub told_states : (List ℕ → Reply) → StatesStruct → MessageStruct → Read MessageStruct
told_states kind s out = if nat_lt most_data s.length then unread Length out else told (kind (take s.length s.states)) out

abbrev pub made_inputs : StatesStruct → MessageStruct → Read MessageStruct
made_inputs s out = told_states (λ items. reply.Inputs (record { items = items })) s out

abbrev pub made_outputs : StatesStruct → MessageStruct → Read MessageStruct
made_outputs s out = told_states (λ items. reply.Outputs (record { items = items })) s out

abbrev pub made_readers : StatesStruct → MessageStruct → Read MessageStruct
made_readers s out = told_states (λ items. reply.Readers (record { items = items })) s out
