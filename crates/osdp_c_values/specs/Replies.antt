-- The fields of the other replies, as structs of plain fields: what a panel's program reads.
use Rattle.std.specs.Prelude.{ℕ, length, slice_get, Option, None, Some, Result, Ok, Err}
use Rattle.osdp_msg.specs.declared.capability.Capability.{Capability}
use Rattle.osdp_msg.specs.declared.fault.MsgFault.{MsgFault}
use Rattle.osdp_msg.specs.declared.reply.Reply.{Reply}
use Rattle.osdp_msg.specs.declared.reply.Reply.TheVariants as reply
use Rattle.osdp_msg.specs.declared.event_fields.Formatted.{Formatted}
use Rattle.osdp_msg.specs.declared.reply_fields.LocalState.{LocalState}
use Rattle.osdp_c_values.specs.declared.fields.StatesStruct.{StatesStruct}
use Rattle.osdp_c_values.specs.declared.shared.CommunicationStruct.{CommunicationStruct}
use Rattle.osdp_c_values.specs.declared.shared.MakerStruct.{MakerStruct}
use Rattle.osdp_c_values.specs.declared.told.CapabilityStruct.{CapabilityStruct}
use Rattle.osdp_c_values.specs.declared.told.FormattedStruct.{FormattedStruct}
use Rattle.osdp_c_values.specs.declared.told.LocalStruct.{LocalStruct}
use Rattle.osdp_c_values.specs.Commands.{communication_struct, maker_struct}
use Rattle.osdp_c_values.specs.Fields.{Read, another, reads, states_struct, unread}
use Rattle.osdp_c_values.specs.Structs.{filled}

abbrev pub readers_of : Result Reply MsgFault → StatesStruct → Read StatesStruct
readers_of (Ok (reply.Readers states)) out = reads (states_struct states.items out)
readers_of (Ok other) out = another out
readers_of (Err fault) out = unread fault out

abbrev pub local_struct : LocalState → LocalStruct
local_struct s = record { tamper = s.tamper; power = s.power }

abbrev pub local_of : Result Reply MsgFault → LocalStruct → Read LocalStruct
local_of (Ok (reply.LocalState s)) out = reads (local_struct s)
local_of (Ok other) out = another out
local_of (Err fault) out = unread fault out

abbrev pub formatted_struct : Formatted → FormattedStruct → FormattedStruct
formatted_struct f out = record {
  reader = f.reader;
  direction = f.direction;
  count = length f.digits.items;
  digits = filled f.digits.items out.digits;
}

abbrev pub formatted_of : Result Reply MsgFault → FormattedStruct → Read FormattedStruct
formatted_of (Ok (reply.Formatted f)) out = reads (formatted_struct f out)
formatted_of (Ok other) out = another out
formatted_of (Err fault) out = unread fault out

abbrev pub com_of : Result Reply MsgFault → CommunicationStruct → Read CommunicationStruct
com_of (Ok (reply.Com c)) out = reads (communication_struct c)
com_of (Ok other) out = another out
com_of (Err fault) out = unread fault out

abbrev pub maker_reply_of : Result Reply MsgFault → MakerStruct → Read MakerStruct
maker_reply_of (Ok (reply.MakerReply m)) out = reads (maker_struct m out)
maker_reply_of (Ok other) out = another out
maker_reply_of (Err fault) out = unread fault out

abbrev pub capability_struct : Capability → CapabilityStruct
capability_struct c = record { function = c.function; level = c.level; count = c.count }

-- a record of a PDCAP, counted from 0; another message where there is none any more
abbrev pub capability_or : Option Capability → CapabilityStruct → Read CapabilityStruct
capability_or (Some c) out = reads (capability_struct c)
capability_or None out = another out

abbrev pub capability_of : Result Reply MsgFault → ℕ → CapabilityStruct → Read CapabilityStruct
capability_of (Ok (reply.PdCap c)) at out = capability_or (slice_get c.capabilities.items at) out
capability_of (Ok other) at out = another out
capability_of (Err fault) at out = unread fault out
