-- The reply to a command that is acted on.
use Rattle.std.specs.Prelude.{ℕ, nat_le, List, [], ◌∷◌, Option, Some, None, if◌then◌else◌}
use Rattle.osdp_frame.specs.Packet.{Packet}
use Rattle.osdp_frame.specs.Packed.{packed}
use Rattle.std.specs.Prelude.{true, false}
use Rattle.osdp_msg.specs.declared.command.Command.{Command}
use Rattle.osdp_msg.specs.declared.command.Command.TheVariants.{Poll, Id, Cap, LocalStatus, InputStatus, OutputStatus, ReaderStatus, Output, Led, Buzzer, Text, Comset, Maker}
use Rattle.osdp_msg.specs.declared.command_fields.Communication.{Communication}
use Rattle.osdp_msg.specs.declared.command_fields.MakerMessage.{MakerMessage}
use Rattle.osdp_msg.specs.declared.fault.MsgFault.{MsgFault}
use Rattle.osdp_msg.specs.declared.fault.MsgFault.TheVariants.{UnknownCode, Length, Count}
use Rattle.osdp_msg.specs.declared.nak.NakReason.{NakReason}
use Rattle.osdp_msg.specs.declared.nak.NakReason.TheVariants.{CommandLength, UnknownCommand, RecordNotProcessed}
use Rattle.osdp_msg.specs.declared.reply.Reply.{Reply}
use Rattle.osdp_msg.specs.declared.reply.Reply.TheVariants as reply
use Rattle.osdp_msg.specs.ReplyTable.{reply_code, reply_data}
use Rattle.osdp_reader.specs.declared.config.ReaderConfig.{ReaderConfig}
use Rattle.osdp_reader.specs.declared.handler.Answer.{Answer}
use Rattle.osdp_reader.specs.declared.handler.Answer.TheVariants as answer

-- a NAK with this reason and no detail
abbrev pub refused : NakReason → Reply
refused reason = reply.Nak (record { reason = reason; detail = record { items = [] } })

abbrev pub not_processed : Reply
not_processed = refused RecordNotProcessed

-- why a packet is no command that the reader knows
abbrev pub unread_reason : MsgFault → NakReason
unread_reason UnknownCode = UnknownCommand
unread_reason Length = CommandLength
unread_reason Count = CommandLength

-- addresses above 126 are refused; else what was set is confirmed
abbrev pub comset_reply : Communication → Reply
comset_reply c = if nat_le c.address 126 then reply.Com c else not_processed

-- what the reader answers by itself: POLL without an event, and what its configuration says
abbrev pub own_reply : ReaderConfig → Command → Option Reply
own_reply config Poll = Some reply.Ack
own_reply config (Id kept) = Some (reply.PdId config.id)
own_reply config (Cap kept) = Some (reply.PdCap (record { capabilities = config.caps }))
own_reply config (Comset c) = Some (comset_reply c)
own_reply config _ = None

-- a handler's answers as replies: each to its commands, and NAK 9 to all others

abbrev pub done_reply : Command → Reply
done_reply (Output records) = reply.Ack
done_reply (Led records) = reply.Ack
done_reply (Buzzer b) = reply.Ack
done_reply (Text t) = reply.Ack
done_reply (Maker m) = reply.Ack
done_reply _ = not_processed

abbrev pub local_reply : Command → ℕ → ℕ → Reply
local_reply LocalStatus tamper power = reply.LocalState (record { tamper = tamper; power = power })
local_reply _ tamper power = not_processed

abbrev pub list_reply : Command → List ℕ → Reply
list_reply InputStatus states = reply.Inputs (record { items = states })
list_reply OutputStatus states = reply.Outputs (record { items = states })
list_reply ReaderStatus states = reply.Readers (record { items = states })
list_reply _ states = not_processed

abbrev pub maker_reply : Command → MakerMessage → Reply
maker_reply (Maker m) own = reply.MakerReply own
maker_reply _ own = not_processed

-- length and unknown command are told as such, and all other reasons as NAK 9
abbrev pub refusal_reply : NakReason → Reply
refusal_reply CommandLength = refused CommandLength
refusal_reply UnknownCommand = refused UnknownCommand
refusal_reply _ = not_processed

abbrev pub reply_for : Answer → Command → Reply
reply_for answer.Done command = done_reply command
reply_for (answer.Local tamper power) command = local_reply command tamper power
reply_for (answer.List states) command = list_reply command states.items
reply_for (answer.Refuse reason) command = refusal_reply reason
reply_for (answer.Maker m) command = maker_reply command m

-- the packet of a reply: the address and the kind of check that the command used, and no reserved bits
abbrev pub reply_packet : Packet → ℕ → Reply → Packet
reply_packet p sequence r = packed true p.address sequence p.check false 0 (reply_code r ∷ reply_data r)
