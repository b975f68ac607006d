-- What is printed of a NAK beside its line, where orders and their answers are printed: what it refuses, and the reason in words.
use Rattle.std.specs.Prelude.{ℕ, ◌==◌, ◌&&◌, not, Bool, false, if◌then◌else◌, List, [], ◌++◌, codes, Option, None, Some, Result, Ok}
use Rattle.osdp_frame.specs.Reading.{RunItem, PacketItem}
use Rattle.osdp_monitor.specs.Saying.{reply_told}
use Rattle.osdp_msg.specs.declared.fault.MsgFault.{MsgFault}
use Rattle.osdp_msg.specs.declared.nak.NakReason.{NakReason}
use Rattle.osdp_msg.specs.declared.nak.NakReason.TheVariants.{CheckCharacters, CommandLength, UnknownCommand, UnexpectedSequence, SecurityBlock, SecurityConditions, BiometricType, BiometricFormat, RecordNotProcessed, Other}
use Rattle.osdp_msg.specs.declared.reply.Reply.{Reply}
use Rattle.osdp_msg.specs.declared.reply.Reply.TheVariants.{Nak}
use Rattle.osdp_tool_show.specs.declared.detail.Detail.{Detail}
use Rattle.osdp_tool_show.specs.declared.detail.Detail.TheVariants.{Filtered}
use Rattle.osdp_tool_monitor.specs.Text.{address_line}
use Rattle.osdp_tool_monitor.specs.declared.trail.Trail.{Trail}

-- the standard's table of reasons
abbrev pub reason_words : NakReason → List ℕ
reason_words CheckCharacters = codes "its check characters are wrong"
reason_words CommandLength = codes "its length is wrong"
reason_words UnknownCommand = codes "the device doesn't know the command"
reason_words UnexpectedSequence = codes "its number was not expected"
reason_words SecurityBlock = codes "the device doesn't support its security block"
reason_words SecurityConditions = codes "the device demands Secure Channel for it"
reason_words BiometricType = codes "the device doesn't support the biometric type"
reason_words BiometricFormat = codes "the device doesn't support the biometric format"
reason_words RecordNotProcessed = codes "the device can't do what its data say"
reason_words (Other n) = codes "for a reason that the standard doesn't have"

-- the packet before it on the line, where that went to the same device: a POLL, or the order whose line stands above
abbrev pub is_asked : Option ℕ → ℕ → Bool
is_asked None address = false
is_asked (Some asked) address = asked == address

abbrev pub refused_words : Trail → ℕ → List ℕ
refused_words trail address =
    if not (is_asked trail.asked address) then codes "NAK to a packet that was not heard: " else if trail.ordered then codes "NAK to this order: " else codes "NAK to a POLL: "

abbrev pub nak_line : ℕ → ℕ → Trail → ℕ → Result Reply MsgFault → List ℕ
nak_line run place trail address (Ok (Nak n)) = address_line run place (codes " device ") address (refused_words trail address ++ reason_words n.reason)
nak_line run place trail address _ = []

-- what a security block covers isn't read
abbrev pub talk_line : Detail → ℕ → ℕ → Trail → RunItem → List ℕ
talk_line (Filtered filter) run place trail (PacketItem p) = if p.reply && not p.block then nak_line run place trail p.address (reply_told p) else []
talk_line detail run place trail part = []
