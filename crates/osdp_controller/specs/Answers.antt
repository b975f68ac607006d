-- What a reply says to a controller that waits for one.
use Rattle.std.specs.Prelude.{ℕ, Bool, true, false, drop, slice_index, Result, Ok, Err}
use Rattle.osdp_frame.specs.Packet.{Packet}
use Rattle.osdp_msg.specs.declared.fault.MsgFault.{MsgFault}
use Rattle.osdp_msg.specs.declared.nak.NakReason.{NakReason}
use Rattle.osdp_msg.specs.declared.nak.NakReason.TheVariants.{CheckCharacters, UnexpectedSequence}
use Rattle.osdp_msg.specs.declared.reply.Reply.{Reply}
use Rattle.osdp_msg.specs.declared.reply.Reply.TheVariants.{Busy, Nak}
use Rattle.osdp_msg.specs.declared.reply_fields.Nak.{Nak as NakData}
use Rattle.osdp_msg.specs.ReplyTable.{reply_of}
use Rattle.osdp_controller.specs.declared.meaning.ReplyMeaning.{ReplyMeaning}
use Rattle.osdp_controller.specs.declared.meaning.ReplyMeaning.TheVariants.{NotTaken, Damaged, NumberRefused, Plain, Unreadable}

-- the reason alone decides, whatever detail follows
abbrev pub meaning_by_reason : NakReason → NakData → ReplyMeaning
meaning_by_reason CheckCharacters nak = Damaged
meaning_by_reason UnexpectedSequence nak = NumberRefused
meaning_by_reason _ nak = Plain (Nak nak)

abbrev pub meaning_by_reply : Reply → ReplyMeaning
meaning_by_reply Busy = NotTaken
meaning_by_reply (Nak nak) = meaning_by_reason nak.reason nak
meaning_by_reply reply = Plain reply

-- what is read from a code, or that nothing is
abbrev pub meaning_by_reading : ℕ → Result Reply MsgFault → ReplyMeaning
meaning_by_reading code (Ok reply) = meaning_by_reply reply
meaning_by_reading code (Err fault) = Unreadable code

-- what a packet from a reader says
abbrev pub meaning_of : Packet → ReplyMeaning
meaning_of p =
    let code = slice_index p.body 0 in
    meaning_by_reading code (reply_of code (drop 1 p.body))

abbrev pub is_not_taken : ReplyMeaning → Bool
is_not_taken NotTaken = true
is_not_taken _ = false
