-- What a reply means to a controller, by the table of replies and the numbers of the reasons of a NAK.
use Rattle.std.specs.Prelude.{◌≡◌, ◌≢◌, ◌↔◌, ℕ, drop, slice_index, Result, Ok, Err}
use Rattle.osdp_frame.specs.Packet.{Packet}
use Rattle.osdp_msg.specs.declared.fault.MsgFault.{MsgFault}
use Rattle.osdp_msg.specs.declared.reply.Reply.{Reply}
use Rattle.osdp_msg.specs.declared.reply.Reply.TheVariants.{Busy, Nak}
use Rattle.osdp_msg.specs.declared.reply_fields.Nak.{Nak as NakData}
use Rattle.osdp_msg.specs.NakReasons.{reason_number}
use Rattle.osdp_msg.specs.ReplyTable.{reply_of}
use Rattle.osdp_controller.specs.Answers.{meaning_of}
use Rattle.osdp_controller.specs.declared.meaning.ReplyMeaning.{ReplyMeaning}
use Rattle.osdp_controller.specs.declared.meaning.ReplyMeaning.TheVariants.{NotTaken, Damaged, NumberRefused, Plain, Unreadable}

-- a NAK is read whose reason has this number
abbrev pub IsNak : ℕ → Result Reply MsgFault → Type 0
IsNak number read = (n : NakData) × (read ≡ Ok (Nak n)) × (reason_number n.reason ≡ number)

-- a reply that answers: neither BUSY nor a NAK with reason 1 or 4
pub record IsAnswer (r : Reply) : Type 0 where
  pub taken : r ≢ Busy
  pub heard : (n : NakData) → r ≡ Nak n → (reason_number n.reason ≢ 1) × (reason_number n.reason ≢ 4)

-- what is read from a code means this
pub record MeansWhatIsRead (code : ℕ) (read : Result Reply MsgFault) (meaning : ReplyMeaning) : Type 0 where
  -- BUSY: the command wasn't taken
  pub not_taken : (meaning ≡ NotTaken) ↔ (read ≡ Ok Busy)
  -- NAK 1: it came with wrong check characters
  pub damaged : (meaning ≡ Damaged) ↔ IsNak 1 read
  -- NAK 4: its number was not expected
  pub refused : (meaning ≡ NumberRefused) ↔ IsNak 4 read
  -- any other reply: itself
  pub plain : (r : Reply) → (meaning ≡ Plain r) ↔ ((read ≡ Ok r) × IsAnswer r)
  -- no reply of the table: its code
  pub unreadable : (other : ℕ) → (meaning ≡ Unreadable other) ↔ ((other ≡ code) × ((fault : MsgFault) × (read ≡ Err fault)))

-- a packet means what the table of replies reads from its code and data
abbrev pub MeansWhatItSays : Packet → Type 0
MeansWhatItSays p =
    let code = slice_index p.body 0 in
    MeansWhatIsRead code (reply_of code (drop 1 p.body)) (meaning_of p)
