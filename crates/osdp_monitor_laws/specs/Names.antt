-- Each accusation by its name: what a line holds that is accused so, in other words than the rules.
use Rattle.std.specs.Prelude.{◌≡◌, ◌≢◌, ◌↔◌, ◌⊎◌, ℕ, true, false, List, [], ◌∷◌, ◌++◌, Some, Ok, Err}
use Rattle.osdp_frame.specs.Packet.{Packet, next_sequence}
use Rattle.osdp_frame.specs.Reading.{RunItem, PacketItem}
use Rattle.osdp_msg.specs.Fitting.{reply_fits}
use Rattle.osdp_msg.specs.declared.command.Command.{Command}
use Rattle.osdp_msg.specs.declared.command.Command.TheVariants.{Poll}
use Rattle.osdp_msg.specs.declared.fault.MsgFault.{MsgFault}
use Rattle.osdp_msg.specs.declared.reply.Reply.{Reply}
use Rattle.osdp_msg.specs.declared.reply.Reply.TheVariants.{Ack, Nak}
use Rattle.osdp_msg.specs.declared.reply_fields.Nak as nak
use Rattle.osdp_monitor.specs.declared.accusation.Accusation.{Accusation}
use Rattle.osdp_monitor.specs.declared.accusation.Accusation.TheVariants.{SentOutOfTurn, SecondReply, AnotherNumber, AnotherCheck, RefusedZero, TakenOutOfTurn, UnreadReply, UnfitReply, EventAtZero}
use Rattle.osdp_monitor.specs.declared.said.Said.TheVariants.{Busy, Damage, Refusal, Answer}
use Rattle.osdp_monitor.specs.Line.{Knowledge}
use Rattle.osdp_monitor.specs.Saying.{asked, is_foreign, reply_told, said}
use Rattle.osdp_monitor_laws.specs.Late.{IsNone}
use Rattle.osdp_monitor_laws.specs.Misses.{Each, IsCopyOrReply, IsFrom, IsTo, NothingForgotten, accused_after}

-- ---- a panel

-- after a packet and whatever replies and copies of it, one whose number is neither 0, nor the last, nor the next is accused
abbrev pub MissesNoPacketOutOfTurn : Type 0
MissesNoPacketOutOfTurn = (line : Knowledge) (address : ℕ) (p : Packet) (items : List RunItem) (q : Packet)
    → IsTo address p → NothingForgotten address (PacketItem p ∷ items) line → Each address (IsCopyOrReply p) items
    → IsTo address q → is_foreign q ≡ false
    → q.sequence ≢ 0 → q.sequence ≢ p.sequence → q.sequence ≢ next_sequence p.sequence
    → accused_after line (PacketItem p ∷ items) q ≡ Some SentOutOfTurn

-- ---- a reader

-- Two packets to a device, with different numbers. The second, whose number isn't 0, is answered by a reply with its number. Another packet follows, with
-- another number. Between them only other addresses speak.
pub record Exchange : Type 0 where
  pub first : Packet
  pub to_second : List RunItem
  pub second : Packet
  pub to_reply : List RunItem
  pub reply : Packet
  pub to_last : List RunItem
  pub last : Packet
  pub since : List RunItem

abbrev pub items_of : Exchange → List RunItem
items_of e =
    PacketItem e.first ∷ e.to_second ++ PacketItem e.second ∷ (e.to_reply ++ PacketItem e.reply ∷ (e.to_last ++ PacketItem e.last ∷ e.since))

pub record Happens (address : ℕ) (line : Knowledge) (e : Exchange) : Type 0 where
  pub first_to : IsTo address e.first
  pub second_to : IsTo address e.second
  pub reply_from : IsFrom address e.reply
  pub last_to : IsTo address e.last
  pub differ : e.first.sequence ≢ e.second.sequence
  pub above : e.second.sequence ≢ 0
  pub answers : said e.reply ≡ Answer
  pub number : e.reply.sequence ≡ e.second.sequence
  pub another : e.last.sequence ≢ e.second.sequence
  pub before_second : Each address IsNone e.to_second
  pub before_reply : Each address IsNone e.to_reply
  pub before_last : Each address IsNone e.to_last
  pub quiet : Each address IsNone e.since
  pub nothing : NothingForgotten address (items_of e) line

-- the packet's number is 0, or the one after that of the packet that was answered
abbrev pub IsInTurn : ℕ → Packet → Type 0
IsInTurn number p = (p.sequence ≡ 0) ⊎ (p.sequence ≡ next_sequence number)

-- a reply with the packet's number and its check, to a packet that is taken in turn
pub record IsTaken (number : ℕ) (p r : Packet) : Type 0 where
  pub says : said r ≡ Answer
  pub same : r.sequence ≡ p.sequence
  pub check : r.check ≡ p.check
  pub turn : IsInTurn number p

-- no ACK, and no NAK
pub record IsEvent (told : Reply) : Type 0 where
  pub no_ack : told ≢ Ack
  pub no_nak : (n : nak.Nak) → told ≢ Nak n

-- it has the packet's number; a BUSY may have number 0
abbrev pub FitsNumber : Packet → Packet → Type 0
FitsNumber p r = (r.sequence ≡ p.sequence) ⊎ ((said r ≡ Busy) × (r.sequence ≡ 0))

-- how a reply to the packet breaks the rule
abbrev pub Breaks : Accusation → ℕ → Packet → Packet → Type 0
Breaks AnotherNumber number p r = (said r ≢ Damage) × (r.sequence ≢ p.sequence) × (said r ≡ Busy → r.sequence ≢ 0)
Breaks AnotherCheck number p r = (said r ≢ Damage) × FitsNumber p r × (r.check ≢ p.check) × (said r ≡ Answer → IsInTurn number p)
Breaks RefusedZero number p r = (said r ≡ Refusal) × (p.sequence ≡ 0) × (r.sequence ≡ p.sequence) × (r.check ≡ p.check)
Breaks TakenOutOfTurn number p r =
    (said r ≡ Answer) × (r.sequence ≡ p.sequence) × (p.sequence ≢ 0) × (p.sequence ≢ next_sequence number)
Breaks UnreadReply number p r = IsTaken number p r × (fault : MsgFault) × (reply_told r ≡ Err fault)
Breaks UnfitReply number p r =
    IsTaken number p r × (command : Command) × (told : Reply) × (asked p ≡ Ok command) × (reply_told r ≡ Ok told) × (reply_fits command told ≡ false)
Breaks EventAtZero number p r =
    IsTaken number p r × (told : Reply) × (p.sequence ≡ 0) × (asked p ≡ Ok Poll) × (reply_told r ≡ Ok told) × (reply_fits Poll told ≡ true) × IsEvent told
Breaks _ number p r = ⊥

-- the first reply is accused by the name of the rule that it breaks, and of nothing else
abbrev pub NamesReaders : Type 0
NamesReaders = (line : Knowledge) (address : ℕ) (e : Exchange) (r : Packet) (accusation : Accusation)
    → Happens address line e → IsFrom address r → is_foreign r ≡ false
    → (accused_after line (items_of e) r ≡ Some accusation) ↔ Breaks accusation e.second.sequence e.last r

-- After a first reply, whatever it says but NAK 1, a second one is accused, but NAK 1 and an answer with the next number.
abbrev pub NamesSecondReplies : Type 0
NamesSecondReplies = (line : Knowledge) (address : ℕ) (e : Exchange) (r s : Packet)
    → Happens address line e → IsFrom address r → said r ≢ Damage → NothingForgotten address (items_of e ++ PacketItem r ∷ []) line
    → IsFrom address s → is_foreign s ≡ false → said s ≢ Damage → s.sequence ≢ next_sequence e.last.sequence
    → accused_after line (items_of e ++ PacketItem r ∷ []) s ≡ Some SecondReply
