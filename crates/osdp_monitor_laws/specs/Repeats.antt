-- A packet that was answered is sent again: what its answer is accused of, by its name.
use Rattle.std.specs.Prelude.{◌≡◌, ◌≢◌, ◌↔◌, ℕ, false, List, ◌∷◌, ◌++◌, Some}
use Rattle.osdp_frame.specs.Packet.{Packet}
use Rattle.osdp_frame.specs.Reading.{RunItem, PacketItem}
use Rattle.osdp_monitor.specs.declared.accusation.Accusation.{Accusation}
use Rattle.osdp_monitor.specs.declared.accusation.Accusation.TheVariants.{AnotherCheck, BusyToRepeat, AnotherReply}
use Rattle.osdp_monitor.specs.declared.said.Said.TheVariants.{Busy, Answer}
use Rattle.osdp_monitor.specs.Line.{Knowledge}
use Rattle.osdp_monitor.specs.Saying.{is_foreign, said}
use Rattle.osdp_monitor_laws.specs.Late.{IsNone}
use Rattle.osdp_monitor_laws.specs.Misses.{Each, IsFrom, IsTo, NothingForgotten, RefusesNothing, SaysOther, TakesNothing, accused_after}

-- A packet, with a number other than 0 that is not known to be taken. Packets with this number and replies that take none follow, and then the reply that
-- takes it. Packets with this number and any replies but NAK 4 follow. At last comes a packet with this number, and nothing from the address since.
pub record Repeated : Type 0 where
  pub first : Packet
  pub before : List RunItem
  pub reply : Packet
  pub between : List RunItem
  pub again : Packet
  pub since : List RunItem

abbrev pub repeated_items : Repeated → List RunItem
repeated_items e = PacketItem e.first ∷ e.before ++ PacketItem e.reply ∷ (e.between ++ PacketItem e.again ∷ e.since)

pub record IsRepeated (address : ℕ) (line : Knowledge) (e : Repeated) : Type 0 where
  pub first_to : IsTo address e.first
  pub above : e.first.sequence ≢ 0
  pub untaken : (line.devices address).taken ≢ Some e.first.sequence
  pub before_reply : Each address (TakesNothing e.first.sequence) e.before
  pub reply_from : IsFrom address e.reply
  pub answers : said e.reply ≡ Answer
  pub number : e.reply.sequence ≡ e.first.sequence
  pub before_again : Each address (RefusesNothing e.first.sequence) e.between
  pub again_to : IsTo address e.again
  pub same : e.again.sequence ≡ e.first.sequence
  pub quiet : Each address IsNone e.since
  pub nothing : NothingForgotten address (repeated_items e) line

-- how an answer to the repeat breaks the rule
abbrev pub BreaksAgain : Accusation → Repeated → Packet → Type 0
BreaksAgain AnotherReply e s = (said s ≡ Answer) × (s ≢ e.reply)
BreaksAgain BusyToRepeat e s = (said s ≡ Busy) × (s.check ≡ e.again.check)
BreaksAgain AnotherCheck e s = (said s ≡ Busy) × (s.check ≢ e.again.check)
BreaksAgain _ e s = ⊥

-- The first reply with the packet's number, or a BUSY with number 0, is accused by the name of the rule that it breaks, and of nothing else.
abbrev pub NamesAnswersToRepeats : Type 0
NamesAnswersToRepeats = (line : Knowledge) (address : ℕ) (e : Repeated) (s : Packet) (accusation : Accusation)
    → IsRepeated address line e → IsFrom address s → is_foreign s ≡ false → SaysOther e.first.sequence s
    → (accused_after line (repeated_items e) s ≡ Some accusation) ↔ BreaksAgain accusation e s
