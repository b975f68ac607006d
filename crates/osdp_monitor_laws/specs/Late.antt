-- Answers that come later than their panel waits.
use Rattle.std.specs.Prelude.{◌≡◌, ◌≢◌, ◌⊎◌, ℕ, true, false, List, [], ◌∷◌, ◌++◌, Some, None}
use Rattle.osdp_frame.specs.Packet.{Packet}
use Rattle.osdp_frame.specs.Reading.{RunItem, PacketItem}
use Rattle.osdp_monitor.specs.declared.found.Notice.TheVariants.{Late}
use Rattle.osdp_monitor.specs.declared.said.Said.TheVariants.{Busy, Refusal, Answer}
use Rattle.osdp_monitor.specs.Line.{Knowledge, after_items, found_in, moves_to}
use Rattle.osdp_monitor.specs.Saying.{is_foreign, said}
use Rattle.osdp_monitor_laws.specs.Misses.{Each, IsCopyOrReply, IsFrom, IsTo, NothingForgotten}

-- no packet
abbrev pub IsNone : Packet → Type 0
IsNone x = ⊥

-- the packet once more, or a reply with another number
abbrev pub IsCopyOrOther : Packet → Packet → Type 0
IsCopyOrOther q x = (x ≡ q) ⊎ ((x.reply ≡ true) × (x.sequence ≢ q.sequence))

-- it has the number of the packet that it answers: any reply but NAK 1, and a BUSY with number 0
abbrev pub HasItsNumber : Packet → Type 0
HasItsNumber r = (said r ≡ Answer) ⊎ (said r ≡ Refusal) ⊎ ((said r ≡ Busy) × (r.sequence ≢ 0))

-- A packet is sent, and once more before anything has come back. Copies of it and replies follow, and then another packet, with another number. Until
-- a reply with that number comes, each reply with the first packet's number is told as late, and its reader is accused of nothing.
abbrev pub TellsLateAnswers : Type 0
TellsLateAnswers = (line : Knowledge) (address : ℕ) (p : Packet) (between since : List RunItem) (q : Packet) (after : List RunItem) (r : Packet)
    → IsTo address p → Each address IsNone between → Each address (IsCopyOrReply p) since
    → IsTo address q → q.sequence ≢ p.sequence → Each address (IsCopyOrOther q) after
    → NothingForgotten address (PacketItem p ∷ between ++ PacketItem p ∷ (since ++ PacketItem q ∷ after)) line
    → IsFrom address r → is_foreign r ≡ false → HasItsNumber r → r.sequence ≡ p.sequence → moves_to (Some q) r ≡ None
    → let found = found_in (after_items line (PacketItem p ∷ between ++ PacketItem p ∷ (since ++ PacketItem q ∷ after))) r in
    (found.accusation ≡ None) × (found.notice ≡ Some Late)

-- The same line, and a BUSY with number 0 in place of that reply: nobody can tell whether it answers the first packet or the second. All that is known of the
-- address stays as it is.
abbrev pub LeavesStrayBusy : Type 0
LeavesStrayBusy = (line : Knowledge) (address : ℕ) (p : Packet) (between since : List RunItem) (q : Packet) (after : List RunItem) (r : Packet)
    → IsTo address p → Each address IsNone between → Each address (IsCopyOrReply p) since
    → IsTo address q → q.sequence ≢ p.sequence → Each address (IsCopyOrOther q) after
    → let items = PacketItem p ∷ between ++ PacketItem p ∷ (since ++ PacketItem q ∷ after) in
    NothingForgotten address (items ++ PacketItem r ∷ []) line → IsFrom address r → said r ≡ Busy → r.sequence ≡ 0
    → (after_items line (items ++ PacketItem r ∷ [])).devices address ≡ (after_items line items).devices address
