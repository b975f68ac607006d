-- Each accusation of a panel by its name, and who is accused of what.
use Rattle.std.specs.Prelude.{◌≡◌, ◌≢◌, ◌↔◌, ℕ, Bool, true, false, List, ◌∷◌, Some}
use Rattle.osdp_frame.specs.Packet.{Packet, next_sequence}
use Rattle.osdp_frame.specs.Reading.{RunItem, PacketItem}
use Rattle.osdp_monitor.specs.declared.accusation.Accusation.{Accusation}
use Rattle.osdp_monitor.specs.declared.accusation.Accusation.TheVariants.{AnotherPacket, NotAnswered, SentOutOfTurn}
use Rattle.osdp_monitor.specs.declared.found.Notice.TheVariants.{Unsure}
use Rattle.osdp_monitor.specs.Line.{Knowledge, found_in}
use Rattle.osdp_monitor.specs.Saying.{is_foreign}
use Rattle.osdp_monitor_laws.specs.Misses.{Each, IsCopyOrReply, IsTo, LeavesUnanswered, NothingForgotten, accused_after, suspicion, told_after}

-- the next number, and nothing has answered the packet
abbrev pub IsDoubt : ℕ → Packet → List RunItem → Packet → Type 0
IsDoubt address p items q = (q.sequence ≡ next_sequence p.sequence) × Each address (LeavesUnanswered p) items

-- after a packet and what followed it, how the next packet to the address breaks the rule
abbrev pub PanelBreaks : Accusation → Knowledge → ℕ → Packet → List RunItem → Packet → Type 0
PanelBreaks AnotherPacket line address p items q = (q.sequence ≢ 0) × (q.sequence ≡ p.sequence) × (q ≢ p)
PanelBreaks NotAnswered line address p items q = IsDoubt address p items q × (suspicion line (PacketItem p ∷ items) address ≢ 0)
PanelBreaks SentOutOfTurn line address p items q = (q.sequence ≢ 0) × (q.sequence ≢ p.sequence) × (q.sequence ≢ next_sequence p.sequence)
PanelBreaks _ line address p items q = ⊥

-- after the first copy of a packet, and then copies and whatever replies, the next packet is accused by the name of the rule that it breaks, and of nothing else
abbrev pub NamesPanels : Type 0
NamesPanels = (line : Knowledge) (address : ℕ) (p : Packet) (items : List RunItem) (q : Packet) (accusation : Accusation)
    → IsTo address p → (line.devices address).last ≢ Some p
    → NothingForgotten address (PacketItem p ∷ items) line → Each address (IsCopyOrReply p) items
    → IsTo address q → is_foreign q ≡ false
    → (accused_after line (PacketItem p ∷ items) q ≡ Some accusation) ↔ PanelBreaks accusation line address p items q

-- And it is told that too little was heard exactly where it is the first doubt.
abbrev pub TellsFirstDoubts : Type 0
TellsFirstDoubts = (line : Knowledge) (address : ℕ) (p : Packet) (items : List RunItem) (q : Packet)
    → IsTo address p → (line.devices address).last ≢ Some p
    → NothingForgotten address (PacketItem p ∷ items) line → Each address (IsCopyOrReply p) items
    → IsTo address q → is_foreign q ≡ false
    → (told_after line (PacketItem p ∷ items) q ≡ Some Unsure) ↔ (IsDoubt address p items q × (suspicion line (PacketItem p ∷ items) address ≡ 0))

-- a rule of the panel, or one of the reader
abbrev pub is_readers : Accusation → Bool
is_readers AnotherPacket = false
is_readers NotAnswered = false
is_readers SentOutOfTurn = false
is_readers _ = true

-- Whoever sent the packet is accused, by a rule that is its own: a device for a reply, and else the panel. And only a packet that was judged is accused.
abbrev pub AccusesTheSender : Type 0
AccusesTheSender = (line : Knowledge) (p : Packet) (accusation : Accusation) → (found_in line p).accusation ≡ Some accusation
    → (is_readers accusation ≡ p.reply) × ((found_in line p).judged ≡ true)
