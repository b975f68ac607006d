-- What the rules never miss, over the items that were read before.
use Rattle.std.specs.Prelude.{◌≡◌, ◌≢◌, ◌⊎◌, ◌<◌, ◌+◌, ℕ, true, false, All, List, [], ◌∷◌, ◌++◌, Option, Some, None}
use Rattle.osdp_frame.specs.declared.check_kind.CheckKind.TheVariants.{Sum}
use Rattle.osdp_frame.specs.Packet.{Packet, next_sequence}
use Rattle.osdp_frame.specs.Reading.{RunItem, PacketItem, SkippedItem, RefusedItem, smallest}
use Rattle.osdp_monitor.specs.declared.accusation.Accusation.{Accusation}
use Rattle.osdp_monitor.specs.declared.accusation.Accusation.TheVariants.{AnotherPacket, NotAnswered}
use Rattle.osdp_monitor.specs.declared.found.Notice.{Notice}
use Rattle.osdp_monitor.specs.declared.found.Notice.TheVariants.{Unsure}
use Rattle.osdp_monitor.specs.declared.said.Said.TheVariants.{Busy, Refusal, Answer}
use Rattle.osdp_monitor.specs.Line.{Knowledge, after_item, after_items, found_in, moves_to}
use Rattle.osdp_monitor.specs.Reader.{is_unheard}
use Rattle.osdp_monitor.specs.Saying.{is_foreign, said}

-- a packet to the device at an address, and one from it
abbrev pub IsTo : ℕ → Packet → Type 0
IsTo address p = (p.reply ≡ false) × (p.address ≡ address)

abbrev pub IsFrom : ℕ → Packet → Type 0
IsFrom address r = (r.reply ≡ true) × (r.address ≡ address)

-- Nothing is forgotten of an address: neither a refused item nor as many skipped bytes in a row as a packet may have, and no packet of 127.
-- What it says or is said there has no security block and a code that the tables have, and no COM that answers a COMSET tells that a device
-- has gone there, or away. No answer has the next number after the last packet was answered: then a packet was missed.
abbrev pub IsRemembered : ℕ → RunItem → Knowledge → Type 0
IsRemembered address (PacketItem p) line =
    (p.address ≢ 127) × (p.address ≡ address → is_foreign p ≡ false)
    × ((place : ℕ) → p.reply ≡ true → moves_to (line.devices p.address).last p ≡ Some place → (place ≢ address) × (p.address ≢ address))
    × ((last : Packet) → (line.devices address).last ≡ Some last → p.reply ≡ true → p.address ≡ address → is_unheard (line.devices address) last p ≡ false)
IsRemembered address (SkippedItem b) line = line.skipped + 1 < smallest Sum
IsRemembered address (RefusedItem fault) line = ⊥

-- .. by any of these items
abbrev pub NothingForgotten : ℕ → List RunItem → Knowledge → Type 0
NothingForgotten address [] line = Unit {0}
NothingForgotten address (part ∷ parts) line = IsRemembered address part line × NothingForgotten address parts (after_item line part)

-- what holds of the packets to an address and from it
abbrev pub OfAddress : ℕ → (Packet → Type 0) → RunItem → Type 0
OfAddress address P (PacketItem p) = p.address ≡ address → P p
OfAddress address P (SkippedItem b) = Unit {0}
OfAddress address P (RefusedItem fault) = Unit {0}

abbrev pub Each : ℕ → (Packet → Type 0) → List RunItem → Type 0
Each address P items = All (OfAddress address P) items

abbrev pub accused_after : Knowledge → List RunItem → Packet → Option Accusation
accused_after line items p = (found_in (after_items line items) p).accusation

abbrev pub told_after : Knowledge → List RunItem → Packet → Option Notice
told_after line items p = (found_in (after_items line items) p).notice

-- for how many more packets to the device its panel is suspected: specs/Suspicion says since when
abbrev pub suspicion : Knowledge → List RunItem → ℕ → ℕ
suspicion line items address = ((after_items line items).devices address).suspected

-- ---- another packet with the number of the last

-- the packet once more, or a reply
abbrev pub IsCopyOrReply : Packet → Packet → Type 0
IsCopyOrReply p x = (x ≡ p) ⊎ (x.reply ≡ true)

-- after a packet with a number other than 0 and whatever replies and copies of it, another packet with this number is accused
abbrev pub MissesNoOtherPacket : Type 0
MissesNoOtherPacket = (line : Knowledge) (address : ℕ) (p : Packet) (items : List RunItem) (q : Packet)
    → IsTo address p → p.sequence ≢ 0
    → NothingForgotten address (PacketItem p ∷ items) line → Each address (IsCopyOrReply p) items
    → IsTo address q → is_foreign q ≡ false → q.sequence ≡ p.sequence → q ≢ p
    → accused_after line (PacketItem p ∷ items) q ≡ Some AnotherPacket

-- ---- the next number, but the last packet was not answered

-- the packet once more, or a reply that doesn't answer it: with another number, or BUSY, NAK 1 or NAK 4
abbrev pub LeavesUnanswered : Packet → Packet → Type 0
LeavesUnanswered p x = (x ≡ p) ⊎ ((x.reply ≡ true) × ((x.sequence ≢ p.sequence) ⊎ (said x ≢ Answer)))

-- After the first copy of a packet, with no reply since that answers it, the next number is accused, where the panel is suspected. Else the listener may have
-- missed the answer: it tells that it has heard too little, and accuses nobody.
abbrev pub MissesNoUnanswered : Type 0
MissesNoUnanswered = (line : Knowledge) (address : ℕ) (p : Packet) (items : List RunItem) (q : Packet)
    → IsTo address p → (line.devices address).last ≢ Some p
    → NothingForgotten address (PacketItem p ∷ items) line → Each address (LeavesUnanswered p) items
    → IsTo address q → is_foreign q ≡ false → q.sequence ≡ next_sequence p.sequence
    → let all = PacketItem p ∷ items in
    (suspicion line all address ≢ 0 → accused_after line all q ≡ Some NotAnswered)
    × (suspicion line all address ≡ 0 → (accused_after line all q ≡ None) × (told_after line all q ≡ Some Unsure))

-- ---- a repeat that is answered by something else

-- a packet with this number, or a reply that takes none: BUSY, NAK 1 or NAK 4
abbrev pub TakesNothing : ℕ → Packet → Type 0
TakesNothing number x = ((x.reply ≡ false) × (x.sequence ≡ number)) ⊎ ((x.reply ≡ true) × (said x ≢ Answer))

-- a packet with this number, or any reply but NAK 4
abbrev pub RefusesNothing : ℕ → Packet → Type 0
RefusesNothing number x = ((x.reply ≡ false) × (x.sequence ≡ number)) ⊎ ((x.reply ≡ true) × (said x ≢ Refusal))

-- an answer with this number, or a BUSY with this number or 0
abbrev pub SaysOther : ℕ → Packet → Type 0
SaysOther number s = ((said s ≡ Answer) × (s.sequence ≡ number)) ⊎ ((said s ≡ Busy) × ((s.sequence ≡ number) ⊎ (s.sequence ≡ 0)))

-- A packet with a number other than 0, that is not known to be taken, is answered by a reply with its number. Then packets with this number
-- follow, copies or others, and whatever replies but NAK 4. Any other answer with this number to the last of them is accused, and so is a BUSY.
abbrev pub MissesNoOtherReply : Type 0
MissesNoOtherReply = (line : Knowledge) (address : ℕ) (p : Packet) (before : List RunItem) (r : Packet) (since : List RunItem) (s : Packet)
    → IsTo address p → p.sequence ≢ 0 → (line.devices address).taken ≢ Some p.sequence → Each address (TakesNothing p.sequence) before
    → IsFrom address r → said r ≡ Answer → r.sequence ≡ p.sequence → Each address (RefusesNothing p.sequence) since
    → NothingForgotten address (PacketItem p ∷ before ++ PacketItem r ∷ since) line
    → IsFrom address s → is_foreign s ≡ false → SaysOther p.sequence s → s ≢ r
    → (accusation : Accusation) × (accused_after line (PacketItem p ∷ before ++ PacketItem r ∷ since) s ≡ Some accusation)
