-- Each notice by its name: what a line holds of which it is told.
use Rattle.std.specs.Prelude.{◌≡◌, ◌≢◌, ◌↔◌, if◌then◌else◌, ℕ, false, List, [], ◌∷◌, ◌++◌, Option, Some, None, Ok}
use Rattle.osdp_frame.specs.Packet.{Packet, next_sequence}
use Rattle.osdp_frame.specs.Reading.{RunItem, PacketItem}
use Rattle.osdp_msg.specs.declared.reply.Reply.TheVariants.{Nak}
use Rattle.osdp_msg.specs.declared.reply_fields.Nak as nak
use Rattle.osdp_monitor.specs.declared.found.Notice.{Notice}
use Rattle.osdp_monitor.specs.declared.found.Notice.TheVariants.{Opened, Moved, Restarted, Unanswered, Unsure}
use Rattle.osdp_monitor.specs.declared.said.Said.TheVariants.{Damage, Refusal, Answer}
use Rattle.osdp_monitor.specs.Line.{Knowledge, after_items, found_in, moves_to}
use Rattle.osdp_monitor.specs.Panel.{is_first_doubt}
use Rattle.osdp_monitor.specs.Saying.{is_foreign, reply_told, said}
use Rattle.osdp_monitor_laws.specs.Late.{HasItsNumber, IsNone}
use Rattle.osdp_monitor_laws.specs.Misses.{Each, IsFrom, IsTo, NothingForgotten, told_after}
use Rattle.osdp_monitor_laws.specs.Names.{Exchange, Happens, items_of}

-- ---- a reply

-- a COM that moves the device, NAK 4 whatever its number, or an answer to number 0 that is no NAK
abbrev pub IsWorth : Notice → Packet → Packet → Type 0
IsWorth (Moved place) p r = moves_to (Some p) r ≡ Some place
IsWorth Restarted p r = (moves_to (Some p) r ≡ None) × (said r ≡ Refusal)
IsWorth Opened p r =
    (moves_to (Some p) r ≡ None) × (said r ≡ Answer) × ((n : nak.Nak) → reply_told r ≢ Ok (Nak n)) × (p.sequence ≡ 0) × (r.sequence ≡ 0)
IsWorth _ p r = ⊥

-- the first reply to a packet after one that was answered is told by what it is, and by nothing else
abbrev pub TellsReplies : Type 0
TellsReplies = (line : Knowledge) (address : ℕ) (e : Exchange) (r : Packet) (notice : Notice) → Happens address line e → IsFrom address r
    → is_foreign r ≡ false → (told_after line (items_of e) r ≡ Some notice) ↔ IsWorth notice e.last r

-- ---- a packet without a reply

-- A first doubt is told as one, in place of anything else. Law TellsFirstDoubts says when it is one.
abbrev pub or_doubt : Knowledge → ℕ → Packet → Option Notice → Option Notice
or_doubt line address q notice = if is_first_doubt (line.devices address).last (line.devices address) q then Some Unsure else notice

-- Where the last packet has no reply, that is told at the next packet to the device.
abbrev pub TellsUnanswered : Type 0
TellsUnanswered = (line : Knowledge) (address : ℕ) (e : Exchange) (q : Packet) → Happens address line e → IsTo address q → is_foreign q ≡ false
    → told_after line (items_of e) q ≡ or_doubt (after_items line (items_of e)) address q (Some Unanswered)

-- It is told once: where that packet has no reply either, the packet after it is told nothing of.
abbrev pub TellsUnansweredOnce : Type 0
TellsUnansweredOnce = (line : Knowledge) (address : ℕ) (e : Exchange) (p q : Packet) → Happens address line e → IsTo address p
    → NothingForgotten address (items_of e ++ PacketItem p ∷ []) line → IsTo address q → is_foreign q ≡ false
    → let all = items_of e ++ PacketItem p ∷ [] in told_after line all q ≡ or_doubt (after_items line all) address q None

-- And a packet that has had a reply but NAK 1 isn't told as unanswered.
abbrev pub TellsNoAnswered : Type 0
TellsNoAnswered = (line : Knowledge) (address : ℕ) (e : Exchange) (r q : Packet) → Happens address line e → IsFrom address r → said r ≢ Damage
    → NothingForgotten address (items_of e ++ PacketItem r ∷ []) line → IsTo address q → is_foreign q ≡ false
    → let all = items_of e ++ PacketItem r ∷ [] in told_after line all q ≡ or_doubt (after_items line all) address q None

-- ---- too little was heard

-- Nothing is known of the address, and a packet comes. A reply with another number may answer one before it: it is told so, and accused of nothing.
abbrev pub TellsTooLittle : Type 0
TellsTooLittle = (line : Knowledge) (address : ℕ) (p : Packet) (items : List RunItem) (r : Packet) → (line.devices address).last ≡ None → IsTo address p
    → NothingForgotten address (PacketItem p ∷ items) line → Each address IsNone items
    → IsFrom address r → is_foreign r ≡ false → HasItsNumber r → r.sequence ≢ p.sequence → moves_to (Some p) r ≡ None
    → let found = found_in (after_items line (PacketItem p ∷ items)) r in (found.accusation ≡ None) × (found.notice ≡ Some Unsure)

-- The last packet was answered. An answer with the next number answers a packet that wasn't heard: it is told so, and accused of nothing.
abbrev pub TellsUnheard : Type 0
TellsUnheard = (line : Knowledge) (address : ℕ) (e : Exchange) (r s : Packet) → Happens address line e
    → IsFrom address r → said r ≡ Answer → r.sequence ≡ e.last.sequence → NothingForgotten address (items_of e ++ PacketItem r ∷ []) line
    → IsFrom address s → is_foreign s ≡ false → said s ≡ Answer → s.sequence ≡ next_sequence e.last.sequence → moves_to (Some e.last) s ≡ None
    → let found = found_in (after_items line (items_of e ++ PacketItem r ∷ [])) s in (found.accusation ≡ None) × (found.notice ≡ Some Unsure)
