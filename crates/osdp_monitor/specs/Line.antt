-- The rules over a whole line: what is known after each item, and what is found in it.
use Rattle.std.specs.Prelude.{ℕ, ◌==◌, ◌+◌, Bool, true, false, ◌&&◌, ◌||◌, not, is_some, nat_lt, if◌then◌else◌, List, [], ◌∷◌, Option, None, Some}
use Rattle.osdp_frame.specs.Packet.{Packet}
use Rattle.osdp_frame.specs.declared.check_kind.CheckKind.TheVariants.{Sum}
use Rattle.osdp_frame.specs.Reading.{RunItem, PacketItem, SkippedItem, RefusedItem, smallest}
use Rattle.osdp_monitor.specs.declared.accusation.Accusation.{Accusation}
use Rattle.osdp_monitor.specs.declared.accusation.Accusation.TheVariants.{AnotherPacket, AnotherReply}
use Rattle.osdp_monitor.specs.declared.found.Found.{Found}
use Rattle.osdp_monitor.specs.declared.found.Notice.{Notice}
use Rattle.osdp_monitor.specs.declared.found.Notice.TheVariants.{Opened, Moved, Restarted, Unanswered, Late, Unsure}
use Rattle.osdp_monitor.specs.Known.{Known, nothing_known}
use Rattle.osdp_monitor.specs.Panel.{after_sent, is_first_doubt, is_missed, panel_accused}
use Rattle.osdp_monitor.specs.Reader.{after_reply, is_doubtful, is_late, is_one_more, is_opening, is_owed, is_unheard, reader_accused}
use Rattle.osdp_monitor.specs.Saying.{asked, is_damage, is_foreign, is_refusal, moved_by, reply_told, said}
use Rattle.osdp_rules.specs.Packets.{same_packet}

-- what is known of each address, and how many bytes in a row were no packet: fewer than the smallest packet has
pub record Knowledge : Type 0 where
  pub devices : ℕ → Known
  pub skipped : ℕ

-- a listener begins so, at any moment
abbrev pub no_knowledge : Knowledge
no_knowledge = record { devices = λ address. nothing_known; skipped = 0 }

-- this is known of an address, and the same as before of all others
abbrev pub known_at : ℕ → Known → (ℕ → Known) → ℕ → Known
known_at address k devices other = if other == address then k else devices other

abbrev pub forgotten_at : Option ℕ → (ℕ → Known) → ℕ → Known
forgotten_at None devices = devices
forgotten_at (Some address) devices = known_at address nothing_known devices

-- ---- what is known after a packet

-- after a COM that moves a device nothing is known of its new address, nor of its old one
abbrev pub after_answered : Option ℕ → ℕ → Known → (ℕ → Known) → ℕ → Known
after_answered None address k devices = known_at address k devices
after_answered (Some moved) address k devices = forgotten_at (Some moved) (known_at address nothing_known devices)

-- a reply belongs to the last packet to its address, where that is known
abbrev pub moves_to : Option Packet → Packet → Option ℕ
moves_to None r = None
moves_to (Some p) r = moved_by (asked p) (reply_told r) r.address

abbrev pub after_reply_if : Option Packet → Known → Packet → Known
after_reply_if None k r = k
after_reply_if (Some p) k r = after_reply k p r

abbrev pub devices_after_reply : Packet → (ℕ → Known) → ℕ → Known
devices_after_reply r devices =
    let k = devices r.address in
    after_answered (moves_to k.last r) r.address (after_reply_if k.last k r) devices

abbrev pub devices_after_sent : Packet → (ℕ → Known) → ℕ → Known
devices_after_sent p devices =
    known_at p.address (after_sent (devices p.address).last (devices p.address) p) devices

-- each device hears 127, and may answer there: nothing is known any more
abbrev pub devices_after : Packet → (ℕ → Known) → ℕ → Known
devices_after p devices =
    if p.address == 127 then no_knowledge.devices
    else if is_foreign p then known_at p.address nothing_known devices
    else if p.reply then devices_after_reply p devices
    else devices_after_sent p devices

abbrev pub after_packet : Knowledge → Packet → Knowledge
after_packet line p = record { devices = devices_after p line.devices; skipped = 0 }

-- as many bytes as a packet may have were none: one may be among them
abbrev pub after_skipped : Knowledge → Knowledge
after_skipped line =
    if nat_lt (line.skipped + 1) (smallest Sum) then record line { skipped = line.skipped + 1 } else no_knowledge

abbrev pub after_item : Knowledge → RunItem → Knowledge
after_item line (PacketItem p) = after_packet line p
after_item line (SkippedItem b) = after_skipped line
after_item line (RefusedItem fault) = no_knowledge

-- after items, one after the other, of however many runs
unfoldable pub after_items : Knowledge → List RunItem → Knowledge
after_items line [] = line
after_items line (part ∷ parts) = after_items (after_item line part) parts

-- ---- what is found in a packet

abbrev pub nothing_found : Found
nothing_found = record { accusation = None; notice = None; judged = false }

-- .. in a packet that was judged
abbrev pub nothing_wrong : Found
nothing_wrong = record { accusation = None; notice = None; judged = true }

abbrev pub notice_if : Bool → Notice → Option Notice
notice_if test notice = if test then Some notice else None

-- where a first doubt comes, too little was heard
abbrev pub notice_in_sent : Option Packet → Known → Packet → Option Notice
notice_in_sent last k p = if is_first_doubt last k p then Some Unsure else notice_if (is_missed last k) Unanswered

-- .. and the packet isn't judged
abbrev pub is_sent_judged : Option Packet → Known → Packet → Bool
is_sent_judged last k p = is_some last && not (is_first_doubt last k p)

abbrev pub found_in_sent : Known → Packet → Found
found_in_sent k p =
    record { accusation = panel_accused k.last k p; notice = notice_in_sent k.last k p; judged = is_sent_judged k.last k p }

-- a reply comes late; but of what came before the first packet nothing is known
abbrev pub late_notice : Known → Notice
late_notice k = if k.settled then Late else Unsure

abbrev pub reply_notice : Option ℕ → Known → Packet → Packet → Option Notice
reply_notice (Some moved) k p r = Some (Moved moved)
reply_notice None k p r =
    if is_late k p r then Some (late_notice k)
    else if is_unheard k p r then Some Unsure
    else if is_refusal (said r) then Some Restarted
    else if is_opening k p r then Some Opened
    else notice_if (is_one_more k r && is_owed k) (late_notice k)

-- what is in doubt isn't judged, nor is NAK 1
abbrev pub is_reply_judged : Known → Packet → Packet → Bool
is_reply_judged k p r = not (is_doubtful k p r) && not (is_damage (said r))

abbrev pub found_in_reply : Option Packet → Known → Packet → Found
found_in_reply None k r = nothing_found
found_in_reply (Some p) k r =
    record { accusation = reader_accused k p r; notice = reply_notice (moves_to (Some p) r) k p r; judged = is_reply_judged k p r }

abbrev pub found_in : Knowledge → Packet → Found
found_in line p =
    let k = line.devices p.address in
    if p.address == 127 || is_foreign p then nothing_found
    else if p.reply then found_in_reply k.last k p
    else found_in_sent k p

-- the packet that had to come in place of the one that is accused, where only one may
abbrev pub expected_by : Known → Accusation → Option Packet
expected_by k AnotherPacket = k.last
expected_by k AnotherReply = k.stored
expected_by k _ = None

abbrev pub expected_if : Known → Option Accusation → Option Packet
expected_if k None = None
expected_if k (Some accusation) = expected_by k accusation

abbrev pub expected_in : Knowledge → Packet → Option Packet
expected_in line p = expected_if (line.devices p.address) (found_in line p).accusation

-- a packet to a device that is the last one once more
abbrev pub is_last : Option Packet → Packet → Bool
is_last None p = false
is_last (Some last) p = same_packet last p

abbrev pub copies_last : Knowledge → Packet → Bool
copies_last line p = is_last (line.devices p.address).last p
