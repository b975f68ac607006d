-- What is counted for the diagnoses alone, said apart from it: of an address, how many packets of a kind, or packets with damage.
use Rattle.std.specs.Prelude.{◌≡◌, ◌<◌, ◌+◌, ℕ, Bool, true, false, ◌&&◌, ◌||◌, ◌==◌, not, nat_le, nat_lt, if◌then◌else◌, List, [], ◌∷◌, ◌++◌, slice_index_or, count_by, Option, Some, Result, Ok}
use Rattle.osdp_frame.specs.declared.check_kind.CheckKind.TheVariants.{Sum}
use Rattle.osdp_frame.specs.Packet.{Packet}
use Rattle.osdp_frame.specs.Reading.{RunItem, PacketItem, SkippedItem, RefusedItem, smallest}
use Rattle.osdp_monitor.specs.declared.accusation.Accusation.{Accusation}
use Rattle.osdp_monitor.specs.declared.accusation.Accusation.TheVariants.{SecondReply}
use Rattle.osdp_monitor.specs.declared.found.Notice.{Notice}
use Rattle.osdp_monitor.specs.declared.found.Notice.TheVariants.{Restarted}
use Rattle.osdp_monitor.specs.Line.{no_knowledge}
use Rattle.osdp_monitor.specs.Saying.{reply_told}
use Rattle.osdp_msg.specs.declared.fault.MsgFault.{MsgFault}
use Rattle.osdp_msg.specs.declared.nak.NakReason.{NakReason}
use Rattle.osdp_msg.specs.declared.nak.NakReason.TheVariants.{SecurityConditions}
use Rattle.osdp_msg.specs.declared.reply.Reply.{Reply}
use Rattle.osdp_msg.specs.declared.reply.Reply.TheVariants.{Nak, Com}
use Rattle.osdp_tool_show.specs.Told.{is_skipped}
use Rattle.osdp_tool_monitor.specs.declared.counts.Counts.{Counts}
use Rattle.osdp_tool_monitor.specs.Counts.{no_counts}
use Rattle.osdp_tool_monitor.specs.Listening.{heard_items, nothing_heard}
use Rattle.osdp_tool_monitor_laws.specs.Counting.{Entry, answered, busy, capped, entries, how_many_at, refused, repeated, sent}

-- ---- kinds of packets

abbrev pub is_restarted : Option Notice → Bool
is_restarted (Some Restarted) = true
is_restarted _ = false

abbrev pub is_second : Option Accusation → Bool
is_second (Some SecondReply) = true
is_second _ = false

abbrev pub is_channel : NakReason → Bool
is_channel SecurityConditions = true
is_channel _ = false

abbrev pub demands_channel : Result Reply MsgFault → Bool
demands_channel (Ok (Nak n)) = is_channel n.reason
demands_channel _ = false

-- a reply, whatever it says
abbrev pub replied : Entry → Bool
replied e = e.packet.reply

-- a reply that is told as a restart
abbrev pub restarted : Entry → Bool
restarted e = e.packet.reply && is_restarted e.found.notice

-- one that is accused as a second reply
abbrev pub doubled : Entry → Bool
doubled e = e.packet.reply && is_second e.found.accusation

-- a NAK that demands Secure Channel
abbrev pub demanded : Entry → Bool
demanded e = e.packet.reply && demands_channel (reply_told e.packet)

-- a packet to the device or from it, with a security block
abbrev pub secured : Entry → Bool
secured e = e.packet.block

-- ---- copies of a packet that was answered

-- each packet, and those before it, the latest first
unfoldable pub with_earlier : List Entry → List Entry → List (Entry × List Entry)
with_earlier earlier [] = []
with_earlier earlier (e ∷ es) = (e, earlier) ∷ with_earlier (e ∷ earlier) es

-- of those before it the ones up to the last packet to the device that is no copy
unfoldable pub since_new : ℕ → List Entry → List Entry
since_new address [] = []
since_new address (e ∷ earlier) = if e.packet.address == address && (sent e && not e.copy) then [] else e ∷ since_new address earlier

-- an answer is among them
abbrev pub was_answered : ℕ → List Entry → Bool
was_answered address earlier = nat_lt 0 (count_by (λ e. (e.packet.address == address) && answered e) (since_new address earlier))

-- a copy, though an answer has come since the packet was sent first
abbrev pub is_needless : ℕ → Entry × List Entry → Bool
is_needless address x = (x.0.packet.address == address) && (repeated x.0 && was_answered address x.1)

-- ---- damage

abbrev pub is_bad : RunItem → Bool
is_bad (RefusedItem fault) = true
is_bad (PacketItem p) = false
is_bad (SkippedItem b) = false

-- something refused, or as many skipped bytes as the smallest packet has
abbrev pub is_damage : List RunItem → Bool
is_damage items = nat_le (smallest Sum) (count_by is_skipped items) || nat_lt 0 (count_by is_bad items)

-- what stands up to the next packet
unfoldable pub up_to_packet : List RunItem → List RunItem
up_to_packet [] = []
up_to_packet (PacketItem p ∷ items) = []
up_to_packet (SkippedItem b ∷ items) = SkippedItem b ∷ up_to_packet items
up_to_packet (RefusedItem fault ∷ items) = RefusedItem fault ∷ up_to_packet items

-- each packet, and what stands between it and the next one
unfoldable pub with_next : List RunItem → List (Packet × List RunItem)
with_next [] = []
with_next (PacketItem p ∷ items) = (p, up_to_packet items) ∷ with_next items
with_next (SkippedItem b ∷ items) = with_next items
with_next (RefusedItem fault ∷ items) = with_next items

-- each packet, and what stands between the one before and it, the last item first; this stands there already
unfoldable pub with_last : List RunItem → List RunItem → List (Packet × List RunItem)
with_last between [] = []
with_last between (PacketItem p ∷ items) = (p, between) ∷ with_last [] items
with_last between (SkippedItem b ∷ items) = with_last (SkippedItem b ∷ between) items
with_last between (RefusedItem fault ∷ items) = with_last (RefusedItem fault ∷ between) items

-- a packet to the device, with damage after it
abbrev pub is_hit : ℕ → Packet × List RunItem → Bool
is_hit address x = (not x.0.reply && (x.0.address == address)) && is_damage x.1

-- a packet to the device or from it, with no damage before it
abbrev pub is_whole : ℕ → Packet × List RunItem → Bool
is_whole address x = (x.0.address == address) && not (is_damage x.1)

-- ---- the rate

abbrev pub named_rate : Result Reply MsgFault → List ℕ
named_rate (Ok (Com named)) = named.baud_rate ∷ []
named_rate _ = []

-- those that the COMs from an address name, one after the other
unfoldable pub rates : ℕ → List RunItem → List ℕ
rates address [] = []
rates address (PacketItem p ∷ items) = (if (p.address == address) && p.reply then named_rate (reply_told p) else []) ++ rates address items
rates address (SkippedItem b ∷ items) = rates address items
rates address (RefusedItem fault ∷ items) = rates address items

-- the last of them, or this where there is none
unfoldable pub last_or : ℕ → List ℕ → ℕ
last_or none [] = none
last_or none (x ∷ xs) = last_or x xs

-- ---- what each count has

pub record IsCountedToo (address : ℕ) (c : Counts) (es : List Entry) (items : List RunItem) : Type 0 where
  pub restarts : c.restarted ≡ how_many_at address restarted es
  pub seconds : c.seconds ≡ how_many_at address doubled es
  pub demands : c.demands ≡ how_many_at address demanded es
  pub secured_are : c.secured ≡ how_many_at address secured es
  pub needless : c.needless ≡ capped (count_by (is_needless address) (with_earlier [] es))
  pub damaged : c.damaged ≡ capped (count_by (is_hit address) (with_next items))
  pub clean : c.clean ≡ capped (count_by (is_whole address) (with_last [] items))
  pub rate : c.rate ≡ last_or 0 (rates address items)

-- whatever was heard
abbrev pub CountsFaults : Type 0
CountsFaults = (standard : Bool) (items : List RunItem) (address : ℕ) → address < 128
    → IsCountedToo address (slice_index_or (heard_items (nothing_heard standard) items).counts address no_counts) (entries standard no_knowledge items) items

-- how many of these packets came to the address or from it
abbrev pub so_many : ℕ → (Entry → Bool) → List Entry → ℕ
so_many address kind es = count_by (λ e. (e.packet.address == address) && kind e) es

-- each reply is one of three: an answer, BUSY, or a NAK
abbrev pub CountsRepliesOnce : Type 0
CountsRepliesOnce = (address : ℕ) (es : List Entry) →
    (so_many address answered es + so_many address busy es) + so_many address refused es ≡ so_many address replied es
