-- What the table counts, said apart from it: how many packets of a kind there were.
use Rattle.std.specs.Prelude.{◌≡◌, ◌<◌, ◌-◌, ◌^◌, ℕ, min, Bool, true, false, ◌&&◌, ◌==◌, not, is_some, List, [], ◌∷◌, drop, filter, slice_index_or, count_by, Option, Some, Result, Ok}
use Rattle.osdp_frame.specs.Packet.{Packet}
use Rattle.osdp_frame.specs.Reading.{RunItem, PacketItem, SkippedItem, RefusedItem}
use Rattle.osdp_monitor.specs.declared.found.Found.{Found}
use Rattle.osdp_monitor.specs.declared.found.Notice.{Notice}
use Rattle.osdp_monitor.specs.declared.found.Notice.TheVariants.{Opened, Moved}
use Rattle.osdp_monitor.specs.Line.{Knowledge, after_item, copies_last, found_in, no_knowledge}
use Rattle.osdp_monitor.specs.Saying.{asked, reply_told}
use Rattle.osdp_msg.specs.declared.command.Command.{Command}
use Rattle.osdp_msg.specs.declared.command.Command.TheVariants.{Poll}
use Rattle.osdp_msg.specs.declared.fault.MsgFault.{MsgFault}
use Rattle.osdp_msg.specs.declared.reply.Reply.{Reply}
use Rattle.osdp_msg.specs.declared.reply.Reply.TheVariants.{Busy, Nak, Raw, Formatted, Keypad}
use Rattle.osdp_tool_monitor.specs.declared.counts.Counts.{Counts}
use Rattle.osdp_tool_monitor.specs.Counts.{no_counts}
use Rattle.osdp_tool_monitor.specs.Listening.{heard_items, nothing_heard}
use Rattle.osdp_tool_monitor.specs.Text.{told}

-- a packet, whether it is the last one to its address once more, and what is told of it
pub record Entry : Type 0 where
  pub packet : Packet
  pub copy : Bool
  pub found : Found

-- each packet among the items, in their order; `standard` where accusations by the profile alone are left out
unfoldable pub entries : Bool → Knowledge → List RunItem → List Entry
entries standard line [] = []
entries standard line (PacketItem p ∷ items) =
    record { packet = p; copy = copies_last line p; found = told standard (found_in line p) } ∷ entries standard (after_item line (PacketItem p)) items
entries standard line (SkippedItem b ∷ items) = entries standard (after_item line (SkippedItem b)) items
entries standard line (RefusedItem fault ∷ items) = entries standard (after_item line (RefusedItem fault)) items

-- ---- kinds of packets

abbrev pub is_poll : Result Command MsgFault → Bool
is_poll (Ok Poll) = true
is_poll _ = false

abbrev pub is_busy : Result Reply MsgFault → Bool
is_busy (Ok Busy) = true
is_busy _ = false

-- any NAK, whatever its reason
abbrev pub is_nak : Result Reply MsgFault → Bool
is_nak (Ok (Nak n)) = true
is_nak _ = false

-- a card or keys
abbrev pub is_event : Result Reply MsgFault → Bool
is_event (Ok (Raw r)) = true
is_event (Ok (Formatted f)) = true
is_event (Ok (Keypad k)) = true
is_event _ = false

abbrev pub is_opened : Option Notice → Bool
is_opened (Some Opened) = true
is_opened _ = false

abbrev pub is_moved : Option Notice → Bool
is_moved (Some (Moved address)) = true
is_moved _ = false

-- a packet to the device, and one from it
abbrev pub sent : Entry → Bool
sent e = not e.packet.reply

abbrev pub polled : Entry → Bool
polled e = not e.packet.reply && is_poll (asked e.packet)

abbrev pub repeated : Entry → Bool
repeated e = not e.packet.reply && e.copy

-- any reply but BUSY and NAK
abbrev pub answered : Entry → Bool
answered e = e.packet.reply && (not (is_busy (reply_told e.packet)) && not (is_nak (reply_told e.packet)))

abbrev pub busy : Entry → Bool
busy e = e.packet.reply && is_busy (reply_told e.packet)

abbrev pub refused : Entry → Bool
refused e = e.packet.reply && is_nak (reply_told e.packet)

abbrev pub brought : Entry → Bool
brought e = e.packet.reply && is_event (reply_told e.packet)

abbrev pub opened : Entry → Bool
opened e = e.packet.reply && is_opened e.found.notice

abbrev pub moved : Entry → Bool
moved e = e.packet.reply && is_moved e.found.notice

abbrev pub judged : Entry → Bool
judged e = e.found.judged

abbrev pub accused : Entry → Bool
accused e = is_some e.found.accusation

-- ---- how many of a kind

-- up to the greatest number of 64 bits, where a count stays
abbrev pub capped : ℕ → ℕ
capped n = min n (2 ^ 64 - 1)

abbrev pub how_many : (Entry → Bool) → List Entry → ℕ
how_many kind es = capped (count_by kind es)

-- .. of those to an address and from it
abbrev pub how_many_at : ℕ → (Entry → Bool) → List Entry → ℕ
how_many_at address kind es = how_many (λ e. (e.packet.address == address) && kind e) es

-- each column of an address's row
pub record IsCounted (address : ℕ) (c : Counts) (es : List Entry) : Type 0 where
  pub asked : c.asked ≡ how_many_at address sent es
  pub polls : c.polls ≡ how_many_at address polled es
  pub repeats : c.repeats ≡ how_many_at address repeated es
  pub answered_are : c.answered ≡ how_many_at address answered es
  pub busy_are : c.busy ≡ how_many_at address busy es
  pub nak : c.nak ≡ how_many_at address refused es
  pub events : c.events ≡ how_many_at address brought es
  pub opened_are : c.opened ≡ how_many_at address opened es
  pub moved_are : c.moved ≡ how_many_at address moved es
  pub judged_are : c.judged ≡ how_many_at address judged es
  pub accused_are : c.accused ≡ how_many_at address accused es

-- whatever was heard
abbrev pub CountsEachKind : Type 0
CountsEachKind = (standard : Bool) (items : List RunItem) (address : ℕ) → address < 128
    → IsCounted address (slice_index_or (heard_items (nothing_heard standard) items).counts address no_counts) (entries standard no_knowledge items)

-- the packets to an address that were not judged, but the first one that went there
abbrev pub CountsForgotten : Type 0
CountsForgotten = (standard : Bool) (items : List RunItem) (address : ℕ) → address < 128
    → (slice_index_or (heard_items (nothing_heard standard) items).counts address no_counts).forgot
    ≡ how_many (λ e. not (judged e)) (drop 1 (filter (λ e. (e.packet.address == address) && sent e) (entries standard no_knowledge items)))

-- and those of the whole line
abbrev pub CountsTheLine : Type 0
CountsTheLine = (standard : Bool) (items : List RunItem) →
    let heard = heard_items (nothing_heard standard) items in
    let es = entries standard no_knowledge items in
    (heard.judged ≡ how_many judged es) × (heard.accused ≡ how_many accused es)
