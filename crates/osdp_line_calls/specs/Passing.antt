-- What is told of replies that a session passes over while it isn't open.
use Rattle.std.specs.Prelude.{ℕ, Bool, true, false, ◌&&◌, ◌==◌, max, List, [], ◌∷◌, ◌++◌, codes, drop, flat_map, replicate, slice_get, slice_index, slice_set, if◌then◌else◌, Option, Some, None, Result, Ok, Err}
use Rattle.std.specs.Fmt.{decimal}
use Rattle.std.specs.Option.{unwrap_or}
use Rattle.osdp_bus.specs.declared.entry.Entry.{Entry}
use Rattle.osdp_bus.specs.declared.fault.BusFault.{BusFault}
use Rattle.osdp_bus.specs.Entries.{first_from, is_at}
use Rattle.osdp_bus.specs.Machine.{changed_unless}
use Rattle.osdp_controller.specs.declared.report.Report.{Report}
use Rattle.osdp_controller.specs.declared.report.Report.TheVariants.{Opened, Moved, Lost}
use Rattle.osdp_frame.specs.Items.{items, left_over}
use Rattle.osdp_frame.specs.Packet.{Packet}
use Rattle.osdp_frame.specs.Reading.{RunItem, PacketItem, SkippedItem, RefusedItem}
use Rattle.osdp_frame.specs.Silence.{is_silent_for}
use Rattle.osdp_msg.specs.declared.fault.MsgFault.{MsgFault}
use Rattle.osdp_msg.specs.declared.nak.NakReason.{NakReason}
use Rattle.osdp_msg.specs.declared.nak.NakReason.TheVariants.{CheckCharacters, UnexpectedSequence}
use Rattle.osdp_msg.specs.declared.reply.Reply.{Reply}
use Rattle.osdp_msg.specs.declared.reply.Reply.TheVariants.{Busy, Nak, PdId}
use Rattle.osdp_msg.specs.ReplyTable.{reply_of}
use Rattle.osdp_msg.specs.ReplyText.{reply_text}
use Rattle.osdp_words.specs.Word.{bytes, printed}
use Rattle.osdp_line_calls.specs.PanelTexts.{code_text, entry_line}

-- ---- a packet

-- a NAK that an opening acts on: after NAK 1 the ID is sent again, and NAK 4 ends the session
abbrev pub acts_on_reason : NakReason → Bool
acts_on_reason CheckCharacters = true
acts_on_reason UnexpectedSequence = true
acts_on_reason _ = false

-- a reply that an opening acts on: PDID opens the session, and BUSY has it wait
abbrev pub acts_on : Reply → Bool
acts_on (PdId id) = true
acts_on Busy = true
acts_on (Nak nak) = acts_on_reason nak.reason
acts_on _ = false

-- an opening has number 0, and acts on no reply with another one
abbrev pub opening_acts_on : ℕ → Reply → Bool
opening_acts_on number reply = number == 0 && acts_on reply

-- what is told of a reply that is passed over, as it is read
abbrev pub passed_reading : ℕ → ℕ → Result Reply MsgFault → Option (List ℕ)
passed_reading number code (Ok reply) = if opening_acts_on number reply then None else Some (reply_text reply)
passed_reading number code (Err fault) = Some (code_text code)

-- the same of a packet of a reader; what has a security block is passed over whatever it says
abbrev pub passed_text : Packet → Option (List ℕ)
passed_text p =
    if p.block then Some (codes "block " ++ printed (bytes p.body))
    else passed_reading p.sequence (slice_index p.body 0) (reply_of (slice_index p.body 0) (drop 1 p.body))

-- a number that is none of an opening is told before what came with it
abbrev pub number_text : ℕ → List ℕ
number_text number = if number == 0 then [] else codes "seq " ++ (decimal number ++ codes " ")

abbrev pub passed_line : ℕ → ℕ → Option (List ℕ) → List ℕ
passed_line entry number None = []
passed_line entry number (Some text) = entry_line (codes "passed over") entry (number_text number ++ text)

-- ---- the sessions that are open

-- a session is open from the report `opened` on, until `lost` or `moved`
abbrev pub opened_told : Report → Option Bool
opened_told (Opened id) = Some true
opened_told (Moved command answered) = Some false
opened_told (Lost cause command) = Some false
opened_told _ = None

abbrev pub set_open : ℕ → Option Bool → List Bool → List Bool
set_open entry None opened = opened
set_open entry (Some is) opened = slice_set opened entry is

abbrev pub opened_by : Option (ℕ × Report) → List Bool → List Bool
opened_by None opened = opened
opened_by (Some (entry, report)) opened = set_open entry (opened_told report) opened

abbrev pub is_open : ℕ → List Bool → Bool
is_open entry opened = unwrap_or (slice_get opened entry) false

-- ---- what is heard

-- what is heard of the line beside the bus
pub record Listening : Type 0 where
  -- the bytes of the run that came last, as far as they belong to no item yet
  pub held : List ℕ
  -- after how long a silence a run is over, in milliseconds
  pub gap : ℕ
  -- the moment of the last bytes, and the greatest one seen
  pub last : ℕ
  pub greatest : ℕ
  -- of each entry whether its session is open, as it was told
  pub opened : List Bool

abbrev pub new_listening : ℕ → Listening
new_listening gap = record { held = []; gap = gap; last = 0; greatest = 0; opened = replicate 16 false }

-- a moment that lies before the greatest seen counts as that one, as with the bus
abbrev pub sees : ℕ → Listening → Listening
sees now l = record l { greatest = max l.greatest now }

-- a reply of a device is told where its session isn't open
abbrev pub passed_at : Packet → List Bool → Option ℕ → List ℕ
passed_at p opened None = []
passed_at p opened (Some entry) = if is_open entry opened then [] else passed_line entry p.sequence (passed_text p)

abbrev pub passed_item : List Entry → List Bool → RunItem → List ℕ
passed_item devices opened (PacketItem p) = if p.reply then passed_at p opened (first_from 0 (is_at p.address) devices) else []
passed_item devices opened (SkippedItem byte) = []
passed_item devices opened (RefusedItem fault) = []

-- the lines of items, one after the other
abbrev pub passed_items : List Entry → List Bool → List RunItem → List ℕ
passed_items devices opened parts = flat_map (passed_item devices opened) parts

-- the lines that something heard comes to, and what is known after it
pub record Overheard : Type 0 where
  pub text : List ℕ
  pub after : Listening

abbrev pub hears_nothing : Listening → Overheard
hears_nothing l = record { text = []; after = l }

-- a session that begins brings a moment; where it may not begin, it brings none
abbrev pub hears_begin : Option BusFault → ℕ → Listening → Overheard
hears_begin refusal now l = hears_nothing (changed_unless refusal l (sees now l))

-- the run is over: what is held of it is read to its end
abbrev pub hears_end : List Entry → Listening → Overheard
hears_end devices l = record { text = passed_items devices l.opened (items true l.held); after = record l { held = [] } }

-- a run after which the line was silent for the gap is over
abbrev pub hears_silence : List Entry → Listening → Overheard
hears_silence devices l = if is_silent_for l.gap l.last l.greatest then hears_end devices l else hears_nothing l

-- bytes of a run that goes on: the items that they decide are read
abbrev pub hears_run : List Entry → List ℕ → Listening → Overheard
hears_run devices list l = record {
  text = passed_items devices l.opened (items false (l.held ++ list));
  after = record l { held = left_over (l.held ++ list); last = l.greatest };
}

abbrev pub then_hears : Overheard → (Listening → Overheard) → Overheard
then_hears first more = let second = more first.after in record { text = first.text ++ second.text; after = second.after }

-- bytes at a moment; none bring the moment alone
abbrev pub hears_bytes : List Entry → List ℕ → ℕ → Listening → Overheard
hears_bytes devices [] now l = hears_nothing (sees now l)
hears_bytes devices (byte ∷ list) now l = then_hears (hears_silence devices (sees now l)) (hears_run devices (byte ∷ list))
