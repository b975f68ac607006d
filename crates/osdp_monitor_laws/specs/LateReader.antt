-- A reader of any maker whose answers may come late, and somebody who listens: the panel and the reader keep the rules.
use Rattle.std.specs.Prelude.{◌≡◌, ◌≢◌, ◌⊎◌, ◌==◌, ◌&&◌, ◌||◌, ℕ, Bool, true, false, List, [], ◌∷◌, ◌++◌, Option, Some, None, option_to_list, if◌then◌else◌}
use Rattle.osdp_frame.specs.Packet.{Packet, next_sequence}
use Rattle.osdp_frame.specs.Reading.{PacketItem, SkippedItem}
use Rattle.osdp_monitor.specs.declared.accusation.Accusation.{Accusation}
use Rattle.osdp_monitor.specs.declared.found.Notice.TheVariants.{Late}
use Rattle.osdp_monitor.specs.Line.{Knowledge, after_item, found_in, moves_to, no_knowledge}
use Rattle.osdp_monitor.specs.Saying.{is_answer, is_foreign, said}
use Rattle.osdp_monitor_laws.specs.AnyReader.{AnyReader, Goes, Way}
use Rattle.osdp_monitor_laws.specs.Late.{HasItsNumber}
use Rattle.osdp_monitor_laws.specs.Misses.{IsTo}
use Rattle.osdp_monitor_laws.specs.ReaderLine.{accused_in}

-- an answer that hasn't come yet, and the packet that it answers
pub record Owed : Type 0 where
  pub packet : Packet
  pub reply : Packet

-- The reader, the packet that its panel sent it last, and whether an answer to that has come. The answers that haven't come yet: those to the packets before,
-- which are late, and those to the last one. And what the listener knows.
pub record LateLine : Type 0 where
  pub reader : AnyReader
  pub last : Option Packet
  pub answered : Bool
  pub older : List Owed
  pub owed : List Owed
  pub known : Knowledge

-- What may happen. The reader starts anew. The panel sends it another packet, or the last one once more: the listener reads that or doesn't, and the reader
-- does something with it, or hasn't heard it. Others speak. The answer that is due next comes. The listener skips a byte, or begins to listen.
pub data LateMove : Type 0 where
  Restart : AnyReader → LateMove
  Send : Packet → Bool → Way → Option Packet → AnyReader → LateMove
  Repeat : Packet → Bool → Way → Option Packet → AnyReader → LateMove
  Others : Packet → LateMove
  AnswerComes : LateMove
  Skip : ℕ → LateMove
  Forget : LateMove

abbrev pub new_line : AnyReader → LateLine
new_line r = record { reader = r; last = None; answered = false; older = []; owed = []; known = no_knowledge }

-- .. who misses a packet forgets everything
abbrev pub known_if : Bool → Packet → Knowledge → Knowledge
known_if read p known = if read then after_item known (PacketItem p) else no_knowledge

abbrev pub owed_of : Packet → Option Packet → List Owed
owed_of p None = []
owed_of p (Some q) = record { packet = p; reply = q } ∷ []

-- it answers the last packet: any reply with its number but BUSY, NAK 1 and NAK 4
abbrev pub has_number : Option Packet → ℕ → Bool
has_number None number = false
has_number (Some p) number = p.sequence == number

abbrev pub answers : Option Packet → Packet → Bool
answers last r = is_answer (said r) && has_number last r.sequence

abbrev pub comes : Packet → LateLine → LateLine
comes r l = record l { answered = l.answered || answers l.last r; known = after_item l.known (PacketItem r) }

-- answers come in the order of their packets
abbrev pub after_owed : List Owed → LateLine → LateLine
after_owed [] l = l
after_owed (w ∷ ws) l = record (comes w.reply l) { owed = ws }

abbrev pub after_answer : List Owed → LateLine → LateLine
after_answer [] l = after_owed l.owed l
after_answer (w ∷ ws) l = record (comes w.reply l) { older = ws }

abbrev pub after_move : LateMove → LateLine → LateLine
after_move (Restart s) l = record l { reader = s }
after_move (Send p read way o s) l =
    record { reader = s; last = Some p; answered = false; older = l.older ++ l.owed; owed = owed_of p o; known = known_if read p l.known }
after_move (Repeat p read way o s) l = record l { reader = s; owed = l.owed ++ owed_of p o; known = known_if read p l.known }
after_move (Others p) l = record l { known = after_item l.known (PacketItem p) }
after_move AnswerComes l = after_answer l.older l
after_move (Skip b) l = record l { known = after_item l.known (SkippedItem b) }
after_move Forget l = record l { known = no_knowledge }

abbrev pub after_moves : List LateMove → LateLine → LateLine
after_moves [] l = l
after_moves (move ∷ moves) l = after_moves moves (after_move move l)

-- number 0 at any time, or the next number once an answer to the last packet has come
abbrev pub IsNext : LateLine → Packet → Type 0
IsNext l p = (p.sequence ≡ 0) ⊎ ((l.answered ≡ true) × (last : Packet) × (l.last ≡ Some last) × (p.sequence ≡ next_sequence last.sequence))

-- what the reader does with the packet, by the rules; it stays at its address
pub record Hears (p : Packet) (way : Way) (o : Option Packet) (s : AnyReader) (l : LateLine) : Type 0 where
  pub to : IsTo l.reader.address p
  pub goes : Goes way l.reader p o s
  pub stays : s.address ≡ l.reader.address

-- An answer may come after copies of its packet, and after one other packet, where several with number 0 in a row count as one: when the panel sends a packet after one
-- with another number than 0, none is owed to a packet before that.
pub record MaySend (p : Packet) (way : Way) (o : Option Packet) (s : AnyReader) (l : LateLine) : Type 0 where
  pub hears : Hears p way o s l
  pub next : IsNext l p
  pub another : l.last ≢ Some p
  pub came : (last : Packet) → l.last ≡ Some last → last.sequence ≢ 0 → l.older ≡ []

abbrev pub IsAllowed : LateMove → LateLine → Type 0
IsAllowed (Restart s) l = (s.last ≡ None) × (s.address ≡ l.reader.address)
IsAllowed (Send p read way o s) l = MaySend p way o s l
IsAllowed (Repeat p read way o s) l = Hears p way o s l × (l.last ≡ Some p)
IsAllowed (Others p) l = p.address ≢ l.reader.address
IsAllowed AnswerComes l = Unit {0}
IsAllowed (Skip b) l = Unit {0}
IsAllowed Forget l = Unit {0}

abbrev pub AreAllowed : List LateMove → LateLine → Type 0
AreAllowed [] l = Unit {0}
AreAllowed (move ∷ moves) l = IsAllowed move l × AreAllowed moves (after_move move l)

-- the answer that comes next
abbrev pub first_of : List Owed → Option Packet
first_of [] = None
first_of (w ∷ ws) = Some w.reply

abbrev pub next_answer : List Owed → List Owed → Option Packet
next_answer [] owed = first_of owed
next_answer (w ∷ ws) owed = Some w.reply

-- all that the reader is accused of
abbrev pub accused_by : LateMove → LateLine → Option Accusation
accused_by AnswerComes l = accused_in (next_answer l.older l.owed) l.known
accused_by _ l = None

abbrev pub accusations : List LateMove → LateLine → List Accusation
accusations [] l = []
accusations (move ∷ moves) l = option_to_list (accused_by move l) ++ accusations moves (after_move move l)

-- However late its answers come, so far: it is accused of nothing.
abbrev pub AccusesNoLateReader : Type 0
AccusesNoLateReader = (r : AnyReader) (moves : List LateMove) → r.last ≡ None → AreAllowed moves (new_line r) → accusations moves (new_line r) ≡ []

-- And an answer that comes after the next packet, which has another number, is told as late by name, where the listener knows both packets.
abbrev pub TellsLateReaders : Type 0
TellsLateReaders = (r : AnyReader) (moves : List LateMove) (w : Owed) (rest : List Owed) (p : Packet) → r.last ≡ None → AreAllowed moves (new_line r)
    → let l = after_moves moves (new_line r) in
    let k = l.known.devices l.reader.address in
    l.older ≡ w ∷ rest → k.last ≡ Some p → k.settled ≡ true → p.sequence ≢ w.packet.sequence → l.reader.address ≢ 127
    → w.reply.address ≡ l.reader.address → w.reply.reply ≡ true → w.reply.sequence ≡ w.packet.sequence
    → HasItsNumber w.reply → is_foreign w.reply ≡ false → moves_to (Some p) w.reply ≡ None
    → (found_in l.known w.reply).notice ≡ Some Late
