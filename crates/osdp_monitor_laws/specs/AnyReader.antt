-- A reader of any maker on two wires, which keeps the rules, and somebody who listens there.
use Rattle.std.specs.Prelude.{◌≡◌, ◌≢◌, ◌⊎◌, ℕ, Bool, true, false, List, [], ◌∷◌, ◌++◌, Option, Some, None, Ok, option_to_list}
use Rattle.osdp_frame.specs.Packet.{Packet, next_sequence}
use Rattle.osdp_frame.specs.Reading.{PacketItem, SkippedItem}
use Rattle.osdp_msg.specs.Fitting.{reply_fits}
use Rattle.osdp_msg.specs.declared.command.Command.{Command}
use Rattle.osdp_msg.specs.declared.command.Command.TheVariants.{Poll}
use Rattle.osdp_msg.specs.declared.reply.Reply.{Reply}
use Rattle.osdp_monitor.specs.declared.accusation.Accusation.{Accusation}
use Rattle.osdp_monitor.specs.declared.said.Said.TheVariants.{Busy, Damage, Refusal, Answer}
use Rattle.osdp_monitor.specs.Line.{Knowledge, after_item, no_knowledge}
use Rattle.osdp_monitor.specs.Reader.{is_plain}
use Rattle.osdp_monitor.specs.Saying.{asked, reply_told, said}
use Rattle.osdp_monitor_laws.specs.ReaderLine.{Reads, Both, ReaderAlone, ListenerAlone, accused_in, known_after}

-- where it is, the number that it took last, if any, and its reply to that
pub record AnyReader : Type 0 where
  pub address : ℕ
  pub last : Option ℕ
  pub stored : Option Packet

-- a packet is new to it: number 0, or the number after the last
abbrev pub IsNew : Option ℕ → Packet → Type 0
IsNew last p = (p.sequence ≡ 0) ⊎ ((m : ℕ) × (last ≡ Some m) × (p.sequence ≡ next_sequence m))

-- a reply from it to a packet, with the packet's check
pub record IsFromIt (address : ℕ) (p q : Packet) : Type 0 where
  pub reply : q.reply ≡ true
  pub address_is : q.address ≡ address
  pub check : q.check ≡ p.check

-- A packet that is acted on is answered by a reply with its number, which can be read and fits the command; a POLL at number 0 by no event.
pub record Answers (p q : Packet) : Type 0 where
  pub says : said q ≡ Answer
  pub number : q.sequence ≡ p.sequence
  pub told : Reply
  pub reads : reply_told q ≡ Ok told
  pub fits : (command : Command) → asked p ≡ Ok command → reply_fits command told ≡ true
  pub plain : asked p ≡ Ok Poll → p.sequence ≡ 0 → is_plain told ≡ true

-- what it does with a packet: the five rules, and silence
pub data Way : Type 0 where
  Acts : Way
  Repeats : Way
  IsBusy : Way
  FindsDamage : Way
  Refuses : Way
  IsSilent : Way

-- By each of these it answers so, and is this reader then. It has moved, or lost its number, where it has no last number.
abbrev pub Goes : Way → AnyReader → Packet → Option Packet → AnyReader → Type 0
Goes Acts r p (Some q) s =
    IsNew r.last p × IsFromIt r.address p q × Answers p q
    × ((s.last ≡ None) ⊎ ((s.address ≡ r.address) × (s.last ≡ Some p.sequence) × (s.stored ≡ Some q)))
Goes Repeats r p (Some q) s = (p.sequence ≢ 0) × (r.last ≡ Some p.sequence) × (r.stored ≡ Some q) × (s ≡ r)
Goes IsBusy r p (Some q) s =
    IsNew r.last p × IsFromIt r.address p q × (said q ≡ Busy) × ((q.sequence ≡ p.sequence) ⊎ (q.sequence ≡ 0)) × (s ≡ r)
Goes FindsDamage r p (Some q) s = IsFromIt r.address p q × (said q ≡ Damage) × (s ≡ r)
Goes Refuses r p (Some q) s =
    (p.sequence ≢ 0) × IsFromIt r.address p q × (said q ≡ Refusal) × (q.sequence ≡ p.sequence) × ((s.last ≡ None) ⊎ (s ≡ r))
Goes IsSilent r p None s = s ≡ r
Goes way r p o s = ⊥

-- the reader, its answer that is on its way, and what the listener knows
pub record AnyLine : Type 0 where
  pub reader : AnyReader
  pub answer : Option Packet
  pub known : Knowledge

-- What may happen. The reader starts anew, anywhere. Anybody else says a packet, and the reader does something with it. The answer comes, and the
-- listener reads it or doesn't. The listener skips a byte, or begins to listen.
pub data AnyMove : Type 0 where
  Restart : AnyReader → AnyMove
  Say : Packet → Reads → Way → Option Packet → AnyReader → AnyMove
  AnswerComes : Bool → AnyMove
  Skip : ℕ → AnyMove
  Forget : AnyMove

abbrev pub new_line : AnyReader → AnyLine
new_line r = record { reader = r; answer = None; known = no_knowledge }

abbrev pub after_said : Packet → Reads → Option Packet → AnyReader → AnyLine → AnyLine
after_said p Both o s l = record { reader = s; answer = o; known = after_item l.known (PacketItem p) }
after_said p ReaderAlone o s l = record { reader = s; answer = o; known = no_knowledge }
after_said p ListenerAlone o s l = record l { known = after_item l.known (PacketItem p) }

abbrev pub after_answer : Bool → AnyLine → AnyLine
after_answer true l = record l { answer = None; known = known_after l.answer l.known }
after_answer false l = record l { answer = None }

abbrev pub after_move : AnyMove → AnyLine → AnyLine
after_move (Restart s) l = record l { reader = s }
after_move (Say p reads way o s) l = after_said p reads o s l
after_move (AnswerComes read) l = after_answer read l
after_move (Skip b) l = record l { known = after_item l.known (SkippedItem b) }
after_move Forget l = record l { known = no_knowledge }

-- Two wires: nobody speaks while an answer is on its way, and no other device answers at the reader's address. A packet that isn't to the reader it passes
-- over. A reader that starts anew has no last number.
pub record MaySay (p : Packet) (way : Way) (o : Option Packet) (s : AnyReader) (l : AnyLine) : Type 0 where
  pub quiet : l.answer ≡ None
  pub another : p.reply ≡ true → p.address ≢ l.reader.address
  pub goes : Goes way l.reader p o s
  pub others : (p.reply ≡ true) ⊎ (p.address ≢ l.reader.address) → o ≡ None

abbrev pub IsAllowed : AnyMove → AnyLine → Type 0
IsAllowed (Restart s) l = s.last ≡ None
IsAllowed (Say p reads way o s) l = MaySay p way o s l
IsAllowed _ l = Unit {0}

abbrev pub AreAllowed : List AnyMove → AnyLine → Type 0
AreAllowed [] l = Unit {0}
AreAllowed (move ∷ moves) l = IsAllowed move l × AreAllowed moves (after_move move l)

-- all that the reader is accused of
abbrev pub accused_by : AnyMove → AnyLine → Option Accusation
accused_by (AnswerComes true) l = accused_in l.answer l.known
accused_by _ l = None

abbrev pub accusations : List AnyMove → AnyLine → List Accusation
accusations [] l = []
accusations (move ∷ moves) l = option_to_list (accused_by move l) ++ accusations moves (after_move move l)

-- whatever is said to it, and whatever it does by the rules: it is accused of nothing
abbrev pub AccusesNoReaderByTheRules : Type 0
AccusesNoReaderByTheRules = (r : AnyReader) (moves : List AnyMove) → r.last ≡ None → AreAllowed moves (new_line r) → accusations moves (new_line r) ≡ []
