-- A device of our reader's table, and somebody who tests it over a line that keeps order and loses what it likes.
use Rattle.std.specs.Prelude.{◌≡◌, ◌⊎◌, ◌≤◌, List, [], ◌∷◌, length, Option, Some, None, IfSome}
use Rattle.osdp_frame.specs.Packet.{Packet}
use Rattle.osdp_msg.specs.ReplyTable.{ReplyFits}
use Rattle.osdp_msg.specs.declared.command.Command.{Command}
use Rattle.osdp_reader.specs.declared.handler.Answer.{Answer}
use Rattle.osdp_reader.specs.State.{ReaderState}
use Rattle.osdp_reader.specs.Table.{hears}
use Rattle.osdp_rules.specs.Runs.{Sent, heard}

-- bytes that hold no packet, and no answer
pub record IsNoise (y : Sent) : Type 0 where
  pub packet : y.packet ≡ None
  pub answers : y.answers ≡ []

-- what the line does with a packet and its answer
pub data Way : Type 0 where
  Comes : Way
  AnswerIsLost : Way
  PacketIsLost : Way

abbrev pub heard_by : Way → Option Packet → Option Packet
heard_by Comes answer = answer
heard_by AnswerIsLost answer = None
heard_by PacketIsLost answer = None

-- a packet that is sent, the reader that it meets, and what the line does
pub record Exchange (H : Type 0) : Type 0 where
  pub reader : ReaderState H
  pub packet : Packet
  pub way : Way

module _ {H : Type 0} where
  -- between two packets its device does with a reader what it likes: the last number, the stored reply and the address stay
  pub record IsStill (r s : ReaderState H) : Type 0 where
    pub last : s.last ≡ r.last
    pub stored : s.stored ≡ r.stored
    pub address : s.config.address ≡ r.config.address

  abbrev pub reader_by : Way → ReaderState H → ReaderState H → ReaderState H
  reader_by PacketIsLost before later = before
  reader_by Comes before later = later
  reader_by AnswerIsLost before later = later

  module _ (answer_of : H → Command → Answer) (after : H → Command → H) where
    abbrev pub heard_in : Exchange H → Option Packet
    heard_in x = heard_by x.way (hears answer_of after x.reader x.packet).reply

    abbrev pub reader_after : Exchange H → ReaderState H
    reader_after x = reader_by x.way x.reader (hears answer_of after x.reader x.packet).reader

    -- the exchanges of one reader in their order; the numbers of what it says anew are in the ranges of their fields, as all that it can send
    abbrev pub Follows : ReaderState H → List (Exchange H) → Type 0
    Follows r [] = Unit {0}
    Follows r (x ∷ xs) =
        IsStill r x.reader × IfSome (hears answer_of after x.reader x.packet).said ReplyFits × Follows (reader_after x) xs

    -- what went over the line at an exchange: its packet, and the answer that was heard, if any, once and within 200 ms
    pub record IsSaid (x : Exchange H) (y : Sent) : Type 0 where
      pub packet : y.packet ≡ Some x.packet
      pub answer : heard y ≡ heard_in x
      pub once : length y.answers ≤ 1
      pub in_time : y.delay ≤ 200

    -- these exchanges went over the line, and between them bytes that hold no packet, which no reader answers
    abbrev pub WereSaid : List (Exchange H) → List Sent → Type 0
    WereSaid xs [] = Unit {0}
    WereSaid [] (y ∷ ys) = IsNoise y × WereSaid [] ys
    WereSaid (x ∷ xs) (y ∷ ys) = (IsNoise y × WereSaid (x ∷ xs) ys) ⊎ (IsSaid x y × WereSaid xs ys)
