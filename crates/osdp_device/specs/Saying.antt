-- What a device says to what comes on its line.
use Rattle.std.specs.Prelude.{ℕ, Bool, true, false, List, [], Option, Some, None}
use Rattle.osdp_frame.specs.Packet.{Packet}
use Rattle.osdp_frame.specs.Reading.{RunItem, PacketItem, SkippedItem, RefusedItem}
use Rattle.osdp_frame.specs.Spelling.{spelling}
use Rattle.osdp_msg.specs.declared.command.Command.{Command}
use Rattle.osdp_msg.specs.declared.command.Command.TheVariants.{Poll}
use Rattle.osdp_reader.specs.declared.handler.Answer.{Answer}
use Rattle.osdp_reader.specs.declared.kind.Kind.{Kind}
use Rattle.osdp_reader.specs.declared.kind.Kind.TheVariants.{Silent, Zero, Taken}
use Rattle.osdp_reader.specs.State.{ReaderState}
use Rattle.osdp_reader.specs.Table.{hears, kind_of}

-- the line of the table that answered, the command that was acted on and could be read, and the bytes that are sent back
pub record Said : Type 0 where
  pub kind : Kind
  pub command : Option Command
  pub bytes : List ℕ

abbrev pub bytes_of : Option Packet → List ℕ
bytes_of None = []
bytes_of (Some p) = spelling p

-- a silent reader says nothing
abbrev pub unless_silent : Kind → Said → Option Said
unless_silent Silent said = None
unless_silent _ said = Some said

-- whether it says something
abbrev pub speaks : Kind → Bool
speaks Silent = false
speaks _ = true

-- every command but POLL, which asks for events alone
abbrev pub but_poll : Option Command → Option Command
but_poll (Some Poll) = None
but_poll command = command

-- the command that was taken: it came with a number that had its turn
abbrev pub taken_by : Kind → Option Command → Option Command
taken_by Taken command = but_poll command
taken_by _ command = None

-- the command that was acted on at number 0, where the same order may come again
abbrev pub again_by : Kind → Option Command → Option Command
again_by Zero command = but_poll command
again_by _ command = None

module _ {H : Type 0} where
  -- whether something is said to an item: to a packet that isn't for another device, or from one
  abbrev pub is_answered : ReaderState H → RunItem → Bool
  is_answered r (PacketItem p) = speaks (kind_of r p)
  is_answered r (SkippedItem byte) = false
  is_answered r (RefusedItem fault) = false

  -- whether there is an item, and something is said to it
  abbrev pub answers_first : ReaderState H → Option RunItem → Bool
  answers_first r None = false
  answers_first r (Some part) = is_answered r part

module _ {H : Type 0} (answer_of : H → Command → Answer) (after : H → Command → H) where
  -- what is said to a packet
  abbrev pub said_to : ReaderState H → Packet → Said
  said_to r p = record {
    kind = kind_of r p;
    command = (hears answer_of after r p).command;
    bytes = bytes_of (hears answer_of after r p).reply;
  }

  -- a byte that belongs to no packet is passed over
  abbrev pub said_of : RunItem → ReaderState H → Option Said
  said_of (PacketItem p) r = unless_silent (kind_of r p) (said_to r p)
  said_of (SkippedItem byte) r = None
  said_of (RefusedItem fault) r = None

  -- the reader after it
  abbrev pub after_item : RunItem → ReaderState H → ReaderState H
  after_item (PacketItem p) r = (hears answer_of after r p).reader
  after_item (SkippedItem byte) r = r
  after_item (RefusedItem fault) r = r
