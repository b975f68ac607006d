-- What a device comes to by all bytes of a call, where its user reads what is held until nothing more is said.
use Rattle.std.specs.Prelude.{◌≡◌, ℕ, ◌+◌, ◌*◌, ◌<◌, false, if◌then◌else◌, List, [], ◌∷◌, ◌++◌, length, drop}
use Rattle.osdp_frame.specs.Items.{items, left_over}
use Rattle.osdp_msg.specs.declared.command.Command.{Command}
use Rattle.osdp_reader.specs.declared.handler.Answer.{Answer}
use Rattle.osdp_reader.specs.State.{ReaderState}
use Rattle.osdp_frame.specs.Receiving.{Received, after_silence, after_take, after_tick, count_taken, ends_silent, seen}
use Rattle.osdp_device.specs.Saying.{Said}
use Rattle.osdp_device.specs.Telling.{after_items, after_all, items_of, said_to_all}

-- all that is said, and the reader and the line after it
pub record Heard (H : Type 0) : Type 0 where
  pub said : List Said
  pub reader : ReaderState H
  pub line : Received

-- how many turns of taking and reading these bytes need at most: one more where a run is over before them
abbrev pub turns_left : List ℕ → ℕ → Received → ℕ
turns_left bytes now l = 2 * length bytes + (if (ends_silent (seen now l)).held.ended then 1 else 0)

module _ {H : Type 0} (answer_of : H → Command → Answer) (after : H → Command → H) where
  -- all items that are held are read
  abbrev pub reads_all : ReaderState H → Received → Heard H
  reads_all r l = record {
    said = said_to_all answer_of after (items_of l.held) r;
    reader = after_items answer_of after (items_of l.held) r;
    line = record l { held = after_all l.held (items_of l.held) };
  }

  -- bytes of a run that goes on: the items that they decide are read
  abbrev pub reads_on : List ℕ → ReaderState H → Received → Heard H
  reads_on bytes r l = record {
    said = said_to_all answer_of after (items false (l.held.bytes ++ bytes)) r;
    reader = after_items answer_of after (items false (l.held.bytes ++ bytes)) r;
    line = record l { held = record { bytes = left_over (l.held.bytes ++ bytes); ended = false }; last = l.greatest };
  }

  -- one after the other
  abbrev pub then_reads : List ℕ → Heard H → Heard H
  then_reads bytes h = record (reads_on bytes h.reader h.line) { said = h.said ++ (reads_on bytes h.reader h.line).said }

  -- bytes at a moment: a run after which it was silent long enough is read to its end, then what the bytes decide
  abbrev pub hears_bytes : List ℕ → ℕ → ReaderState H → Received → Heard H
  hears_bytes [] now r l = reads_all r (seen now l)
  hears_bytes (byte ∷ bytes) now r l = then_reads (byte ∷ bytes) (reads_all r (ends_silent (seen now l)))

  -- no bytes up to a moment, and a silence
  abbrev pub hears_tick : ℕ → ReaderState H → Received → Heard H
  hears_tick now r l = reads_all r (after_tick now l)

  abbrev pub hears_silence : ℕ → ReaderState H → Received → Heard H
  hears_silence now r l = reads_all r (after_silence now l)

  -- what is said to bytes that come after something was heard
  abbrev pub then_hears : List ℕ → ℕ → Heard H → Heard H
  then_hears bytes now h =
      record (hears_bytes bytes now h.reader h.line) { said = h.said ++ (hears_bytes bytes now h.reader h.line).said }

  -- a user takes bytes and reads what is held; the bytes that weren't taken bring it to where all of them do
  abbrev pub TakesInTurn : List ℕ → ℕ → ReaderState H → Received → Type 0
  TakesInTurn bytes now r l =
      then_hears (drop (count_taken bytes now l) bytes) now (reads_all r (after_take bytes now l))
      ≡ hears_bytes bytes now r l

  -- and needs fewer turns than before
  abbrev pub NeedsFewerTurns : List ℕ → ℕ → ReaderState H → Received → Type 0
  NeedsFewerTurns bytes now r l =
      turns_left (drop (count_taken bytes now l) bytes) now (reads_all r (after_take bytes now l)).line
      < turns_left bytes now l
