-- Which moment is the greatest that a device has seen of its line after each call, and by which call an ended run is read. Moments are in milliseconds.
use Rattle.std.specs.Prelude.{◌≡◌, ◌+◌, ◌≤◌, ◌<◌, ℕ, false, max, List, ◌∷◌, ◌++◌}
use Rattle.osdp_frame.specs.Items.{items}
use Rattle.osdp_frame.specs.Held.{after_gap}
use Rattle.osdp_msg.specs.declared.command.Command.{Command}
use Rattle.osdp_reader.specs.declared.handler.Answer.{Answer}
use Rattle.osdp_reader.specs.State.{ReaderState}
use Rattle.osdp_device.specs.Hearing.{hears_bytes, hears_silence, hears_tick, reads_all}
use Rattle.osdp_frame.specs.Receiving.{Received}
use Rattle.osdp_device.specs.Saying.{Said}
use Rattle.osdp_device.specs.Telling.{after_items, items_of, said_to_all}

module _ {H : Type 0} (answer_of : H → Command → Answer) (after : H → Command → H) where
  -- each call leaves the greater one of its moment and the greatest seen; to read what is held moves none
  pub record MomentsAreSeen (r : ReaderState H) (l : Received) : Type 0 where
    pub bytes : (bytes : List ℕ) (now : ℕ) → (hears_bytes answer_of after bytes now r l).line.greatest ≡ max l.greatest now
    pub tick : (now : ℕ) → (hears_tick answer_of after now r l).line.greatest ≡ max l.greatest now
    pub silence : (now : ℕ) → (hears_silence answer_of after now r l).line.greatest ≡ max l.greatest now
    pub read : (reads_all answer_of after r l).line.greatest ≡ l.greatest

  -- what is said to what is held, read to the end of its run, or as far as the bytes decide
  abbrev pub said_at_the_end : ReaderState H → Received → List Said
  said_at_the_end r l = said_to_all answer_of after (items_of (after_gap l.held)) r

  abbrev pub said_so_far : ReaderState H → Received → List Said
  said_so_far r l = said_to_all answer_of after (items_of l.held) r

  -- the call that ends a run reads it
  pub record RunsAreReadAtTheirEnd (r : ReaderState H) (l : Received) : Type 0 where
    pub silence : (now : ℕ) → (hears_silence answer_of after now r l).said ≡ said_at_the_end r l
    pub tick : (now : ℕ) → l.last + l.gap ≤ max l.greatest now → (hears_tick answer_of after now r l).said ≡ said_at_the_end r l
    pub within : (now : ℕ) → max l.greatest now < l.last + l.gap → (hears_tick answer_of after now r l).said ≡ said_so_far r l
    -- and then what comes after it, as a run of its own
    pub bytes : (byte now : ℕ) (bytes : List ℕ) → l.last + l.gap ≤ max l.greatest now
        → (hears_bytes answer_of after (byte ∷ bytes) now r l).said
        ≡ said_at_the_end r l
        ++ said_to_all answer_of after (items false ((reads_all answer_of after r (record l { held = after_gap l.held })).line.held.bytes ++ byte ∷ bytes))
        (after_items answer_of after (items_of (after_gap l.held)) r)
