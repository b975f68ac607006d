-- A device that is asked for the next answer again and again.
use Rattle.std.specs.Prelude.{◌≡◌, List, [], ◌∷◌, ◌++◌, Option, Some, None}
use Rattle.osdp_frame.specs.Held.{Held, later}
use Rattle.osdp_frame.specs.Items.{items}
use Rattle.osdp_frame.specs.Reading.{RunItem}
use Rattle.osdp_msg.specs.declared.command.Command.{Command}
use Rattle.osdp_reader.specs.declared.handler.Answer.{Answer}
use Rattle.osdp_reader.specs.State.{ReaderState}
use Rattle.osdp_device.specs.Saying.{Said, after_item, said_of}

-- what is said, and the reader and what is held after it
pub record Told (H : Type 0) : Type 0 where
  pub said : Option Said
  pub reader : ReaderState H
  pub held : Held

-- the items that the held bytes decide
abbrev pub items_of : Held → List RunItem
items_of held = items held.ended held.bytes

-- what is held after all of these items
abbrev pub after_all : Held → List RunItem → Held
after_all held [] = held
after_all held (part ∷ parts) = after_all (later held part) parts

abbrev pub listed : Option Said → List Said
listed None = []
listed (Some said) = said ∷ []

module _ {H : Type 0} (answer_of : H → Command → Answer) (after : H → Command → H) where
  -- what is said is told at once; where nothing is, it goes on
  abbrev pub told_or : Option Said → ReaderState H → Held → Told H → Told H
  told_or (Some said) r held later = record { said = Some said; reader = r; held = held }
  told_or None r held later = later

  -- items are taken off in their order, up to and including the first to which something is said
  abbrev pub told_by : List RunItem → ReaderState H → Held → Told H
  told_by [] r held = record { said = None; reader = r; held = held }
  told_by (part ∷ parts) r held =
      told_or (said_of answer_of after part r) (after_item answer_of after part r) (later held part)
      (told_by parts (after_item answer_of after part r) (later held part))

  -- the same of all items that the held bytes decide
  abbrev pub next_told : ReaderState H → Held → Told H
  next_told r held = told_by (items_of held) r held

  -- the reader after all of these items
  abbrev pub after_items : List RunItem → ReaderState H → ReaderState H
  after_items [] r = r
  after_items (part ∷ parts) r = after_items parts (after_item answer_of after part r)

  -- all that is said to them, in their order
  abbrev pub said_to_all : List RunItem → ReaderState H → List Said
  said_to_all [] r = []
  said_to_all (part ∷ parts) r =
      listed (said_of answer_of after part r) ++ said_to_all parts (after_item answer_of after part r)

  -- what is said to the items held is what is told and then what is said to those left; the items left bring the reader and
  -- what is held to where all of them do; nothing is told only where none is left
  pub record TellsInTurn (r : ReaderState H) (held : Held) (told : Told H) : Type 0 where
    pub said : said_to_all (items_of held) r ≡ listed told.said ++ said_to_all (items_of told.held) told.reader
    pub reader : after_items (items_of held) r ≡ after_items (items_of told.held) told.reader
    pub left : after_all held (items_of held) ≡ after_all told.held (items_of told.held)
    pub all : told.said ≡ None → items_of told.held ≡ []
