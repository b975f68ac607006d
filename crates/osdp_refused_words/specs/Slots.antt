-- What one word of a text may be, and texts of a word for each slot.
use Rattle.std.specs.Prelude.{ℕ, ◌<◌, ◌≤◌, ◌^◌, List, [], ◌∷◌, length, map}
use Rattle.std.specs.List.{AllByRecursion}
use Rattle.hex.specs.Hex.{IsBytes}
use Rattle.osdp_msg.specs.CommandFields.{LedFits, OutputFits, led_word, output_word}
use Rattle.osdp_msg.specs.ReplyFields.{CapabilityFits, capability_word}
use Rattle.osdp_msg.specs.declared.capability.Capability.{Capability as CapabilityRecord}
use Rattle.osdp_msg.specs.declared.leds.LedRecord.{LedRecord}
use Rattle.osdp_msg.specs.declared.outputs.OutputRecord.{OutputRecord}
use Rattle.osdp_words.specs.Word.{StandsFor, Word, bytes, number, plain}
use Rattle.osdp_refused_words.specs.declared.slot.Slot.{Slot}
use Rattle.osdp_refused_words.specs.declared.slot.Slot.TheVariants.{Text, Number, Bytes, Output, Led, Capability}
use Rattle.osdp_refused_words.specs.Stops.{SaysValue}

abbrev pub SlotValue : Slot → Type 0
SlotValue (Text text) = Unit {0}
SlotValue (Number least most) = ℕ
SlotValue (Bytes least most) = List ℕ
SlotValue Output = OutputRecord
SlotValue Led = LedRecord
SlotValue Capability = CapabilityRecord

abbrev pub slot_word : (slot : Slot) → SlotValue slot → Word
slot_word (Text text) nothing = plain text.now
slot_word (Number least most) n = number n
slot_word (Bytes least most) list = bytes list
slot_word Output r = output_word r
slot_word Led r = led_word r
slot_word Capability c = capability_word c

abbrev pub SlotFits : (slot : Slot) → SlotValue slot → Type 0
SlotFits (Text text) nothing = Unit {0}
SlotFits (Number least most) n = (least ≤ n) × (n ≤ most)
SlotFits (Bytes least most) list = (least ≤ length list) × (length list ≤ most) × IsBytes list
SlotFits Output r = OutputFits r
SlotFits Led r = LedFits r
SlotFits Capability c = CapabilityFits c

-- some word may stand there
abbrev pub IsSlot : Slot → Type 0
IsSlot (Number least most) = (least ≤ most) × (most < 2 ^ 64)
IsSlot (Bytes least most) = (least ≤ most) × (most ≤ 4096)
IsSlot slot = Unit {0}

-- a word may stand there
abbrev pub SlotTakes : Slot → List ℕ → Type 0
SlotTakes slot given = (v : SlotValue slot) × StandsFor (slot_word slot v) given × SlotFits slot v

-- a value for each slot
abbrev pub Values : List Slot → Type 0
Values [] = Unit {0}
Values (slot ∷ slots) = SlotValue slot × Values slots

abbrev pub values_words : (slots : List Slot) → Values slots → List Word
values_words [] vs = []
values_words (slot ∷ slots) vs = slot_word slot vs.0 ∷ values_words slots vs.1

abbrev pub ValuesFit : (slots : List Slot) → Values slots → Type 0
ValuesFit [] vs = Unit {0}
ValuesFit (slot ∷ slots) vs = SlotFits slot vs.0 × ValuesFit slots vs.1

-- a word for each slot
abbrev pub Fills : List Slot → List (List ℕ) → Type 0
Fills slots = SaysValue (values_words slots) (ValuesFit slots)

-- words of one sort, and at most so many
abbrev pub SaysRecords : Slot → ℕ → List (List ℕ) → Type 0
SaysRecords slot most = SaysValue (λ records. map (slot_word slot) records) (λ records. (length records ≤ most) × AllByRecursion (SlotFits slot) records)
