-- The data of replies: their bytes, their ranges, their reading and their words.
use Rattle.std.specs.Prelude.{ℕ, ◌<◌, ◌≤◌, ◌≡◌, ◌^◌, ◌+◌, ◌/◌, List, [], ◌∷◌, ◌++◌, length, slice_index, take, drop}
use Rattle.byteorder.specs.Endian.{little_bytes, little_number}
use Rattle.hex.specs.Hex.{IsBytes}
use Rattle.osdp_words.specs.Word.{Word, bytes, number, numbers}
use Rattle.osdp_msg.specs.Limits.{most_card_bytes, most_detail}
use Rattle.osdp_msg.specs.declared.capability.Capability.{Capability}
use Rattle.osdp_msg.specs.declared.event_fields.Formatted.{Formatted}
use Rattle.osdp_msg.specs.declared.event_fields.Keypad.{Keypad}
use Rattle.osdp_msg.specs.declared.reply_fields.LocalState.{LocalState}
use Rattle.osdp_msg.specs.declared.reply_fields.Nak.{Nak}
use Rattle.osdp_msg.specs.declared.reply_fields.PdId.{PdId}
use Rattle.osdp_msg.specs.NakReasons.{ReasonFits, reason_number, reason_of}
use Rattle.osdp_msg.specs.Raw.{RawCard}

-- why a command wasn't done: the reason, and any detail

abbrev pub nak_data : Nak → List ℕ
nak_data n = reason_number n.reason ∷ n.detail.items

pub record NakFits (n : Nak) : Type 0 where
  pub reason : ReasonFits n.reason
  pub room : length n.detail.items ≤ most_detail
  pub detail : IsBytes n.detail.items

abbrev pub nak_at : List ℕ → Nak
nak_at bs = record { reason = reason_of (slice_index bs 0); detail = record { items = drop 1 bs } }

-- the detail, where there is one
abbrev pub detail_words : List ℕ → List Word
detail_words [] = []
detail_words (b ∷ bs) = bytes (b ∷ bs) ∷ []

abbrev pub nak_words : Nak → List Word
nak_words n = number (reason_number n.reason) ∷ detail_words n.detail.items

-- what a device is: vendor, model, version, a serial number of four bytes, low byte first, and three of firmware

abbrev pub pd_id_data : PdId → List ℕ
pd_id_data p =
    ((p.vendor ++ (p.model ∷ p.version ∷ [])) ++ little_bytes 4 p.serial)
    ++ (p.firmware_major ∷ p.firmware_minor ∷ p.firmware_build ∷ [])

pub record PdIdFits (p : PdId) : Type 0 where
  pub vendor_length : length p.vendor ≡ 3
  pub vendor : IsBytes p.vendor
  pub model : p.model < 256
  pub version : p.version < 256
  pub serial : p.serial < 2 ^ 32
  pub firmware_major : p.firmware_major < 256
  pub firmware_minor : p.firmware_minor < 256
  pub firmware_build : p.firmware_build < 256

abbrev pub pd_id_at : List ℕ → PdId
pd_id_at bs = record { vendor = take 3 bs; model = slice_index bs 3; version = slice_index bs 4; serial = little_number 4 (drop 5 bs); firmware_major = slice_index bs 9; firmware_minor = slice_index bs 10; firmware_build = slice_index bs 11 }

abbrev pub pd_id_words : PdId → List Word
pd_id_words p =
    bytes p.vendor ∷ number p.model ∷ number p.version ∷ number p.serial ∷ number p.firmware_major ∷ number p.firmware_minor ∷ number p.firmware_build ∷ []

-- one ability of a device

abbrev pub capability_data : Capability → List ℕ
capability_data c = c.function ∷ c.level ∷ c.count ∷ []

abbrev pub CapabilityFits : Capability → Type 0
CapabilityFits c = (c.function < 256) × (c.level < 256) × (c.count < 256)

abbrev pub capability_at : List ℕ → Capability
capability_at bs = record { function = slice_index bs 0; level = slice_index bs 1; count = slice_index bs 2 }

abbrev pub capability_word : Capability → Word
capability_word c = numbers (c.function ∷ c.level ∷ c.count ∷ [])

-- the state of a device itself

abbrev pub local_state_data : LocalState → List ℕ
local_state_data s = s.tamper ∷ s.power ∷ []

abbrev pub LocalStateFits : LocalState → Type 0
LocalStateFits s = (s.tamper < 256) × (s.power < 256)

abbrev pub local_state_at : List ℕ → LocalState
local_state_at bs = record { tamper = slice_index bs 0; power = slice_index bs 1 }

abbrev pub local_state_words : LocalState → List Word
local_state_words s = number s.tamper ∷ number s.power ∷ []

-- a card's bits: reader, format, a count of bits in two bytes, low byte first, and as many bytes as they need

abbrev pub raw_data : RawCard → List ℕ
raw_data r = (r.reader ∷ r.format ∷ little_bytes 2 r.bits) ++ r.bytes

pub record RawFits (r : RawCard) : Type 0 where
  pub reader : r.reader < 256
  pub format : r.format < 256
  pub bits : r.bits < 2 ^ 16
  pub needed : length r.bytes ≡ (r.bits + 7) / 8
  pub room : length r.bytes ≤ most_card_bytes
  pub bytes : IsBytes r.bytes

abbrev pub raw_at : List ℕ → RawCard
raw_at bs = record {
  reader = slice_index bs 0;
  format = slice_index bs 1;
  bits = little_number 2 (drop 2 bs);
  bytes = drop 4 bs;
}

abbrev pub raw_words : RawCard → List Word
raw_words r = number r.reader ∷ number r.format ∷ number r.bits ∷ bytes r.bytes ∷ []

-- a formatted card: reader, direction, the count of the digits, and the digits

abbrev pub formatted_data : Formatted → List ℕ
formatted_data f = f.reader ∷ f.direction ∷ length f.digits.items ∷ f.digits.items

pub record FormattedFits (f : Formatted) : Type 0 where
  pub reader : f.reader < 256
  pub direction : f.direction < 256
  pub room : length f.digits.items ≤ 255
  pub digits : IsBytes f.digits.items

abbrev pub formatted_at : List ℕ → Formatted
formatted_at bs = record { reader = slice_index bs 0; direction = slice_index bs 1; digits = record { items = drop 3 bs } }

abbrev pub formatted_words : Formatted → List Word
formatted_words f = number f.reader ∷ number f.direction ∷ bytes f.digits.items ∷ []

-- pressed keys: reader, the count of the digits, and the digits

abbrev pub keypad_data : Keypad → List ℕ
keypad_data k = k.reader ∷ length k.digits.items ∷ k.digits.items

pub record KeypadFits (k : Keypad) : Type 0 where
  pub reader : k.reader < 256
  pub room : length k.digits.items ≤ 255
  pub digits : IsBytes k.digits.items

abbrev pub keypad_at : List ℕ → Keypad
keypad_at bs = record { reader = slice_index bs 0; digits = record { items = drop 2 bs } }

abbrev pub keypad_words : Keypad → List Word
keypad_words k = number k.reader ∷ bytes k.digits.items ∷ []
