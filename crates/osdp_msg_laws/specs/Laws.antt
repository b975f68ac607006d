-- What holds of a table of messages, and of their texts.
use Rattle.std.specs.Prelude.{◌≡◌, ◌↔◌, ◌⊎◌, ◌+◌, ◌*◌, ◌<◌, ◌≤◌, ℕ, true, false, List, [], ◌∷◌, length, map, Option, Some, Result, Ok, Err}
use Rattle.std.specs.List.{AllByRecursion, join_with_byte}
use Rattle.byteorder.specs.Endian.{little_bytes}
use Rattle.hex.specs.Hex.{IsBytes}
use Rattle.osdp_words.specs.Word.{AllStandFor, IsWord, Word, printed}
use Rattle.osdp_msg.specs.declared.command.Command.{Command}
use Rattle.osdp_msg.specs.declared.command.Command.TheVariants.{Poll}
use Rattle.osdp_msg.specs.declared.event.Event.{Event}
use Rattle.osdp_msg.specs.declared.reply.Reply.TheVariants.{Nak, Busy}
use Rattle.osdp_msg.specs.declared.reply_fields.Nak.{Nak as NakData}
use Rattle.osdp_msg.specs.Events.{event_reply}
use Rattle.osdp_msg.specs.Fitting.{reply_fits}
use Rattle.osdp_msg.specs.NakReasons.{ReasonFits, reason_number, reason_of}
use Rattle.osdp_msg.specs.declared.fault.MsgFault.{MsgFault}
use Rattle.osdp_msg.specs.declared.nak.NakReason.{NakReason}

-- reading gives a value exactly where the table has it
abbrev pub ReadsTheTable : {M : Type 0} → (ℕ → List ℕ → M → Type 0) → (ℕ → List ℕ → Result M MsgFault) → Type 0
ReadsTheTable {M} Is reading =
    (code : ℕ) (bytes : List ℕ) (m : M) → IsBytes bytes → (reading code bytes ≡ Ok m) ↔ Is code bytes m

-- reading gives a fault exactly where the rule of refusals has it
abbrev pub ReadsTheFaults : {M : Type 0} → (ℕ → List ℕ → Option MsgFault) → (ℕ → List ℕ → Result M MsgFault) → Type 0
ReadsTheFaults fault reading =
    (code : ℕ) (bytes : List ℕ) (e : MsgFault) → (reading code bytes ≡ Err e) ↔ (fault code bytes ≡ Some e)

-- a code and data stand for one value at most
abbrev pub HasOneValue : {M : Type 0} → (ℕ → List ℕ → M → Type 0) → Type 0
HasOneValue {M} Is = (code : ℕ) (bytes : List ℕ) (m n : M) → Is code bytes m → Is code bytes n → m ≡ n

-- a value has one code and data
abbrev pub HasOneSpelling : {M : Type 0} → (ℕ → List ℕ → M → Type 0) → Type 0
HasOneSpelling {M} Is =
    (code other : ℕ) (bytes others : List ℕ) (m : M) → Is code bytes m → Is other others m → (code ≡ other) × (bytes ≡ others)

-- a code and data in the table are bytes, and have room in a packet, whatever its check
abbrev pub FitsAPacket : {M : Type 0} → (ℕ → List ℕ → M → Type 0) → Type 0
FitsAPacket {M} Is =
    (code : ℕ) (bytes : List ℕ) (m : M) → Is code bytes m → IsBytes (code ∷ bytes) × (1 + length bytes ≤ 1433)

-- a text is the words of the value as printed, joined by single spaces
abbrev pub JoinsItsWords : {M : Type 0} → (M → List Word) → (M → List ℕ) → Type 0
JoinsItsWords {M} words text = (m : M) → text m ≡ join_with_byte 32 (map printed (words m))

-- words stand for one value at most
abbrev pub HasOneMeaning : {M : Type 0} → (M → Type 0) → (M → List Word) → Type 0
HasOneMeaning {M} Fits words =
    (given : List (List ℕ)) (m n : M) → Fits m → Fits n → AllStandFor (words m) given → AllStandFor (words n) given → m ≡ n

-- two values with one text are the same
abbrev pub HasOneText : {M : Type 0} → (M → Type 0) → (M → List ℕ) → Type 0
HasOneText {M} Fits text = (m n : M) → Fits m → Fits n → text m ≡ text n → m ≡ n

-- a digit, a colon or a letter
abbrev pub IsPlainCharacter : ℕ → Type 0
IsPlainCharacter c = ((48 ≤ c) × (c ≤ 58)) ⊎ ((65 ≤ c) × (c ≤ 90)) ⊎ ((97 ≤ c) × (c ≤ 122))

-- a word that a text can hold, printed as one or more of these: so it holds no space and no end of a line, and it isn't `=`
pub record IsPlainWord (word : Word) : Type 0 where
  pub held : IsWord word
  pub some : 0 < length (printed word)
  pub each : AllByRecursion IsPlainCharacter (printed word)

-- each word of a value
abbrev pub HasPlainWords : {M : Type 0} → (M → Type 0) → (M → List Word) → Type 0
HasPlainWords {M} Fits words = (m : M) → Fits m → AllByRecursion IsPlainWord (words m)

-- the longest text of values has so many bytes: none is longer, and one is as long
pub record HasLongestText {M : Type 0} (Fits : M → Type 0) (text : M → List ℕ) (most : ℕ) : Type 0 where
  pub within : (m : M) → Fits m → length (text m) ≤ most
  pub reached : (m : M) × (Fits m × (length (text m) ≡ most))

-- the number of the reason of a number is that number, and the reason of a reason's number is that reason
abbrev pub HasOneNumber : Type 0
HasOneNumber =
    ((n : ℕ) → reason_number (reason_of n) ≡ n)
    × ((r : NakReason) → ReasonFits r → (reason_of (reason_number r) ≡ r) × (reason_number r < 256))

-- a number of two or four bytes has its low byte first
abbrev pub HasLowByteFirst : Type 0
HasLowByteFirst =
    ((a b : ℕ) → a < 256 → b < 256 → little_bytes 2 (a + 256 * b) ≡ a ∷ b ∷ [])
    × ((a b c d : ℕ) → a < 256 → b < 256 → c < 256 → d < 256
    → little_bytes 4 (a + 256 * b + 65536 * c + 16777216 * d) ≡ a ∷ b ∷ c ∷ d ∷ [])

-- NAK fits every command and BUSY none, and every event fits a POLL
pub record FitsByKind : Type 0 where
  pub nak : (m : Command) (n : NakData) → reply_fits m (Nak n) ≡ true
  pub busy : (m : Command) → reply_fits m Busy ≡ false
  pub event : (e : Event) → reply_fits Poll (event_reply e) ≡ true
