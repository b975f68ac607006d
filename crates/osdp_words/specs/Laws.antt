-- What holds of words and texts, in the words of their reader.
use Rattle.std.specs.Prelude.{◌≡◌, ◌↔◌, ◌==◌, ℕ, ◌<◌, ◌^◌, List, ◌∷◌, ◌++◌, length, map, slice_index, Option, Ok}
use Rattle.std.specs.List.{AllByRecursion, AllZip, flat_map, join_with_byte, slice_split}
use Rattle.std.specs.Str.Parse.{IsNumeral, digits_value}
use Rattle.hex.specs.Hex.{IsBytes, decode_of}
use Rattle.osdp_words.specs.Reading.{Reads}
use Rattle.osdp_words.specs.Word.{AllStandFor, AreWithin, AreWords, IsSameSort, IsWord, StandsFor, Word, bytes, number, numbers, printed, text_of}

-- ---- words

-- a word as it is printed stands for itself
abbrev pub StandsForItself : Type 0
StandsForItself = (word : Word) → IsWord word → StandsFor word (printed word)

-- of one sort, one word alone is after what is given
abbrev pub HasOneWord : Type 0
HasOneWord = (given : List ℕ) (a b : Word) → IsWord a → IsWord b → IsSameSort a b → StandsFor a given → StandsFor b given → a ≡ b

-- a decimal word: digits of that value, with no leading zero but that of `0` itself
abbrev pub IsDecimal : Type 0
IsDecimal =
    (n : ℕ) (given : List ℕ) → n < 2 ^ 64
    → StandsFor (number n) given
    ↔ (IsNumeral 10 given × (slice_index given 0 ≡ 48 → length given ≡ 1) × (digits_value 10 given ≡ n))

-- a list of bytes is what the decoder makes of the digits, whatever their case
abbrev pub IsDecoded : Type 0
IsDecoded = (bs given : List ℕ) → 0 < length bs → IsBytes bs → StandsFor (bytes bs) given ↔ (decode_of given ≡ Ok bs)

-- a record word parts at its colons into its numbers' words
abbrev pub PartsAtColons : Type 0
PartsAtColons =
    (n : ℕ) (ns given : List ℕ) → AllByRecursion (λ m. m < 2 ^ 64) (n ∷ ns)
    → StandsFor (numbers (n ∷ ns)) given ↔ AllStandFor (map number (n ∷ ns)) (slice_split (λ c. c == 58) given)

-- numbers and records are words that a text can hold
abbrev pub AreAllWords : Type 0
AreAllWords = (n : ℕ) (ns : List ℕ) → AllByRecursion (λ m. m < 2 ^ 64) (n ∷ ns) → IsWord (number n) × IsWord (numbers (n ∷ ns))

-- ---- texts

-- a text is its first word, and each further word after a space
abbrev pub JoinsWords : Type 0
JoinsWords = (first : Word) (rest : List Word) → text_of (first ∷ rest) ≡ printed first ++ flat_map (λ word. 32 ∷ printed word) rest

-- a text is its words as printed, with one space between each two
abbrev pub JoinsBySpaces : Type 0
JoinsBySpaces = (words : List Word) → text_of words ≡ join_with_byte 32 (map printed words)

-- a text parts at its spaces into its words as printed, of which none is empty
abbrev pub PartsAtSpaces : Type 0
PartsAtSpaces =
    (first : Word) (rest : List Word) → AreWords (first ∷ rest)
    → (slice_split (λ c. c == 32) (text_of (first ∷ rest)) ≡ map printed (first ∷ rest))
    × AllByRecursion (λ word. 0 < length (printed word)) (first ∷ rest)

-- words of the same sorts that are printed as one text, or that all stand after the same, are the same
abbrev pub HasOneList : Type 0
HasOneList =
    (ws vs : List Word) → AreWords ws → AreWords vs → AllZip IsSameSort ws vs
    → ((text_of ws ≡ text_of vs → ws ≡ vs) × ((given : List (List ℕ)) → AllStandFor ws given → AllStandFor vs given → ws ≡ vs))

-- ---- reading

-- reading has one result
abbrev pub HasOneResult : Type 0
HasOneResult =
    ((limit : ℕ) (given : List ℕ) (r s : Option ℕ) → Reads number (λ n. n < limit) given r → Reads number (λ n. n < limit) given s → r ≡ s)
    × ((room : ℕ) (given : List ℕ) (r s : Option (List ℕ))
    → Reads bytes (λ bs. (length bs < room) × IsBytes bs) given r → Reads bytes (λ bs. (length bs < room) × IsBytes bs) given s → r ≡ s)
    × ((limits given : List ℕ) (r s : Option (List ℕ))
    → Reads numbers (AreWithin limits) given r → Reads numbers (AreWithin limits) given s → r ≡ s)
