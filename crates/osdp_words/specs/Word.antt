-- The words of texts: how each is printed, what may be given for it, and how a text is made of words.
use Rattle.std.specs.Prelude.{◌≡◌, ℕ, ◌==◌, ◌<◌, ◌≤◌, not, List, [], ◌∷◌, codes, filter, map, length}
use Rattle.std.specs.Borrow.{Bor}
use Rattle.std.specs.Fmt.{decimal}
use Rattle.std.specs.List.{AllByRecursion, AllZip, join_by, slice_split}
use Rattle.std.specs.Str.{str_to_ascii_uppercase}
use Rattle.std.specs.Str.Iter.{LacksByte}
use Rattle.hex.specs.Hex.{IsBytes, encode_upper}

-- a word is of one of two sorts: characters that stand for themselves, or a list of bytes
pub data Word : Type 0 where
  plain : List ℕ → Word
  bytes : List ℕ → Word

-- how a word is printed: a list of bytes as two upper case hexadecimal digits for each, and `none` where
-- it is empty
abbrev pub printed : Word → List ℕ
printed (plain text) = text
printed (bytes []) = codes "none"
printed (bytes (b ∷ bs)) = encode_upper (b ∷ bs)

-- what may be given for a word: what is printed for it, and for a list of bytes its digits in either case
abbrev pub StandsFor : Word → List ℕ → Type 0
StandsFor (plain text) given = given ≡ text
StandsFor (bytes []) given = given ≡ codes "none"
StandsFor (bytes (b ∷ bs)) given = str_to_ascii_uppercase given ≡ encode_upper (b ∷ bs)

-- the words one by one, and as many of them
abbrev pub AllStandFor : List Word → List (List ℕ) → Type 0
AllStandFor words given = AllZip StandsFor words given

-- the texts of a slice of `&str`
abbrev pub texts : List (Bor (List ℕ)) → List (List ℕ)
texts given = map (λ (text : Bor (List ℕ)). text.now) given

-- the words of a line: what stands between spaces, one or more
abbrev pub words_in : List ℕ → List (List ℕ)
words_in line = filter (λ part. not (length part == 0)) (slice_split (λ c. c == 32) line)

-- a number in decimal digits, with no leading zero
abbrev pub number : ℕ → Word
number n = plain (decimal n)

-- a record of numbers, joined by colons
abbrev pub numbers : List ℕ → Word
numbers ns = plain (join_by decimal (codes ":") ns)

-- a text: its words as they are printed, joined by single spaces
abbrev pub text_of : List Word → List ℕ
text_of words = join_by printed (codes " ") words

-- a word that a text can hold: one or more characters that are no spaces, or bytes
abbrev pub IsWord : Word → Type 0
IsWord (plain text) = (0 < length text) × LacksByte 32 text
IsWord (bytes bs) = IsBytes bs

abbrev pub AreWords : List Word → Type 0
AreWords words = AllByRecursion IsWord words

-- of one sort: what `none` and digits stand for depends on the sort of the field that they are given for
abbrev pub IsSameSort : Word → Word → Type 0
IsSameSort (plain a) (plain b) = Unit {0}
IsSameSort (plain a) (bytes bs) = ⊥
IsSameSort (bytes cs) (plain b) = ⊥
IsSameSort (bytes cs) (bytes bs) = Unit {0}

-- each number within its limit, and as many of them
abbrev pub AreWithin : List ℕ → List ℕ → Type 0
AreWithin limits ns = AllZip (λ n limit. n ≤ limit) ns limits
