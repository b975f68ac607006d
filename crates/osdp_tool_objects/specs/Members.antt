-- The members of an object of JSON.
use Rattle.std.specs.Prelude.{ℕ, nat_le, if◌then◌else◌, List, [], ◌∷◌, ◌++◌, codes, length}
use Rattle.std.specs.Str.Lossy.{utf8_lossy}
use Rattle.serde_json.specs.Data.{string}
use Rattle.serde_json.specs.Written.{compact_text}

-- a text in quotes, as JSON writes it; of bytes that are no UTF-8 as of the replacement character
abbrev pub text_of : List ℕ → List ℕ
text_of words = compact_text (string (utf8_lossy words))

-- a stamp, or null where there is none: a hyphen stands for none
abbrev pub stamp_of : List ℕ → List ℕ
stamp_of stamp = if nat_le (length stamp) 1 then codes "null" else text_of stamp

-- a member whose value is written so, after a comma
unfoldable pub member : List ℕ → List ℕ → List ℕ
member name value = codes ",\"" ++ (name ++ (codes "\":" ++ value))

-- numbers after their names, as far as there are any
unfoldable pub columns : List (List ℕ) → List (List ℕ) → List ℕ
columns [] numbers = []
columns (name ∷ names) [] = []
columns (name ∷ names) (number ∷ numbers) = member name number ++ columns names numbers

-- the name of each number before it
unfoldable pub counts : List (List ℕ) → List ℕ
counts [] = []
counts (name ∷ []) = []
counts (name ∷ number ∷ words) = member name number ++ counts words
