-- A line of a script, and its characters.
use Rattle.std.specs.Prelude.{◌≡◌, ◌⊎◌, ℕ, ◌==◌, not, Bool, true, if◌then◌else◌, List, [], ◌∷◌, ◌++◌, filter}
use Rattle.osdp_tool_streams.specs.Cut.{line_feed}

-- the bytes are a line, a line feed and the rest; or they are the line alone, and nothing is left
abbrev pub BeginsWithLine : List ℕ → List ℕ → List ℕ → Type 0
BeginsWithLine bytes line rest = (bytes ≡ line ++ line_feed ∷ rest) ⊎ ((bytes ≡ line) × (rest ≡ []))

-- the characters that count: a carriage return is dropped wherever it stands, inside a word too
abbrev pub characters : List ℕ → List ℕ
characters line = filter (λ c. not (c == 13)) line

-- nothing but spaces, or a comment, whose first character that is no space is a #
unfoldable pub is_passed_over : List ℕ → Bool
is_passed_over [] = true
is_passed_over (c ∷ rest) = if c == 32 then is_passed_over rest else c == 35
