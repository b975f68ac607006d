-- How an input is cut into lines.
use Rattle.std.specs.Prelude.{◌≡◌, ◌≢◌, ℕ, ◌==◌, ◌<◌, if◌then◌else◌, List, [], ◌∷◌, ◌++◌, flat_map, get_or, length, take}
use Rattle.std.specs.List.{AllByRecursion}

-- the byte that ends a line
abbrev pub line_feed : ℕ
line_feed = 10

-- the lines that end in these bytes, where this much of the first stands before them
unfoldable pub ended_after : List ℕ → List ℕ → List (List ℕ)
ended_after line [] = []
ended_after line (b ∷ bytes) =
    if b == line_feed then line ∷ ended_after [] bytes else ended_after (line ++ b ∷ []) bytes

-- what stands after the last line feed
unfoldable pub unended_after : List ℕ → List ℕ → List ℕ
unended_after line [] = line
unended_after line (b ∷ bytes) =
    if b == line_feed then unended_after [] bytes else unended_after (line ++ b ∷ []) bytes

-- the lines that end in these bytes
abbrev pub ended_lines : List ℕ → List (List ℕ)
ended_lines bytes = ended_after [] bytes

-- the line that has not ended yet
abbrev pub unended_line : List ℕ → List ℕ
unended_line bytes = unended_after [] bytes

-- a line also ends at the end of the input, where bytes stand before it
abbrev pub last_line : List ℕ → List (List ℕ)
last_line [] = []
last_line (b ∷ line) = (b ∷ line) ∷ []

-- all lines of an input
abbrev pub lines_of : List ℕ → List (List ℕ)
lines_of bytes = ended_lines bytes ++ last_line (unended_line bytes)

-- no line feed stands in the line
abbrev pub IsLine : List ℕ → Type 0
IsLine line = AllByRecursion (λ b. b ≢ line_feed) line

-- the bytes are these lines, each with a line feed after it, and then the rest, without one
pub record IsCut (bytes : List ℕ) (lines : List (List ℕ)) (rest : List ℕ) : Type 0 where
  pub whole : bytes ≡ flat_map (λ line. line ++ line_feed ∷ []) lines ++ rest
  pub each : AllByRecursion IsLine lines
  pub last : IsLine rest

-- the first line feed stands after so many bytes
pub record HasLine (bytes : List ℕ) (count : ℕ) : Type 0 where
  pub below : count < length bytes
  pub line : IsLine (take count bytes)
  pub feed : get_or bytes count 0 ≡ line_feed
