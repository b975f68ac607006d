-- What a line says, in its own words.
use Rattle.std.specs.Prelude.{◌≡◌, ◌≢◌, ◌↔◌, ◌⊎◌, ℕ, ◌+◌, ◌/◌, ◌%◌, List, [], ◌∷◌, ◌++◌, length, Some, None}
use Rattle.std.specs.List.{AllByRecursion}
use Rattle.hex.specs.Hex.{hex_digit_value}
use Rattle.osdp_tool_streams.specs.Cut.{IsCut, ended_lines, unended_line}
use Rattle.osdp_tool_streams.specs.Line.{kept, line_bytes}
use Rattle.osdp_tool_streams.specs.Runs.{bad_line}

-- the characters begin with a #
abbrev pub IsComment : List ℕ → Type 0
IsComment [] = ⊥
IsComment (b ∷ characters) = b ≡ 35

-- the characters are two digits for each byte, of its high four bits and of its low ones
abbrev pub SpellsBytes : List ℕ → List ℕ → Type 0
SpellsBytes [] [] = Unit {0}
SpellsBytes [] (b ∷ bytes) = ⊥
SpellsBytes (high ∷ []) bytes = ⊥
SpellsBytes (high ∷ low ∷ digits) [] = ⊥
SpellsBytes (high ∷ low ∷ digits) (b ∷ bytes) =
    (hex_digit_value high ≡ Some (b / 16)) × (hex_digit_value low ≡ Some (b % 16)) × SpellsBytes digits bytes

-- a line says bytes where its characters spell them, and none where it is a comment; else it is bad
abbrev pub LinesSay : Type 0
LinesSay = (line bytes : List ℕ)
    → (line_bytes line ≡ Some bytes) ↔ ((IsComment (kept line) × (bytes ≡ [])) ⊎ SpellsBytes (kept line) bytes)

-- an input has one cut into lines that end at a line feed and a rest without one
pub record OneCut : Type 0 where
  pub some : (bytes : List ℕ) → IsCut bytes (ended_lines bytes) (unended_line bytes)
  pub one : (bytes : List ℕ) (lines : List (List ℕ)) (rest : List ℕ) → IsCut bytes lines rest
      → (ended_lines bytes ≡ lines) × (unended_line bytes ≡ rest)

-- the line says something
abbrev pub IsGood : List ℕ → Type 0
IsGood line = line_bytes line ≢ None

-- the line of this number, counted from 1, is bad, and all above it are good
pub record IsFirstBad (lines : List (List ℕ)) (number : ℕ) : Type 0 where
  pub above : List (List ℕ)
  pub line : List ℕ
  pub below : List (List ℕ)
  pub whole : lines ≡ above ++ line ∷ below
  pub good : AllByRecursion IsGood above
  pub bad : line_bytes line ≡ None
  pub place : number ≡ length above + 1

-- the number that is told is that of the first bad line, and none is told where all lines are good
pub record OneFirstBad : Type 0 where
  pub some : (lines : List (List ℕ)) (number : ℕ) → (bad_line 1 lines ≡ Some number) ↔ IsFirstBad lines number
  pub none : (lines : List (List ℕ)) → (bad_line 1 lines ≡ None) ↔ AllByRecursion IsGood lines
