-- What a capture of another tool says, as lines of digits.
use Rattle.std.specs.Prelude.{◌≡◌, ℕ, ◌+◌, List, [], ◌∷◌, ◌++◌, Option, Some, None, Result, Ok, Err}
use Rattle.osdp_tool_streams.specs.Cut.{lines_of}
use Rattle.osdp_tool_captures.specs.Lines.{line_text}
use Rattle.osdp_tool_captures.specs.declared.fault.BadLine.{BadLine}
use Rattle.osdp_tool_captures.specs.declared.fault.LineFault.{LineFault}
use Rattle.osdp_tool_captures.specs.declared.format.Tool.{Tool}

-- a line that says something stands before these; a bad one ends the text
abbrev pub before : Result (List ℕ) LineFault → List ℕ → List ℕ
before (Ok text) rest = text ++ rest
before (Err fault) rest = []

-- the number of a bad line, or what is bad below it
abbrev pub bad_or : ℕ → Result (List ℕ) LineFault → Option BadLine → Option BadLine
bad_or number (Ok text) below = below
bad_or number (Err fault) below = Some (record { number = number; fault = fault })

-- the texts of the lines above the first bad one
unfoldable pub lines_text : Tool → List (List ℕ) → List ℕ
lines_text tool [] = []
lines_text tool (line ∷ lines) = before (line_text tool line) (lines_text tool lines)

-- the first bad line, where the first of the lines has this number
unfoldable pub first_bad : Tool → ℕ → List (List ℕ) → Option BadLine
first_bad tool number [] = None
first_bad tool number (line ∷ lines) = bad_or number (line_text tool line) (first_bad tool (number + 1) lines)

-- the text of a whole capture, and its first bad line, where there is one
abbrev pub capture_text : Tool → List ℕ → List ℕ
capture_text tool bytes = lines_text tool (lines_of bytes)

abbrev pub capture_fault : Tool → List ℕ → Option BadLine
capture_fault tool bytes = first_bad tool 1 (lines_of bytes)

-- ---- how it is read

-- what a line of this number says is added to a text; a bad one leaves it
abbrev pub AddsLine : ℕ → Result (List ℕ) LineFault → List ℕ → List ℕ → Option BadLine → Type 0
AddsLine number (Ok more) old new bad = (bad ≡ None) × (new ≡ old ++ more)
AddsLine number (Err fault) old new bad = (bad ≡ Some (record { number = number; fault = fault })) × (new ≡ old)
