-- What is read of an input, in the words of who has it.
use Rattle.std.specs.Prelude.{◌≡◌, ◌≢◌, ◌≤◌, ◌<◌, ◌⊎◌, ◌↔◌, ◌+◌, ℕ, List, ◌∷◌, ◌++◌, drop, length, take, Option, Some, None}
use Rattle.osdp_tool_captures.specs.Hints.{hint_of}
use Rattle.osdp_tool_captures.specs.Marks.{content_of, utf8_mark}
use Rattle.osdp_tool_captures.specs.Whole.{ReadWhole}
use Rattle.osdp_tool_captures.specs.declared.format.Format.{Format}
use Rattle.osdp_tool_captures.specs.declared.format.Format.TheVariants.{Bytes, Digits}
use Rattle.osdp_tool_captures.specs.declared.hint.Hint.TheVariants.{Utf16}
use Rattle.osdp_tool_streams.specs.Cut.{HasLine, lines_of}
use Rattle.osdp_tool_streams.specs.Runs.{bad_line}
use Rattle.osdp_tool_streams.specs.declared.fault.ToolFault.{ToolFault}
use Rattle.osdp_tool_streams.specs.declared.fault.ToolFault.TheVariants.{TooLong, ReadFailed}

-- an input that is no longer than the limit was read whole, of a longer one as much as the limit, and of one that failed a beginning
pub record IsAsFarAsItGoes (limit : ℕ) (all bytes : List ℕ) (fault : Option ToolFault) : Type 0 where
  pub whole : fault ≡ None → (length all ≤ limit) × (bytes ≡ all)
  pub long : fault ≡ Some TooLong → (limit < length all) × (length bytes ≡ limit)
  pub front : bytes ≡ take (length bytes) all
  pub within : length bytes ≤ limit
  pub fault_is : (fault ≡ None) ⊎ ((fault ≡ Some TooLong) ⊎ (fault ≡ Some ReadFailed))

-- where the bytes of an input are known
abbrev pub ReadsAsFarAsItGoes : Type 0
ReadsAsFarAsItGoes = (limit : ℕ) (all bytes : List ℕ) (after : Option (List ℕ)) (fault : Option ToolFault)
    → ReadWhole limit (Some all) after bytes fault → IsAsFarAsItGoes limit all bytes fault

-- what stands before the first line feed is the first line, and the others are those of what stands after it
abbrev pub FirstLineFirst : Type 0
FirstLineFirst = (bytes : List ℕ) (count : ℕ) → HasLine bytes count → lines_of bytes ≡ take count bytes ∷ lines_of (drop (count + 1) bytes)

-- a mark in front of lines is passed over, once; lines without one are read as they are, and bytes always are
pub record PassesOneMark : Type 0 where
  pub marked : (format : Format) (text : List ℕ) → format ≢ Bytes → content_of format (utf8_mark ++ text) ≡ text
  pub plain : (format : Format) (text : List ℕ) → ((rest : List ℕ) → text ≢ utf8_mark ++ rest) → content_of format text ≡ text
  pub bytes : (all : List ℕ) → content_of Bytes all ≡ all

-- a mark of UTF-16 stands in front, of characters that have their low byte first, or their high one
abbrev pub StandsUtf16 : List ℕ → Type 0
StandsUtf16 front = (rest : List ℕ) × ((front ≡ 0xFF ∷ 0xFE ∷ rest) ⊎ (front ≡ 0xFE ∷ 0xFF ∷ rest))

-- Where lines are read, text in UTF-16 is told exactly where its mark stands in front, and it never is where bytes are. Digits so told have a bad first line, whatever comes after these bytes.
pub record TellsUtf16 : Type 0 where
  pub told : (format : Format) (front : List ℕ) → format ≢ Bytes → (hint_of format front ≡ Some Utf16) ↔ StandsUtf16 front
  pub bytes : (front : List ℕ) → hint_of Bytes front ≢ Some Utf16
  pub bad : (front rest : List ℕ) → hint_of Digits front ≡ Some Utf16 → bad_line 1 (lines_of (front ++ rest)) ≡ Some 1
