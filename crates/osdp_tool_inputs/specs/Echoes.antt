-- Echoes of an adapter: runs that came in and are the ones that went out just before.
use Rattle.std.specs.Prelude.{◌≡◌, ℕ, ◌+◌, ◌==◌, ◌&&◌, Bool, true, false, if◌then◌else◌, All, List, [], ◌∷◌, ◌++◌, codes, drop, flat_map, length}
use Rattle.std.specs.Fmt.{decimal}
use Rattle.std.specs.Str.{bytes_eq}
use Rattle.osdp_tool_objects.specs.Objects.{object_of}
use Rattle.osdp_tool_streams.specs.Cut.{line_feed, lines_of}
use Rattle.osdp_tool_inputs.specs.declared.echoes.Rest.{Rest}
use Rattle.osdp_tool_inputs.specs.Heard.{printed_of}
use Rattle.osdp_tool_inputs.specs.Times.{ends_so, has_digits, is_stamp, no_stamp}

-- a line of digits came in, and stands there as the one that went out just before; after that one nothing stands where there is none
abbrev pub is_echo : List ℕ → List ℕ → List ℕ → Bool
is_echo stamp went line = has_digits line && (ends_so stamp (codes " in") && bytes_eq went line)

-- the stamp of the next line of digits, as far as is known after a line
abbrev pub next_stamp : List ℕ → List ℕ → List ℕ
next_stamp stamp line = if is_stamp line then drop 2 line else (if has_digits line then no_stamp else stamp)

-- the line that went out just before, after one of digits: it has one echo at most
abbrev pub went_after : Bool → List ℕ → List ℕ → List ℕ
went_after echo stamp line = if echo then [] else (if ends_so stamp (codes " out") then line else [])

abbrev pub went_by : List ℕ → List ℕ → List ℕ → List ℕ
went_by stamp went line = went_after (is_echo stamp went line) stamp line

abbrev pub next_went : List ℕ → List ℕ → List ℕ → List ℕ
next_went stamp went line = if has_digits line then went_by stamp went line else went

-- nothing stands in the place of an echo
abbrev pub unless : Bool → List ℕ → List ℕ
unless echo line = if echo then [] else line

abbrev pub only : Bool → List ℕ → List (List ℕ)
only echo line = if echo then line ∷ [] else []

-- the lines without the echoes, after this stamp and the line that went out just before: each other line keeps its number
unfoldable pub left_below : List ℕ → List ℕ → List (List ℕ) → List (List ℕ)
left_below stamp went [] = []
left_below stamp went (line ∷ lines) =
    unless (is_echo stamp went line) line ∷ left_below (next_stamp stamp line) (next_went stamp went line) lines

-- and the echoes
unfoldable pub echoes_below : List ℕ → List ℕ → List (List ℕ) → List (List ℕ)
echoes_below stamp went [] = []
echoes_below stamp went (line ∷ lines) =
    only (is_echo stamp went line) line ++ echoes_below (next_stamp stamp line) (next_went stamp went line) lines

abbrev pub left_of : List ℕ → List (List ℕ)
left_of text = left_below no_stamp [] (lines_of text)

-- how many there are
abbrev pub echoes_in : List ℕ → ℕ
echoes_in text = length (echoes_below no_stamp [] (lines_of text))

abbrev pub ended : List ℕ → List ℕ
ended line = line ++ line_feed ∷ []

-- what is listened to: the text as it is, where it has none
abbrev pub heard_part : List ℕ → List ℕ
heard_part text = if echoes_in text == 0 then text else flat_map ended (left_of text)

-- ---- of lines that come one after the other

-- those to come without the echoes
abbrev pub left_in : Rest → List (List ℕ)
left_in r = left_below r.stamp.now r.went.now r.lines

-- how many echoes there are, with those that have come
abbrev pub all_echoes : Rest → ℕ
all_echoes r = r.echoes + length (echoes_below r.stamp.now r.went.now r.lines)

-- what is told of them
abbrev pub echo_line : ℕ → List ℕ
echo_line echoes = codes "diagnosis: echoes of the adapter left out: " ++ decimal echoes

-- as a line or an object
abbrev pub echo_told : Bool → ℕ → List ℕ
echo_told json echoes = if json then object_of [] (echo_line echoes) else ended (echo_line echoes)

abbrev pub echoes_told : Bool → ℕ → List ℕ
echoes_told json echoes = if echoes == 0 then [] else echo_told json echoes

-- what the monitor prints with the moments of a text: of the part that is listened to, and then of the echoes
unfoldable pub printed_by : Bool → Bool → ℕ → List ℕ → List ℕ → List ℕ
printed_by json clock echoes text shown = printed_of json clock text shown ++ echoes_told json echoes

-- ---- in the words of a reader

-- These are all lines, each once and in their order: it stays in its place, or it is one of the echoes, and nothing stands there.
pub data AreSorted : List (List ℕ) → List (List ℕ) → List (List ℕ) → Type 0 where
  NoLines : AreSorted [] [] []
  Stays : (line : List ℕ) (lines left echoes : List (List ℕ)) → AreSorted lines left echoes → AreSorted (line ∷ lines) (line ∷ left) echoes
  Goes : (line : List ℕ) (lines left echoes : List (List ℕ)) → has_digits line ≡ true → AreSorted lines left echoes → AreSorted (line ∷ lines) ([] ∷ left) (line ∷ echoes)

-- What is left of a capture and its echoes are together all its lines, each once and in their order.
abbrev pub SortsAll : Type 0
SortsAll = (stamp went : List ℕ) (lines : List (List ℕ)) → AreSorted lines (left_below stamp went lines) (echoes_below stamp went lines)

-- A run that came in and is the one that went out just before is left out, and a second one of these is not.
abbrev pub LeavesEchoOut : Type 0
LeavesEchoOut =
    (stamp went out line came again : List ℕ) (lines : List (List ℕ)) → is_stamp out ≡ true → ends_so (drop 2 out) (codes " out") ≡ true → ends_so (drop 2 out) (codes " in") ≡ false
    → is_stamp came ≡ true → ends_so (drop 2 came) (codes " in") ≡ true → is_stamp again ≡ true → has_digits line ≡ true → is_stamp line ≡ false
    → has_digits out ≡ false → has_digits came ≡ false → has_digits again ≡ false
    → left_below stamp went (out ∷ line ∷ came ∷ line ∷ again ∷ line ∷ lines) ≡ out ∷ line ∷ came ∷ [] ∷ again ∷ line ∷ left_below no_stamp (next_went (drop 2 again) [] line) lines

-- A line that isn't the one that went out just before stays.
abbrev pub KeepsOthers : Type 0
KeepsOthers =
    (stamp went line : List ℕ) (lines : List (List ℕ)) → (went ≡ line → ⊥)
    → left_below stamp went (line ∷ lines) ≡ line ∷ left_below (next_stamp stamp line) (next_went stamp went line) lines

-- Where no line has a way, nothing is left out.
abbrev pub LeavesAllElse : Type 0
LeavesAllElse = (lines : List (List ℕ)) → All (λ line. is_stamp line ≡ false) lines → left_below no_stamp [] lines ≡ lines
