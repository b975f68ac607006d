-- What holds of the times that are printed, in the words of their reader.
use Rattle.std.specs.Prelude.{◌≡◌, ◌⊎◌, ◌+◌, ◌<◌, ◌^◌, ℕ, Bool, true, false, List, [], ◌∷◌, ◌++◌, codes, drop, get_or, Option, Some}
use Rattle.std.specs.Fmt.{decimal}
use Rattle.osdp_tool_monitor.specs.Ending.{Told}
use Rattle.osdp_tool_streams.specs.Cut.{line_feed, lines_of}
use Rattle.osdp_tool_inputs.specs.Heard.{place_named, shown_stamp, tells_at, tells_of, told_text, took_text}
use Rattle.osdp_tool_inputs.specs.Moments.{AreInOrder, Tells}
use Rattle.osdp_tool_inputs.specs.Times.{has_digits, is_stamp, no_stamp, run_of, stamp_at, stamps_below, stamps_of}
use Rattle.osdp_tool_inputs.specs.declared.capture.LateTimes.{LateTimes}
use Rattle.osdp_tool_inputs.specs.declared.clock.Clock.{Clock}

-- the moments that a clock tells are in order
abbrev pub TellsInOrder : Type 0
TellsInOrder = (start end : Clock) (moments : List ℕ) → Told Tells start moments end → AreInOrder start.last moments

-- a comment with a moment is the stamp of the line of digits below it, and of no other below that
abbrev pub StampsOneRun : Type 0
StampsOneRun =
    (stamp comment line : List ℕ) (lines : List (List ℕ)) → is_stamp comment ≡ true → is_stamp line ≡ false → has_digits line ≡ true
    → stamps_below stamp (comment ∷ line ∷ lines) ≡ drop 2 comment ∷ stamps_below no_stamp lines

-- a line that begins with the number of a run and a space stands after the stamp of that run
abbrev pub TimesByRuns : Type 0
TimesByRuns =
    (run : ℕ) (rest : List ℕ) (stamps : List (List ℕ)) → run + 1 < 2 ^ 64 → stamp_at (run_of (decimal (run + 1) ++ 32 ∷ rest)) stamps ≡ get_or stamps run no_stamp

-- a line that begins with the number of a run, a colon, a place and a space names that place
abbrev pub NamesPlaces : Type 0
NamesPlaces = (run place : ℕ) (rest : List ℕ) → run < 2 ^ 64 → place < 2 ^ 64 → place_named (decimal run ++ 58 ∷ (decimal place ++ 32 ∷ rest)) ≡ place

-- nothing stands before a line, or the stamp of its run, with the day's time where that is asked for, and a space
abbrev pub IsFront : Bool → List (List ℕ) → List ℕ → List ℕ → Type 0
IsFront clock stamps line front = (front ≡ []) ⊎ (front ≡ shown_stamp clock stamps line ++ codes " ")

-- nothing stands after it, or the times of a late answer in its run, where that is at the place that it names
abbrev pub IsTail : List (Option LateTimes) → List ℕ → List ℕ → Type 0
IsTail tells line tail =
    (tail ≡ []) ⊎ ((late : LateTimes) × (tells_at (run_of line) tells ≡ Some late) × (place_named line ≡ late.place) × (tail ≡ took_text late.took late.waited))

-- what stands before a line, and after it
pub record Edges : Type 0 where
  pub front : List ℕ
  pub tail : List ℕ

-- one for each line
abbrev pub AreEdges : Bool → List (List ℕ) → List (Option LateTimes) → List (List ℕ) → List Edges → Type 0
AreEdges clock stamps tells [] [] = Unit {0}
AreEdges clock stamps tells [] (edge ∷ edges) = ⊥
AreEdges clock stamps tells (line ∷ lines) [] = ⊥
AreEdges clock stamps tells (line ∷ lines) (edge ∷ edges) = IsFront clock stamps line edge.front × IsTail tells line edge.tail × AreEdges clock stamps tells lines edges

-- each line between them
unfoldable pub lines_between : List Edges → List (List ℕ) → List ℕ
lines_between [] lines = []
lines_between (edge ∷ edges) [] = []
lines_between (edge ∷ edges) (line ∷ lines) = edge.front ++ (line ++ (edge.tail ++ line_feed ∷ lines_between edges lines))

-- What the monitor tells with moments is what it tells without: each line stands there after its moment, and before its times, none is left out, and none comes to
-- it.
abbrev pub MomentsLeaveLines : Type 0
MomentsLeaveLines =
    (clock : Bool) (text shown : List ℕ) → (edges : List Edges) × AreEdges clock (stamps_of text) (tells_of text) (lines_of shown) edges
    × (told_text clock text shown ≡ lines_between edges (lines_of shown))
