-- The lines of `show`, each after the moment and the way of its run.
use Rattle.std.specs.Prelude.{ℕ, ◌+◌, ◌-◌, ◌*◌, ◌==◌, ◌&&◌, ◌||◌, not, Bool, false, List, [], ◌∷◌, ◌++◌, codes, drop, flat_map, get_or, map, if◌then◌else◌}
use Rattle.std.specs.List.{ends_with, starts_with}
use Rattle.std.specs.Borrow.{Bor}
use Rattle.osdp_tool_captures.specs.Lines.{is_decimal}
use Rattle.osdp_tool_streams.specs.Cut.{line_feed, lines_of}
use Rattle.osdp_tool_streams.specs.Line.{kept}
use Rattle.osdp_tool_inputs.specs.Printable.{printable}

-- the bytes of each part of a text
abbrev pub parts : List (Bor (List ℕ)) → List (List ℕ)
parts lent = map (λ (part : Bor (List ℕ)). part.now) lent

-- what stands in front of a line whose run has no moment
abbrev pub no_stamp : List ℕ
no_stamp = codes "-"

abbrev pub ends_so : List ℕ → List ℕ → Bool
ends_so text end = ends_with (λ a b. a == b) text end

-- a comment with a moment and a way: it ends in one of the ways
abbrev pub is_stamp : List ℕ → Bool
is_stamp line =
    starts_with (λ a b. a == b) line (codes "# ")
    && (ends_so line (codes " in") || (ends_so line (codes " out") || ends_so line (codes " trace")))

-- of the characters of a line that count: neither nothing nor a comment
abbrev pub are_digits : List ℕ → Bool
are_digits [] = false
are_digits (first ∷ rest) = not (first == 35)

abbrev pub has_digits : List ℕ → Bool
has_digits line = are_digits (kept line)

-- The stamp of each line of digits: the comment with a moment that stands above it, and below the one before it. The first of them may stand
-- below this stamp already.
unfoldable pub stamps_below : List ℕ → List (List ℕ) → List (List ℕ)
stamps_below stamp [] = []
stamps_below stamp (line ∷ lines) =
    if is_stamp line then stamps_below (drop 2 line) lines
    else (if has_digits line then stamp ∷ stamps_below no_stamp lines else stamps_below stamp lines)

abbrev pub stamps_of : List ℕ → List (List ℕ)
stamps_of text = stamps_below no_stamp (lines_of text)

-- the number whose decimal digits stand at the head of a line, where those of this one stand before them
unfoldable pub number_after : ℕ → List ℕ → ℕ
number_after n [] = n
number_after n (b ∷ line) = if is_decimal b then number_after (n * 10 + (b - 48)) line else n

abbrev pub run_of : List ℕ → ℕ
run_of line = number_after 0 line

-- the stamp of a run, of which the first is run 1
abbrev pub stamp_at : ℕ → List (List ℕ) → List ℕ
stamp_at run stamps = if run == 0 then no_stamp else get_or stamps (run - 1) no_stamp

-- a line of `show`, after the stamp of its run, whose control characters are shown
abbrev pub timed_line : List (List ℕ) → List ℕ → List ℕ
timed_line stamps line = printable (stamp_at (run_of line) stamps) ++ (codes " " ++ (line ++ line_feed ∷ []))

-- what `show` prints of the digits in a text, with the stamps of the text
abbrev pub timed_text : List ℕ → List ℕ → List ℕ
timed_text text shown = flat_map (timed_line (stamps_of text)) (lines_of shown)
