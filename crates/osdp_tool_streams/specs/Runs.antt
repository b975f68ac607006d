-- Which runs of bytes an input holds.
use Rattle.std.specs.Prelude.{ℕ, ◌+◌, ◌==◌, not, List, [], ◌∷◌, ◌++◌, Option, Some, None, filter, length}
use Rattle.std.specs.List.{concat}
use Rattle.std.specs.Option.{option_map_or}
use Rattle.osdp_tool_streams.specs.declared.form.Form.{Form}
use Rattle.osdp_tool_streams.specs.declared.form.Form.TheVariants.{Raw, Joined, Apart}
use Rattle.osdp_tool_streams.specs.Cut.{ended_lines, lines_of}
use Rattle.osdp_tool_streams.specs.Line.{line_bytes}

-- the bytes of each line above the first bad one
unfoldable pub good_front : List (List ℕ) → List (List ℕ)
good_front [] = []
good_front (line ∷ lines) = option_map_or (λ bytes. bytes ∷ good_front lines) (line_bytes line) []

-- the number of the first bad line, where the first of the lines has this number
unfoldable pub bad_line : ℕ → List (List ℕ) → Option ℕ
bad_line number [] = None
bad_line number (line ∷ lines) = option_map_or (λ bytes. bad_line (number + 1) lines) (line_bytes line) (Some number)

-- those that have bytes
abbrev pub with_bytes : List (List ℕ) → List (List ℕ)
with_bytes runs = filter (λ run. not (length run == 0)) runs

-- the runs of an input; a bad line ends the input
abbrev pub runs_of : Form → List ℕ → List (List ℕ)
runs_of Raw bytes = with_bytes (bytes ∷ [])
runs_of Joined bytes = with_bytes (concat (good_front (lines_of bytes)) ∷ [])
runs_of Apart bytes = with_bytes (good_front (lines_of bytes))

-- of an input that goes on: the runs that have ended ..
abbrev pub ended_runs : Form → List ℕ → List (List ℕ)
ended_runs Raw bytes = []
ended_runs Joined bytes = []
ended_runs Apart bytes = with_bytes (good_front (ended_lines bytes))

-- .. and the run that has not; a line counts once it has ended
abbrev pub open_run : Form → List ℕ → List ℕ
open_run Raw bytes = bytes
open_run Joined bytes = concat (good_front (ended_lines bytes))
open_run Apart bytes = []

-- the number of the first bad line of an input, from 1
abbrev pub first_bad : Form → List ℕ → Option ℕ
first_bad Raw bytes = None
first_bad Joined bytes = bad_line 1 (lines_of bytes)
first_bad Apart bytes = bad_line 1 (lines_of bytes)

-- of an input that goes on: the first bad line that has ended
abbrev pub first_bad_ended : Form → List ℕ → Option ℕ
first_bad_ended Raw bytes = None
first_bad_ended Joined bytes = bad_line 1 (ended_lines bytes)
first_bad_ended Apart bytes = bad_line 1 (ended_lines bytes)

-- the runs, where the one that has not ended ends here
abbrev pub closed_runs : List (List ℕ) → List ℕ → List (List ℕ)
closed_runs ended open_bytes = ended ++ with_bytes (open_bytes ∷ [])
