-- What happens on a line, by the pieces in which its bytes come and by their moments.
use Rattle.std.specs.Prelude.{ℕ, ◌+◌, ◌*◌, Bool, true, false, if◌then◌else◌, List, [], ◌∷◌, ◌++◌, length, map, flat_map, Option, None, Some, is_some}
use Rattle.osdp_frame.specs.Silence.{is_silent_for}
use Rattle.osdp_tool_streams.specs.Cut.{ended_after, unended_after}
use Rattle.osdp_tool_streams.specs.Line.{kept}
use Rattle.osdp_tool_streams.specs.Runs.{bad_line, good_front}
use Rattle.osdp_tool_monitor.specs.Hearing.{Come, LineEvent, RunEnds, TableDue, TableTold}
use Rattle.osdp_tool_monitor.specs.declared.mode.MonitorMode.{MonitorMode}

-- what one read gave, and the moment after it
pub record Piece : Type 0 where
  pub bytes : List ℕ
  pub moment : ℕ

-- what counts of the pieces so far
pub record Cut : Type 0 where
  -- the moment of the last one
  pub last : Option ℕ
  -- the moment of the last table, or of the first piece
  pub tabled : Option ℕ
  -- of lines of digits: the characters that count of the line that has not ended, and how many have ended
  pub line : List ℕ
  pub ended : ℕ

abbrev pub nothing_cut : Cut
nothing_cut = record { last = None; tabled = None; line = []; ended = 0 }

-- ---- bytes: a run ends by the clock

-- bytes come the gap or more after the last ones
abbrev pub is_over : ℕ → Option ℕ → ℕ → Bool
is_over gap None now = false
is_over gap (Some last) now = is_silent_for gap last now

abbrev pub gap_events : Bool → List LineEvent
gap_events over = if over then RunEnds [] ∷ [] else []

-- but of bytes that were recorded before the moments tell nothing
abbrev pub is_run_over : Bool → ℕ → Option ℕ → ℕ → Bool
is_run_over recorded gap last now = if recorded then false else is_over gap last now

abbrev pub byte_events : Bool → ℕ → Option ℕ → Piece → List LineEvent
byte_events recorded gap last piece = gap_events (is_run_over recorded gap last piece.moment) ++ Come piece.bytes ∷ []

-- ---- lines of digits: each line is a run; a bad line ends the input

abbrev pub run_events : List (List ℕ) → List LineEvent
run_events lines = map RunEnds (good_front lines)

-- ---- the table

-- it is due so many seconds after the last one
abbrev pub is_due : Option ℕ → Option ℕ → ℕ → Bool
is_due None tabled now = false
is_due (Some every) tabled now = is_over (1000 * every) tabled now

abbrev pub table_events : Bool → List LineEvent
table_events due = if due then TableDue ∷ TableTold ∷ [] else []

abbrev pub tabled_after : Bool → Option ℕ → ℕ → Option ℕ
tabled_after due None now = Some now
tabled_after due (Some tabled) now = if due then Some now else Some tabled

-- ---- piece by piece

-- the lines of digits that end in a piece
abbrev pub lines_in : Bool → Cut → Piece → List (List ℕ)
lines_in false c piece = []
lines_in true c piece = ended_after c.line piece.bytes

-- the number of the bad line that ends in it
abbrev pub bad_in : Bool → Cut → Piece → Option ℕ
bad_in hex c piece = bad_line (c.ended + 1) (lines_in hex c piece)

-- what its bytes bring
abbrev pub bytes_events : MonitorMode → Cut → Piece → List LineEvent
bytes_events mode c piece =
    if mode.hex then run_events (lines_in true c piece) else byte_events mode.recorded mode.gap c.last piece

-- and the table after it, where no bad line has ended
abbrev pub piece_events : MonitorMode → Cut → Piece → List LineEvent
piece_events mode c piece =
    bytes_events mode c piece
    ++ (if is_some (bad_in mode.hex c piece) then [] else table_events (is_due mode.every c.tabled piece.moment))

-- the lines that its bytes end, and the one that goes on
abbrev pub after_bytes : MonitorMode → Cut → Piece → Cut
after_bytes mode c piece = record c {
  line = if mode.hex then kept (unended_after c.line piece.bytes) else c.line;
  ended = c.ended + length (lines_in mode.hex c piece);
}

abbrev pub after_piece : MonitorMode → Cut → Piece → Cut
after_piece mode c piece = record (after_bytes mode c piece) {
  last = Some piece.moment;
  tabled = tabled_after (is_due mode.every c.tabled piece.moment) c.tabled piece.moment;
}

unfoldable pub after_pieces : MonitorMode → Cut → List Piece → Cut
after_pieces mode c [] = c
after_pieces mode c (piece ∷ pieces) = after_pieces mode (after_piece mode c piece) pieces

unfoldable pub pieces_events : MonitorMode → Cut → List Piece → List LineEvent
pieces_events mode c [] = []
pieces_events mode c (piece ∷ pieces) = piece_events mode c piece ++ pieces_events mode (after_piece mode c piece) pieces

-- no bad line has ended in them
unfoldable pub are_good : MonitorMode → Cut → List Piece → Bool
are_good mode c [] = true
are_good mode c (piece ∷ pieces) = if is_some (bad_in mode.hex c piece) then false else are_good mode (after_piece mode c piece) pieces

-- ---- the end

-- the last line of digits ends with the input
abbrev pub last_lines : Bool → Cut → List (List ℕ)
last_lines false c = []
last_lines true c = c.line ∷ []

abbrev pub bad_at_end : Bool → Cut → Option ℕ
bad_at_end hex c = bad_line (c.ended + 1) (last_lines hex c)

-- the run ends with the input
abbrev pub closing_events : Bool → Cut → List LineEvent
closing_events hex c = if hex then run_events (last_lines true c) else RunEnds [] ∷ []

-- and the table is printed
abbrev pub end_events : Bool → Cut → List LineEvent
end_events hex c = closing_events hex c ++ TableDue ∷ []

-- how the pieces of an input are followed: by more, by its end, or by nothing that is read, after a bad line or a failed read
pub data Following : Type 0 where
  More : Following
  End : Following
  Broken : Following

abbrev pub last_events : Following → MonitorMode → Cut → List LineEvent
last_events More mode c = []
last_events End mode c = end_events mode.hex c
last_events Broken mode c = TableDue ∷ []

-- all that happens in an input
abbrev pub input_events : Following → MonitorMode → List Piece → List LineEvent
input_events following mode pieces =
    pieces_events mode nothing_cut pieces ++ last_events following mode (after_pieces mode nothing_cut pieces)

-- its bytes, and its moments
abbrev pub bytes_of : List Piece → List ℕ
bytes_of pieces = flat_map (λ piece. piece.bytes) pieces

abbrev pub moments_of : List Piece → List ℕ
moments_of pieces = map (λ piece. piece.moment) pieces
