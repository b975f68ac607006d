-- The lines of a script by their names: what is read after a name is what the line is made of.
use Rattle.osdp_script.proofs.Common.{◌≡◌, ℕ, Bool, List, ◌∷◌, Option, codes, refl, option_map, CheckKind, Command, Event, IsRow, differ, row_read, Move, Issue, Queue, Busy, Wait, ToReader, ToController, Reopen, ReadsWords, Word, ScriptLine, Check, Reader, Step, Clean, LineFits, line_fields, line_name, line_words}

-- a row for each name of a line
pub data Row : Type 0 where
  CheckRow ReaderRow CleanRow : Row
  IssueRow QueueRow BusyRow WaitRow ToReaderRow ToControllerRow ReopenRow : Row

-- its name, what is read after it, and the line that this makes
pub record Entry : Type 1 where
  pub name : List ℕ
  pub Value : Type 0
  pub line : Value → ScriptLine

abbrev pub entry : Row → Entry
entry CheckRow = record { name = codes "check"; Value = CheckKind; line = Check }
entry ReaderRow = record { name = codes "reader"; Value = ℕ × ℕ; line = λ x. Reader x.0 x.1 }
entry IssueRow = record { name = codes "issue"; Value = ℕ × Command; line = λ x. Step (Issue x.0 x.1) }
entry QueueRow = record { name = codes "queue"; Value = ℕ × Event; line = λ x. Step (Queue x.0 x.1) }
entry BusyRow = record { name = codes "busy"; Value = ℕ × Bool; line = λ x. Step (Busy x.0 x.1) }
entry WaitRow = record { name = codes "wait"; Value = ℕ; line = λ time. Step (Wait time) }
entry ToReaderRow = record { name = codes "to-reader"; Value = Move; line = λ move. Step (ToReader move) }
entry ToControllerRow = record { name = codes "to-controller"; Value = Move; line = λ move. Step (ToController move) }
entry ReopenRow = record { name = codes "reopen"; Value = ℕ; line = λ reader. Step (Reopen reader) }
entry CleanRow = record { name = codes "clean"; Value = ℕ; line = Clean }

abbrev pub row_name : Row → List ℕ
row_name row = (entry row).name

abbrev pub RowValue : Row → Type 0
RowValue row = (entry row).Value

abbrev pub row_line : (row : Row) → RowValue row → ScriptLine
row_line row = (entry row).line

-- the words of such a value are the line's, and it is allowed where the line is
abbrev pub row_words : (row : Row) → RowValue row → List Word
row_words row x = line_fields (row_line row x)

abbrev pub RowFits : ℕ → (row : Row) → RowValue row → Type 0
RowFits readers row x = LineFits readers (row_line row x)

row_named : (row : Row) (x : RowValue row) → line_name (row_line row x) ≡ row_name row
row_named CheckRow x = refl
row_named row x = refl

-- no other line has the name
pub row_only : (row : Row) (m : ScriptLine) → line_name m ≡ row_name row → (x : RowValue row) × (m ≡ row_line row x)
row_only CheckRow (Check kind) e = (kind, refl)
row_only ReaderRow (Reader address room) e = ((address, room), refl)
row_only IssueRow (Step (Issue reader command)) e = ((reader, command), refl)
row_only QueueRow (Step (Queue reader event)) e = ((reader, event), refl)
row_only BusyRow (Step (Busy reader busy)) e = ((reader, busy), refl)
row_only WaitRow (Step (Wait time)) e = (time, refl)
row_only ToReaderRow (Step (ToReader move)) e = (move, refl)
row_only ToControllerRow (Step (ToController move)) e = (move, refl)
row_only ReopenRow (Step (Reopen reader)) e = (reader, refl)
row_only CleanRow (Clean count) e = (count, refl)
row_only row (Step (Reopen reader)) e = absurd (differ (line_name (Step (Reopen reader))) (row_name row) refl e)
row_only row m e = absurd (differ (line_name m) (row_name row) refl e)

is_row : (readers : ℕ) (row : Row)
    → IsRow line_name line_fields (LineFits readers) (row_words row) (RowFits readers row) (row_name row) (row_line row)
is_row readers row = record { named = row_named row; fields = λ x. refl; fits = λ x h. h; allowed = λ x h. h; only = row_only row }

-- a line is read as the value after its name is
pub reads_row : (readers : ℕ) (row : Row) (given : List (List ℕ)) (value : Option (RowValue row)) (result : Option ScriptLine)
    → ReadsWords (row_words row) (RowFits readers row) given value → result ≡ option_map (row_line row) value
    → ReadsWords line_words (LineFits readers) (row_name row ∷ given) result
reads_row readers row given value result reads made =
    row_read line_name line_fields (LineFits readers) (row_words row) (RowFits readers row) (row_name row) (row_line row) (is_row readers row) given value result reads made
