-- A line that `monitor` tells, as an object of JSON in a line of its own.
use Rattle.std.specs.Prelude.{ℕ, ◌-◌, ◌==◌, ◌&&◌, nat_le, if◌then◌else◌, Bool, List, [], ◌∷◌, ◌++◌, codes, drop, take, get_or, length}
use Rattle.std.specs.Str.Lossy.{utf8_lossy}
use Rattle.osdp_words.specs.Word.{words_in}
use Rattle.osdp_tool_objects.specs.Cuts.{after, before, begins_so, ends_so, has}
use Rattle.osdp_tool_objects.specs.Members.{columns, counts, member, stamp_of, text_of}
use Rattle.osdp_tool_objects.specs.declared.line.Kind.{Kind}
use Rattle.osdp_tool_objects.specs.declared.line.Kind.TheVariants as kind

-- ---- kinds of lines

abbrev pub is_decimal : ℕ → Bool
is_decimal b = nat_le 48 b && nat_le b 57

-- a number stands at its head: of a run, with a colon after it, or an address, in the table
abbrev pub numbered_kind : List ℕ → Kind
numbered_kind line = if has 58 line then kind.Run else kind.Row

-- what came since the last table stands after a plus
abbrev pub windowed_kind : List ℕ → Kind
windowed_kind line =
    if begins_so line (codes "+runs ") then kind.WindowCounts
    else (if begins_so line (codes "+") then kind.WindowRow else (if begins_so line (codes "window ") then kind.Heading else kind.Note))

abbrev pub worded_kind : List ℕ → Kind
worded_kind line =
    if begins_so line (codes "     expected ") then kind.Expected
    else (if begins_so line (codes "     seen     ") then kind.Seen
    else (if begins_so line (codes "runs ") then kind.Counts
    else (if begins_so line (codes "diagnosis: ") then kind.Diagnosis
    else (if begins_so line (codes "device ") then kind.Heading else windowed_kind line))))

abbrev pub kind_of : List ℕ → Kind
kind_of line = if is_decimal (get_or line 0 0) then numbered_kind line else worded_kind line

-- ---- about a run: `3:0 panel to 5: a number out of turn (standard)`, or an item, `3:0 cmd 5 seq 0 crc POLL`

-- what stands after the number of the run and the place in it
abbrev pub words_of : List ℕ → List ℕ
words_of line = after 32 line

-- how many characters say who is spoken of, with the blank after it; 0 where nobody is
abbrev pub party_length : List ℕ → ℕ
party_length words =
    if begins_so words (codes "device ") then 7
    else (if begins_so words (codes "panel to ") then 9 else (if begins_so words (codes "reader ") then 7 else 0))

-- how many characters say what asks for the rule that was broken; 0 where none is
abbrev pub basis_length : List ℕ → ℕ
basis_length told = if ends_so told (codes " (standard)") then 11 else (if ends_so told (codes " (profile)") then 10 else 0)

abbrev pub basis_of : ℕ → List ℕ
basis_of size = if size == 11 then codes "\"standard\"" else (if size == 10 then codes "\"profile\"" else codes "null")

-- what is told, and what asks for it
abbrev pub told_members : List ℕ → List ℕ
told_members told =
    member (codes "text") (text_of (take (length told - basis_length told) told)) ++ member (codes "basis") (basis_of (basis_length told))

-- after who is spoken of: the address, a colon and a blank, and what is told
abbrev pub address_members : List ℕ → List ℕ
address_members rest = member (codes "address") (before 58 rest) ++ told_members (drop 1 (after 58 rest))

abbrev pub party_members : ℕ → List ℕ → List ℕ
party_members size words = member (codes "party") (text_of (take (size - 1) words)) ++ address_members (drop size words)

abbrev pub word_members : List ℕ → List ℕ
word_members words = if party_length words == 0 then member (codes "text") (text_of words) else party_members (party_length words) words

abbrev pub run_kind : List ℕ → List ℕ
run_kind words = if party_length words == 0 then codes "{\"kind\":\"item\"" else codes "{\"kind\":\"told\""

-- the number of the run, the place in it and the stamp of the run
abbrev pub place_members : List ℕ → List ℕ → List ℕ
place_members stamp line =
    member (codes "run") (before 58 line) ++ (member (codes "place") (after 58 (before 32 line)) ++ member (codes "stamp") (stamp_of stamp))

-- whoever calls may have more members to tell
abbrev pub run_object : List ℕ → List ℕ → List ℕ → List ℕ
run_object stamp more line = run_kind (words_of line) ++ (place_members stamp line ++ (word_members (words_of line) ++ (more ++ codes "}\n")))

-- ---- the table

unfoldable pub column_names : List (List ℕ)
column_names =
    codes "address" ∷ codes "asked" ∷ codes "polls" ∷ codes "repeats" ∷ codes "answered" ∷ codes "busy" ∷ codes "nak" ∷ codes "events"
    ∷ codes "opened" ∷ codes "moved" ∷ codes "judged" ∷ codes "forgot" ∷ codes "accused" ∷ []

abbrev pub columns_object : List ℕ → List (List ℕ) → List ℕ
columns_object start numbers = start ++ (columns column_names numbers ++ codes "}\n")

abbrev pub row_object : List ℕ → List ℕ → List ℕ
row_object start line = columns_object start (words_in (utf8_lossy line))

abbrev pub counts_object : List ℕ → List ℕ → List ℕ
counts_object start line = start ++ (counts (words_in (utf8_lossy line)) ++ codes "}\n")

-- ---- words alone

abbrev pub words_object : List ℕ → List ℕ → List ℕ
words_object start words = start ++ (text_of words ++ codes "}\n")

-- ---- any line

abbrev pub kind_object : Kind → List ℕ → List ℕ → List ℕ → List ℕ
kind_object kind.Run stamp more line = run_object stamp more line
kind_object kind.Row stamp more line = row_object (codes "{\"kind\":\"device\"") line
kind_object kind.Counts stamp more line = counts_object (codes "{\"kind\":\"line\"") line
kind_object kind.WindowRow stamp more line = row_object (codes "{\"kind\":\"window\"") (drop 1 line)
kind_object kind.WindowCounts stamp more line = counts_object (codes "{\"kind\":\"window_line\"") (drop 1 line)
kind_object kind.Diagnosis stamp more line = words_object (codes "{\"kind\":\"diagnosis\",\"text\":") (drop 11 line)
kind_object kind.Expected stamp more line = words_object (codes "{\"kind\":\"expected\",\"packet\":") (drop 14 line)
kind_object kind.Seen stamp more line = words_object (codes "{\"kind\":\"seen\",\"packet\":") (drop 14 line)
kind_object kind.Note stamp more line = words_object (codes "{\"kind\":\"note\",\"text\":") line
-- the head of a table has none: its names are those of the members
kind_object kind.Heading stamp more line = []

-- a line about a run has these members after its own
abbrev pub object_with : List ℕ → List ℕ → List ℕ → List ℕ
object_with stamp more line = kind_object (kind_of line) stamp more line

abbrev pub object_of : List ℕ → List ℕ → List ℕ
object_of stamp line = object_with stamp [] line
