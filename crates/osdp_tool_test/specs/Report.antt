-- What is printed of the rules.
use Rattle.std.specs.Prelude.{ℕ, Bool, true, false, List, ◌++◌, codes, count_by, flat_map, length}
use Rattle.std.specs.Fmt.{decimal}
use Rattle.osdp_tool_test.specs.Entries.{Told, outcome_of}
use Rattle.osdp_tool_test.specs.declared.entry.Outcome.{Outcome}
use Rattle.osdp_tool_test.specs.declared.entry.Outcome.TheVariants.{Unclear, Ok, Either, Broken, Skipped}
use Rattle.osdp_tool_test.specs.declared.report.Counts.{Counts}
use Rattle.osdp_tool_test.specs.declared.report.Form.{Form}
use Rattle.osdp_tool_test.specs.declared.report.Form.TheVariants.{Plain, Tap}
use Rattle.osdp_tool_test.specs.declared.rules.Ground.{Ground}
use Rattle.osdp_tool_test.specs.declared.rules.Ground.TheVariants.{Asked, Open, Habit}

abbrev pub ground_name : Ground → List ℕ
ground_name Asked = codes "the standard asks it"
ground_name Open = codes "the standard leaves it open in part"
ground_name Habit = codes "a habit of most devices"

-- ---- for people

abbrev pub plain_words : Outcome → Told → List ℕ
plain_words Unclear e = codes " unclear: " ++ (e.says ++ codes ": nothing was heard that shows it\n")
plain_words Ok e = codes " ok: " ++ (e.says ++ codes "\n")
plain_words Either e = codes " ok, in another way: " ++ (e.says ++ codes "\n")
plain_words Broken e = codes " broken: " ++ (e.says ++ (codes " (" ++ (ground_name e.ground ++ codes ")\n")))
plain_words Skipped e = codes " skipped: " ++ (e.says ++ (codes ": " ++ (e.skipped ++ codes "\n")))

abbrev pub plain_line : Told → List ℕ
plain_line e = decimal e.number ++ plain_words (outcome_of e) e

-- ---- for other programs: a rule that is broken isn't ok, and what comes after # SKIP was not tested

abbrev pub tap_words : Outcome → Told → List ℕ
tap_words Unclear e = codes "ok " ++ (decimal e.number ++ (codes " - " ++ (e.says ++ codes " # SKIP unclear: nothing was heard that shows it\n")))
tap_words Ok e = codes "ok " ++ (decimal e.number ++ (codes " - " ++ (e.says ++ codes "\n")))
tap_words Either e = codes "ok " ++ (decimal e.number ++ (codes " - " ++ (e.says ++ codes "\n")))
tap_words Broken e = codes "not ok " ++ (decimal e.number ++ (codes " - " ++ (e.says ++ codes "\n")))
tap_words Skipped e = codes "ok " ++ (decimal e.number ++ (codes " - " ++ (e.says ++ (codes " # SKIP " ++ (e.skipped ++ codes "\n")))))

abbrev pub tap_line : Told → List ℕ
tap_line e = tap_words (outcome_of e) e

-- ---- in both forms

abbrev pub line_of : Form → Told → List ℕ
line_of Plain e = plain_line e
line_of Tap e = tap_line e

-- how a rule came out, and the lines of what broke it
abbrev pub entry_text : Form → Told → List ℕ
entry_text form e = line_of form e ++ e.fault

abbrev pub entries_text : Form → List Told → List ℕ
entries_text form entries = flat_map (entry_text form) entries

abbrev pub same_outcome : Outcome → Outcome → Bool
same_outcome Unclear Unclear = true
same_outcome Ok Ok = true
same_outcome Either Either = true
same_outcome Broken Broken = true
same_outcome Skipped Skipped = true
same_outcome a b = false

abbrev pub has_outcome : Outcome → Told → Bool
has_outcome wanted e = same_outcome wanted (outcome_of e)

-- how many rules came out so
abbrev pub number_of : Outcome → List Told → ℕ
number_of wanted entries = count_by (has_outcome wanted) entries

abbrev pub all_counts : List Told → Counts
all_counts entries = record {
  ok = number_of Ok entries;
  either = number_of Either entries;
  broken = number_of Broken entries;
  unclear = number_of Unclear entries;
  skipped = number_of Skipped entries;
}

-- how many are kept, and how many not
unfoldable pub kept_words : ℕ → Counts → List ℕ
kept_words total counts = codes "rules " ++ (decimal total ++ (codes " ok " ++ (decimal counts.ok ++ (codes " otherwise " ++ decimal counts.either))))

unfoldable pub unkept_words : Counts → List ℕ
unkept_words counts =
    codes " broken " ++ (decimal counts.broken ++ (codes " unclear " ++ (decimal counts.unclear ++ (codes " skipped " ++ (decimal counts.skipped ++ codes "\n")))))

abbrev pub counts_line : Form → ℕ → Counts → List ℕ
counts_line Plain total counts = kept_words total counts ++ unkept_words counts
counts_line Tap total counts = codes "1.." ++ (decimal total ++ codes "\n")

-- the lines of all rules, and their counts
abbrev pub report_text : Form → List Told → List ℕ
report_text form entries = entries_text form entries ++ counts_line form (length entries) (all_counts entries)
