-- What becomes of a line that can't be read: it is refused with its number and the reason, and does nothing else.
use Rattle.std.specs.Prelude.{◌≡◌, ℕ, ◌<◌, ◌≤◌, List, ◌++◌, codes, length, IsUtf8}
use Rattle.std.specs.Fmt.{decimal}
use Rattle.osdp_test_script.specs.Lines.{IsAnswered}
use Rattle.osdp_test_script.specs.Runs.{Called, first_refused, one_more, settled}
use Rattle.osdp_test_script.specs.declared.run.ScriptRun.{ScriptRun}
use Rattle.osdp_tool_script.specs.Answers.{IsTold, kept}

abbrev pub number_of : ScriptRun → ℕ
number_of s = one_more (settled s).run.line

-- what was waited for is over, the line counts, and it is told with its number and this reason
pub record IsRefusedAs (why : List ℕ) (s : ScriptRun) (c : Called) : Type 0 where
  pub text : c.text ≡ (settled s).text ++ (codes "line " ++ (decimal (number_of s) ++ (codes " refused: " ++ (why ++ codes "\n"))))
  pub run : c.run ≡ record (settled s).run { line = number_of s; refused = first_refused (settled s).run.refused (number_of s) }

-- A line has 8,192 bytes at most. A longer one is refused as too long, whatever its characters are; any other one that is no text as that.
pub record TellsUnread (line : List ℕ) (s : ScriptRun) (c : Called) : Type 0 where
  pub long : 8192 < length line → IsRefusedAs (codes "it has more than 8192 bytes") s c
  pub no_text : length line ≤ 8192 → (IsUtf8 (kept line) → ⊥) → IsRefusedAs (codes "it is no text in UTF-8") s c
  pub read : length line ≤ 8192 → IsUtf8 (kept line) → IsAnswered (kept line) s c

abbrev pub AlwaysTellsUnread : Type 0
AlwaysTellsUnread = (line : List ℕ) (s : ScriptRun) (c : Called) → IsTold line s c → TellsUnread line s c
