-- That a rule is judged by the list of what was sent and heard, and by nothing else.
use Rattle.std.specs.Prelude.{◌≡◌, ◌≢◌, ℕ, Bool, true, false, List, [], ◌∷◌, ◌++◌, Option, Some, None}
use Rattle.osdp_frame.specs.Packet.{Packet}
use Rattle.osdp_rules.specs.Runs.{Sent, verdict_on}
use Rattle.osdp_rules.specs.declared.verdict.Verdict.{Verdict}
use Rattle.osdp_rules.specs.declared.verdict.Verdict.TheVariants as verdict
use Rattle.osdp_tool_test.specs.Entries.{Told}
use Rattle.osdp_tool_test.specs.Lines.{Line, asks, breaks, device, keeps, opens, skips, times}
use Rattle.osdp_tool_test.specs.Rules.{rule_in}
use Rattle.osdp_tool_test.specs.Seen.{answers, sent}
use Rattle.osdp_tool_test.specs.Tests.{DeviceTest, after_said, all_entries, new_test}
use Rattle.osdp_tool_test.specs.declared.exchange.Exchange.{Exchange}
use Rattle.osdp_tool_test.specs.declared.report.Form.{Form}
use Rattle.osdp_tool_test.specs.declared.rules.Ground.{Ground}
use Rattle.osdp_tool_test.specs.declared.rules.Ground.TheVariants.{Habit}
use Rattle.osdp_tool_test.specs.declared.rules.Rule.{Rule}

-- ---- what went over the line

abbrev pub place : Bool → ℕ → Option Packet → List Packet → Sent
place asked delay packet heard = record { asks = asked; packet = packet; answers = heard; delay = delay }

-- What was sent, a packet or bytes that hold none, and all that devices answered. Of two packets without a pause between them each has its answer where two came; else nobody knows whose
-- answer was heard, and none counts
abbrev pub places_of : Bool → ℕ → List Packet → List Packet → List Sent
places_of asked delay (p ∷ q ∷ []) (a ∷ b ∷ []) = place asked delay (Some p) (a ∷ []) ∷ place asked delay (Some q) (b ∷ []) ∷ []
places_of asked delay (p ∷ q ∷ []) heard = place asked delay (Some p) [] ∷ place asked delay (Some q) [] ∷ []
places_of asked delay (p ∷ packets) heard = place asked delay (Some p) heard ∷ []
places_of asked delay [] heard = place asked delay None heard ∷ []

abbrev pub places_in : Bool → Exchange → List Sent
places_in asked x = places_of asked x.delay (sent x) (answers x)

-- an exchange by which its rule is judged, or one that only leads to such
abbrev pub line_places : Line → List Sent
line_places (asks x) = places_in true x
line_places (opens x) = places_in false x
line_places _ = []

abbrev pub all_places : List Line → List Sent
all_places [] = []
all_places (line ∷ lines) = line_places line ++ all_places lines

-- ---- the lines of a test

-- the rule that a line names
abbrev pub named : Line → Option ℕ
named (device address) = None
named (opens x) = Some x.number
named (asks x) = Some x.number
named (skips x) = Some x.number
named (times n) = Some n
named (keeps n) = Some n
named (breaks x) = Some x.number

-- each of them names a rule, so none tells another address
abbrev pub AllName : List Rule → List Line → Type 0
AllName rules [] = Unit {0}
AllName rules (line ∷ lines) = ((n : ℕ) × (rule : Rule) × (named line ≡ Some n) × (rule_in rules n ≡ Some rule)) × AllName rules lines

-- the last of them names another rule than this one
abbrev pub EndElsewhere : ℕ → List Line → Type 0
EndElsewhere n [] = Unit {0}
EndElsewhere n (line ∷ []) = named line ≢ Some n
EndElsewhere n (line ∷ lines) = EndElsewhere n lines

-- the scenario of a rule: its exchanges, and that it was left out
abbrev pub IsScenario : ℕ → List Line → Type 0
IsScenario n [] = Unit {0}
IsScenario n (opens x ∷ lines) = (x.number ≡ n) × IsScenario n lines
IsScenario n (asks x ∷ lines) = (x.number ≡ n) × IsScenario n lines
IsScenario n (skips x ∷ lines) = (x.number ≡ n) × IsScenario n lines
IsScenario n (_ ∷ lines) = ⊥

-- why it was left out, as it was told last
abbrev pub why_skipped : List ℕ → List Line → List ℕ
why_skipped why [] = why
why_skipped why (skips x ∷ lines) = why_skipped x.why lines
why_skipped why (_ ∷ lines) = why_skipped why lines

-- the test after lines
abbrev pub after_lines : List Line → DeviceTest → DeviceTest
after_lines [] t = t
after_lines (line ∷ lines) t = after_lines lines (after_said (Some line) t)

-- ---- the law

-- a habit is never broken: what would break another rule leaves it open
abbrev pub verdict_by : Ground → Verdict → Verdict
verdict_by Habit verdict.Broken = verdict.Either
verdict_by _ v = v

-- the last entry is the rule's. Its verdict is the one on the list of what went over the line: of what came before its scenario, and of the scenario. It is told as left out where it was,
-- and where its verdict says nothing
pub record IsJudged (address n : ℕ) (rule : Rule) (earlier scenario : List Line) (entries : List Told) : Type 0 where
  pub before : List Told
  pub entry : Told
  pub last : entries ≡ before ++ entry ∷ []
  pub number : entry.number ≡ n
  pub verdict : entry.verdict ≡ verdict_by rule.ground (verdict_on rule.aspect address (all_places earlier) (all_places scenario))
  pub skipped : entry.skipped ≡ why_skipped [] scenario

-- whatever was said before, in whatever scenarios of other rules
abbrev pub JudgesByTheList : Type 0
JudgesByTheList = (form : Form) (rules : List Rule) (address n : ℕ) (rule : Rule) (earlier : List Line) (first : Line) (scenario : List Line)
    → AllName rules earlier → EndElsewhere n earlier → rule_in rules n ≡ Some rule → IsScenario n (first ∷ scenario)
    → IsJudged address n rule earlier (first ∷ scenario)
    (all_entries (after_lines (first ∷ scenario) (after_lines earlier (after_said (Some (device address)) (new_test form rules)))))
