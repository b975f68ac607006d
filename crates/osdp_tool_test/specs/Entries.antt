-- What was found of a rule.
use Rattle.std.specs.Prelude.{ℕ, ◌==◌, ◌||◌, Bool, true, false, List, [], ◌++◌, length, string_bytes, if◌then◌else◌}
use Rattle.osdp_rules.specs.declared.finding.Finding.{Finding}
use Rattle.osdp_rules.specs.declared.finding.Finding.TheVariants as finding
use Rattle.osdp_rules.specs.declared.verdict.Verdict.{Verdict}
use Rattle.osdp_rules.specs.declared.verdict.Verdict.TheVariants as verdict
use Rattle.osdp_rules.specs.Verdicts.{verdict_after}
use Rattle.osdp_tool_test.specs.declared.entry.Entry.{Entry}
use Rattle.osdp_tool_test.specs.declared.entry.Outcome.{Outcome}
use Rattle.osdp_tool_test.specs.declared.entry.Outcome.TheVariants.{Unclear, Ok, Either, Broken, Skipped}
use Rattle.osdp_tool_test.specs.declared.rules.Ground.{Ground}
use Rattle.osdp_tool_test.specs.declared.rules.Ground.TheVariants.{Habit}

-- a rule, and what was found of it: the verdict, the lines of what broke it first, and why its scenario was left out, where it was
pub record Told : Type 0 where
  pub number : ℕ
  pub says : List ℕ
  pub ground : Ground
  pub verdict : Verdict
  pub fault : List ℕ
  pub skipped : List ℕ

abbrev pub told : Entry → Told
told e = record {
  number = e.number;
  says = e.says.now;
  ground = e.ground;
  verdict = e.verdict;
  fault = string_bytes e.fault;
  skipped = string_bytes e.skipped;
}

-- nothing yet
abbrev pub new_entry : ℕ → List ℕ → Ground → Told
new_entry number says ground = record { number = number; says = says; ground = ground; verdict = verdict.Unclear; fault = []; skipped = [] }

-- a rule whose scenario was left out comes out so where nothing else shows it
abbrev pub outcome : Verdict → Bool → Outcome
outcome verdict.Unclear true = Unclear
outcome verdict.Unclear false = Skipped
outcome verdict.Ok unskipped = Ok
outcome verdict.Either unskipped = Either
outcome verdict.Broken unskipped = Broken

abbrev pub outcome_of : Told → Outcome
outcome_of e = outcome e.verdict (length e.skipped == 0)

-- a finding breaks the rule, and none did before
abbrev pub is_first_break : Verdict → Finding → Bool
is_first_break verdict.Broken found = false
is_first_break v finding.Broken = true
is_first_break v found = false

-- .. or leaves it open, where no other one did
abbrev pub is_first_open : Verdict → Finding → Bool
is_first_open verdict.Unclear finding.Either = true
is_first_open verdict.Ok finding.Either = true
is_first_open v found = false

-- what is a habit alone is left open where another rule would be broken
abbrev pub by_ground : Ground → Finding → Finding
by_ground Habit finding.Broken = finding.Either
by_ground ground found = found

abbrev pub with_finding : Finding → Told → Told
with_finding found e = record e { verdict = verdict_after e.verdict found }

-- .. and the lines of it are kept where it is the first that breaks the rule
abbrev pub after_finding : Finding → List ℕ → Told → Told
after_finding found lines e =
    record (with_finding found e) { fault = if is_first_break e.verdict found then e.fault ++ lines else e.fault }

-- .. and also where it is the first that leaves the rule open: so the answer is told
abbrev pub after_shown : Finding → List ℕ → Told → Told
after_shown found lines e =
    record (with_finding found e) { fault = if is_first_break e.verdict found || is_first_open e.verdict found then e.fault ++ lines else e.fault }
