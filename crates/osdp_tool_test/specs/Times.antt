-- How long the answers of a run took, and what is printed of it.
use Rattle.std.specs.Prelude.{ℕ, Bool, true, false, ◌&&◌, not, List, [], ◌++◌, codes, Option, Some, if◌then◌else◌, string_bytes}
use Rattle.std.specs.Fmt.{decimal}
use Rattle.std.specs.Option.{unwrap_or}
use Rattle.osdp_rules.specs.Delays.{delays_after, delays_finding, median, most, new_delays}
use Rattle.osdp_rules.specs.declared.aspect.Aspect.TheVariants.{Prompt}
use Rattle.osdp_rules.specs.declared.delays.Delays.{Delays}
use Rattle.osdp_rules.specs.declared.finding.Finding.{Finding}
use Rattle.osdp_rules.specs.declared.finding.Finding.TheVariants.{Broken}
use Rattle.osdp_tool_test.specs.Faults.{fault_text, mark}
use Rattle.osdp_tool_test.specs.declared.exchange.Exchange.{Exchange}
use Rattle.osdp_tool_test.specs.declared.report.Form.{Form}
use Rattle.osdp_tool_test.specs.declared.times.Times.{Times}

-- the times of all answers so far, and the lines of the first exchange whose answer was late
pub record RunTimes : Type 0 where
  pub delays : Delays
  pub late : List ℕ

abbrev pub times_of : Times → RunTimes
times_of t = record { delays = t.delays; late = string_bytes t.late }

abbrev pub new_times : RunTimes
new_times = record { delays = new_delays; late = [] }

abbrev pub is_broken : Finding → Bool
is_broken Broken = true
is_broken found = false

-- an answer so far was late
abbrev pub is_late : Delays → Bool
is_late delays = is_broken (delays_finding delays)

abbrev pub is_first_late : Delays → Delays → Bool
is_first_late before after = not (is_late before) && is_late after

-- one answer more
abbrev pub times_after : Form → Exchange → RunTimes → RunTimes
times_after form x t = record {
  delays = delays_after x.delay t.delays;
  late = if is_first_late t.delays (delays_after x.delay t.delays) then t.late ++ fault_text form Prompt x else t.late;
}

-- ---- what is printed: the first answer that was late, and a line that tells how long all took

unfoldable pub least_words : Form → ℕ → ℕ → List ℕ
least_words form total least = mark form ++ (codes "answers " ++ (decimal total ++ (codes ": least " ++ (decimal least ++ codes " ms, "))))

unfoldable pub middle_words : ℕ → ℕ → List ℕ
middle_words half most = codes "half within " ++ (decimal half ++ (codes " ms, 95 of 100 within " ++ (decimal most ++ codes " ms, ")))

unfoldable pub greatest_words : ℕ → List ℕ
greatest_words greatest = codes "greatest " ++ (decimal greatest ++ codes " ms\n")

abbrev pub answers_line : Form → Delays → ℕ → ℕ → List ℕ
answers_line form delays least greatest =
    least_words form delays.total least ++ (middle_words (unwrap_or (median delays) 0) (unwrap_or (most delays) 0) ++ greatest_words greatest)

-- where no answer came nothing is told
abbrev pub told_times : Form → List ℕ → Delays → Option ℕ → Option ℕ → List ℕ
told_times form late delays (Some least) (Some greatest) = late ++ answers_line form delays least greatest
told_times form late delays least greatest = []

abbrev pub times_text : Form → RunTimes → List ℕ
times_text form t = told_times form t.late t.delays t.delays.least t.delays.greatest
