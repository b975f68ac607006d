-- What a line of the input comes to.
use Rattle.std.specs.Prelude.{◌≡◌, ◌⊎◌, ◌==◌, not, ℕ, ◌<◌, ◌≤◌, List, filter, length, IsUtf8}
use Rattle.osdp_line_answers.specs.Answers.{longest}
use Rattle.osdp_test_script.specs.Lines.{IsAnswered}
use Rattle.osdp_test_script.specs.Runs.{Called, refuses_line}
use Rattle.osdp_test_script.specs.Texts.{refusal_text}
use Rattle.osdp_test_script.specs.declared.refusal.Refusal.TheVariants.{NoText, TooLong}
use Rattle.osdp_test_script.specs.declared.run.ScriptRun.{ScriptRun}
use Rattle.osdp_tool_script.specs.declared.telling.Script.{Script}

-- carriage returns are no part of a line
abbrev pub kept : List ℕ → List ℕ
kept line = filter (λ b. not (b == 13)) line

-- a line of characters comes to what its text says; one that is no text is refused as that
abbrev pub IsRead : List ℕ → ScriptRun → Called → Type 0
IsRead line s c = (IsUtf8 (kept line) × IsAnswered (kept line) s c) ⊎ ((IsUtf8 (kept line) → ⊥) × (c ≡ refuses_line (refusal_text NoText) s))

-- .. and one that is too long as too long, whatever stands in it
abbrev pub IsTold : List ℕ → ScriptRun → Called → Type 0
IsTold line s c = ((length line ≤ longest) × IsRead line s c) ⊎ ((longest < length line) × (c ≡ refuses_line (refusal_text TooLong) s))

-- the same, as what is printed, and the script after it
pub record Tells (s : Script) (line text : List ℕ) (next : Script) : Type 0 where
  pub called : Called
  pub told : IsTold line s.run called
  pub text_is : text ≡ called.text
  pub run_is : next.run ≡ called.run
