-- What follows where words plan a line, and where they don't.
use Rattle.std.specs.Prelude.{◌≡◌, ◌⊎◌, ◌↔◌, ℕ, Bool, true, false, List, ◌++◌, Option, Some, None, OnOk, Result, Ok, Err}
use Rattle.osdp_plan.specs.declared.judging.TooShort.{TooShort}
use Rattle.osdp_plan.specs.declared.plan.Plan.{Plan}
use Rattle.osdp_plan.specs.Judging.{Judges}
use Rattle.osdp_plan.specs.Plans.{IsPlan}
use Rattle.osdp_settings.specs.Settings.{SettingFits}
use Rattle.osdp_settings.specs.Wrong.{told_by}
use Rattle.osdp_tool_plan.specs.declared.command.WrongPlan.{WrongPlan}
use Rattle.osdp_tool_plan.specs.declared.command.WrongPlan.TheVariants.{Setting}
use Rattle.osdp_tool_plan.specs.declared.setting.PlanSetting.{PlanSetting}
use Rattle.osdp_tool_plan.specs.declared.setting.PlanSetting.TheVariants.{Longest}
use Rattle.osdp_tool_plan.specs.Settings.{entry, with_setting}
use Rattle.osdp_tool_plan.specs.Ending.{Ends, Plans, PlansNone, Prints, RefusesWords}
use Rattle.osdp_tool_plan.specs.Text.{plan_text}
use Rattle.osdp_tool_streams.specs.declared.fault.ToolFault.{ToolFault}
use Rattle.osdp_tool_streams.specs.declared.fault.ToolFault.TheVariants.{BadWords, WriteFailed, NoMemory}

-- the words plan one line, within its ranges; no setting of it is told to be too short; and one text is printed of it
pub record ArePlannedOnce (given : List (List ℕ)) : Type 0 where
  pub line : (a b : Plan) → Plans given a → Plans given b → a ≡ b
  pub range : (p : Plan) → Plans given p → IsPlan p
  pub judged : (p : Plan) (short : Option TooShort) → Plans given p → Judges p short → short ≡ None
  pub text : (start one other : List ℕ) → Prints given (Some start) (Some one) → Prints given (Some start) (Some other) → one ≡ other

-- .. whatever the words are
abbrev pub PlansOnce : Type 0
PlansOnce = (given : List (List ℕ)) → ArePlannedOnce given

-- a setting fits exactly where it leaves a plan in its ranges. Packets of 7 bytes are in range too, as those of POLLs with a sum, and no words set them
pub record FitsExactly (s : PlanSetting) (p : Plan) : Type 0 where
  pub keeps : SettingFits entry s → IsPlan (with_setting s p)
  pub fits : IsPlan (with_setting s p) → SettingFits entry s ⊎ (s ≡ Longest 7)

abbrev pub RangesAreOfSettings : Type 0
RangesAreOfSettings = (s : PlanSetting) (p : Plan) → IsPlan p → FitsExactly s p

-- the same is told: the same of the same words, or the same times
abbrev pub AreSameRefusal : WrongPlan → WrongPlan → Type 0
AreSameRefusal (Setting a) (Setting b) = told_by a ≡ told_by b
AreSameRefusal a b = a ≡ b

-- the words are refused for one thing at most, and for none where they plan a line
pub record AreRefusedOnce (given : List (List ℕ)) : Type 0 where
  pub one : (a b : WrongPlan) → RefusesWords given a → RefusesWords given b → AreSameRefusal a b
  pub not_both : (wrong : WrongPlan) (p : Plan) → RefusesWords given wrong → Plans given p → ⊥

abbrev pub RefusesOnce : Type 0
RefusesOnce = (given : List (List ℕ)) → AreRefusedOnce given

-- what the command may answer
abbrev pub IsAnswer : Result (Unit {0}) ToolFault → Type 0
IsAnswer (Ok done) = Unit {0}
IsAnswer (Err BadWords) = Unit {0}
IsAnswer (Err WriteFailed) = Unit {0}
IsAnswer (Err NoMemory) = Unit {0}
IsAnswer _ = ⊥

-- a beginning of the figures of the line that the words plan
pub record IsBegun (given : List (List ℕ)) (start now : List ℕ) : Type 0 where
  pub plan : Plan
  pub planned : Plans given plan
  pub rest : List ℕ
  pub whole : start ++ plan_text plan ≡ now ++ rest

-- Words that plan no line are refused, and no others, unless a write failed before. A failed write is told exactly where there was one. All of the figures are printed where the work is
-- done, nothing without memory, and else nothing or a beginning of them.
pub record IsToldInTurn (given : List (List ℕ)) (start now : List ℕ) (failed : Bool) (result : Result (Unit {0}) ToolFault) : Type 0 where
  pub answer : IsAnswer result
  pub refused : (result ≡ Err BadWords) ↔ (PlansNone given × (failed ≡ false))
  pub write : (result ≡ Err WriteFailed) ↔ (failed ≡ true)
  pub done : (p : Plan) → Plans given p → OnOk result (now ≡ start ++ plan_text p)
  pub memory : result ≡ Err NoMemory → now ≡ start
  pub printed : (now ≡ start) ⊎ IsBegun given start now

-- however it ends
abbrev pub EndsInTurn : Type 0
EndsInTurn =
    (given : List (List ℕ)) (start now : List ℕ) (failed : Bool) (result : Result (Unit {0}) ToolFault)
    → Ends given (Some start) (Some now) failed result → IsToldInTurn given start now failed result
