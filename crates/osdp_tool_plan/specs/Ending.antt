-- How the command ends, and which words it refuses.
use Rattle.std.specs.Prelude.{◌≡◌, ◌⊎◌, ℕ, Bool, true, false, List, ◌++◌, Option, Some, Result, Ok, Err}
use Rattle.std.specs.Io.KnownBytes.{Appends, Keeps}
use Rattle.osdp_plan.specs.declared.judging.TooShort.{TooShort}
use Rattle.osdp_plan.specs.declared.judging.TooShort.TheVariants as short
use Rattle.osdp_plan.specs.declared.plan.Plan.{Plan}
use Rattle.osdp_plan.specs.Judging.{IsLongEnough, Judges}
use Rattle.osdp_settings.specs.Settings.{SettingFits, setting_words}
use Rattle.osdp_settings.specs.Wrong.{IsWrong}
use Rattle.osdp_settings.specs.declared.wrong.WrongSetting.{WrongSetting}
use Rattle.osdp_tool_plan.specs.declared.command.WrongPlan.{WrongPlan}
use Rattle.osdp_tool_plan.specs.declared.command.WrongPlan.TheVariants.{Setting, PacketPasses, AnswerComes, LineIsQuiet}
use Rattle.osdp_tool_plan.specs.Settings.{ArePlan, defaults, entry, put}
use Rattle.osdp_tool_plan.specs.Text.{plan_text}
use Rattle.osdp_tool_streams.specs.declared.fault.ToolFault.{ToolFault}
use Rattle.osdp_tool_streams.specs.declared.fault.ToolFault.TheVariants.{NotHex, TooLong, BadWords, BadStep, HoldsPacket, NotQuiet, ReadFailed, WriteFailed, NoMemory}

-- the words plan this line, and no setting of it is too short
pub record Plans (given : List (List ℕ)) (p : Plan) : Type 0 where
  pub are : ArePlan given p
  pub long_enough : IsLongEnough p

-- the refusal names the setting and its value, and how long it has to be
abbrev pub RefusesPlan : Plan → TooShort → WrongPlan → Type 0
RefusesPlan p (short.PacketPasses time) wrong = wrong ≡ PacketPasses p.reply_wait p.longest time p.rate
RefusesPlan p (short.AnswerComes time) wrong = wrong ≡ AnswerComes p.reply_wait time
RefusesPlan p (short.LineIsQuiet time) wrong = wrong ≡ LineIsQuiet p.quiet_wait time

-- the words are no settings, and the first that are none are told
pub record AreNoSettings (given : List (List ℕ)) (wrong : WrongPlan) : Type 0 where
  pub first : WrongSetting
  pub found : IsWrong (setting_words entry) (SettingFits entry) put defaults given first
  pub told : wrong ≡ Setting first

-- the words plan a line, and the first of its settings that is too short is told
pub record FallsShort (given : List (List ℕ)) (wrong : WrongPlan) : Type 0 where
  pub plan : Plan
  pub are : ArePlan given plan
  pub short : TooShort
  pub judged : Judges plan (Some short)
  pub told : RefusesPlan plan short wrong

-- why the words plan nothing
abbrev pub RefusesWords : List (List ℕ) → WrongPlan → Type 0
RefusesWords given wrong = AreNoSettings given wrong ⊎ FallsShort given wrong

abbrev pub PlansNone : List (List ℕ) → Type 0
PlansNone given = (p : Plan) → Plans given p → ⊥

-- the figures of the line that the words plan are printed
pub record Prints (given : List (List ℕ)) (before after : Option (List ℕ)) : Type 0 where
  pub plan : Plan
  pub planned : Plans given plan
  pub text : Appends before after (plan_text plan)

-- .. or a beginning of them: none, a part or all
pub record PrintsPart (given : List (List ℕ)) (before after : Option (List ℕ)) : Type 0 where
  pub plan : Plan
  pub planned : Plans given plan
  pub printed : List ℕ
  pub rest : List ℕ
  pub whole : plan_text plan ≡ printed ++ rest
  pub text : Appends before after printed

-- the words plan a line, and nothing is printed
pub record PrintsNone (given : List (List ℕ)) (before after : Option (List ℕ)) : Type 0 where
  pub plan : Plan
  pub planned : Plans given plan
  pub kept : Keeps before after

-- by the answer: what the output has before and after, where that is known, and whether it has failed in the end
abbrev pub Ends : List (List ℕ) → Option (List ℕ) → Option (List ℕ) → Bool → Result (Unit {0}) ToolFault → Type 0
Ends given before after failed (Ok done) = Prints given before after × (failed ≡ false)
Ends given before after failed (Err BadWords) = PlansNone given × Keeps before after × (failed ≡ false)
Ends given before after failed (Err WriteFailed) = (Keeps before after ⊎ PrintsPart given before after) × (failed ≡ true)
Ends given before after failed (Err NoMemory) = PrintsNone given before after × (failed ≡ false)
Ends given before after failed (Err (NotHex line)) = ⊥
Ends given before after failed (Err TooLong) = ⊥
Ends given before after failed (Err (BadStep line)) = ⊥
Ends given before after failed (Err (HoldsPacket step)) = ⊥
Ends given before after failed (Err (NotQuiet step)) = ⊥
Ends given before after failed (Err ReadFailed) = ⊥
