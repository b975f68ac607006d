-- The names that most proofs of this crate cite, passed on from one place. Declares nothing.
pub use Rattle.std.proofs.Common.{[], ap, append-nil, append_assoc, arith, Bool, codes, drop, Err, false, if◌then◌else◌, inl, inr, is_err, List, None, Ok, OnErr, OnOk, Option, refl, Result, Some, subst, sym, take, take-append-drop, true, ℕ, ◌&&◌, ◌++◌, ◌<◌, ◌==◌, ◌^◌, ◌||◌, ◌↔◌, ◌∙◌, ◌∷◌, ◌≡◌, ◌⊎◌}
pub use Rattle.std.specs.Prelude.{IfErr, IsOkUnless}
pub use Rattle.osdp_plan.specs.declared.plan.Plan.{Plan}
pub use Rattle.osdp_tool_plan.specs.Ending.{Ends, Plans, PlansNone, Prints, PrintsPart, RefusesPlan, RefusesWords}
pub use Rattle.osdp_tool_plan.specs.Laws.{AreSameRefusal, EndsInTurn, IsBegun, IsToldInTurn, PlansOnce, RefusesOnce}
pub use Rattle.osdp_tool_plan.specs.Text.{plan_text}
pub use Rattle.osdp_tool_streams.specs.Watched.{AppendsPart, has_failed, inner_of}
pub use Rattle.osdp_plan.specs.declared.judging.TooShort.{TooShort}
pub use Rattle.osdp_plan.specs.Judging.{HasOneJudgement, IsLongEnough, Judges}
pub use Rattle.osdp_settings.proofs.Reading.{some_same}
pub use Rattle.osdp_settings.specs.Settings.{after, Give, setting_words, SettingFits}
pub use Rattle.osdp_tool_plan.specs.Settings.{AreInRange, ArePlan, defaults, entry, put, with_setting}
pub use Rattle.osdp_tool_plan.specs.declared.setting.Planned.{Planned}
pub use Rattle.osdp_tool_plan.specs.declared.setting.PlanSetting.{PlanSetting}
pub use Rattle.osdp_words.specs.Word.{AllStandFor, texts}
pub use Rattle.osdp_tool_plan.specs.declared.setting.PlanSetting.TheVariants.{Answer, BusyLimit, BusyWait, Check, Hold, Late, Longest, Orders, PollInterval, QuietWait, Rate, Readers, ReplyWait, Sends}
pub use Rattle.osdp_plan.specs.Plans.{default_plan, IsPlan}
