-- The settings of a plan: their words, and what each sets.
use Rattle.std.specs.Prelude.{ℕ, ◌≤◌, List, codes, Option, Some}
use Rattle.osdp_frame.specs.Check.{check_name}
use Rattle.osdp_frame.specs.Times.{longest_time}
use Rattle.osdp_plan.specs.declared.plan.Plan.{Plan}
use Rattle.osdp_plan.specs.Plans.{IsPlan, default_plan}
use Rattle.osdp_settings.specs.Settings.{Entry, Make, SettingFits, setting_words}
use Rattle.osdp_words.specs.Word.{plain, number}
use Rattle.osdp_tool_plan.specs.declared.setting.PlanSetting.{PlanSetting}
use Rattle.osdp_tool_plan.specs.declared.setting.PlanSetting.TheVariants.{Check, Readers, Rate, Longest, Answer, Hold, Late, Orders, ReplyWait, PollInterval, Sends, BusyWait, BusyLimit, QuietWait}
use Rattle.osdp_tool_plan.specs.declared.setting.Planned.{Planned}

-- the name of each, its value as a word, and the range that is asked of it
abbrev pub entry : PlanSetting → Entry
entry (Check kind) = record { name = codes "check"; value = plain (check_name kind); Fits = Unit {0} }
entry (Readers n) = record { name = codes "readers"; value = number n; Fits = (1 ≤ n) × (n ≤ 16) }
entry (Rate n) = record { name = codes "rate"; value = number n; Fits = (300 ≤ n) × (n ≤ 1000000) }
entry (Longest n) = record { name = codes "longest"; value = number n; Fits = (8 ≤ n) × (n ≤ 1440) }
entry (Answer n) = record { name = codes "answer"; value = number n; Fits = (0 ≤ n) × (n ≤ longest_time) }
entry (Hold n) = record { name = codes "hold"; value = number n; Fits = (0 ≤ n) × (n ≤ longest_time) }
entry (Late n) = record { name = codes "late"; value = number n; Fits = (0 ≤ n) × (n ≤ longest_time) }
entry (Orders n) = record { name = codes "orders"; value = number n; Fits = (0 ≤ n) × (n ≤ 1024) }
entry (ReplyWait n) = record { name = codes "reply-wait"; value = number n; Fits = (1 ≤ n) × (n ≤ longest_time) }
entry (PollInterval n) = record { name = codes "poll-interval"; value = number n; Fits = (1 ≤ n) × (n ≤ longest_time) }
entry (Sends n) = record { name = codes "sends"; value = number n; Fits = (1 ≤ n) × (n ≤ 255) }
entry (BusyWait n) = record { name = codes "busy-wait"; value = number n; Fits = (1 ≤ n) × (n ≤ longest_time) }
entry (BusyLimit n) = record { name = codes "busy-limit"; value = number n; Fits = (0 ≤ n) × (n ≤ 255) }
entry (QuietWait n) = record { name = codes "quiet-wait"; value = number n; Fits = (1 ≤ n) × (n ≤ longest_time) }

abbrev pub with_setting : PlanSetting → Plan → Plan
with_setting (Check kind) p = record p { check = kind }
with_setting (Readers n) p = record p { readers = n }
with_setting (Rate n) p = record p { rate = n }
with_setting (Longest n) p = record p { longest = n }
with_setting (Answer n) p = record p { answer = n }
with_setting (Hold n) p = record p { hold = n }
with_setting (Late n) p = record p { late = n }
with_setting (Orders n) p = record p { orders = n }
with_setting (ReplyWait n) p = record p { reply_wait = n }
with_setting (PollInterval n) p = record p { poll_interval = n }
with_setting (Sends n) p = record p { sends = n }
with_setting (BusyWait n) p = record p { busy_wait = n }
with_setting (BusyLimit n) p = record p { busy_limit = n }
with_setting (QuietWait n) p = record p { quiet_wait = n }

abbrev pub put : PlanSetting → Planned → Option Planned
put s p = Some (record { plan = with_setting s p.plan })

abbrev pub defaults : Planned
defaults = record { plan = default_plan }

abbrev pub AreInRange : Planned → Type 0
AreInRange p = IsPlan p.plan

-- the words are settings, and they make this plan of the defaults
abbrev pub ArePlan : List (List ℕ) → Plan → Type 0
ArePlan words p = Make (setting_words entry) (SettingFits entry) put defaults words (record { plan = p })
