-- The settings of a panel: their words, and what each sets.
use Rattle.std.specs.Prelude.{ℕ, ◌<◌, ◌^◌, List, codes, Option, Some}
use Rattle.osdp_bus.specs.declared.config.BusConfig.{BusConfig}
use Rattle.osdp_bus.specs.Settings.{IsBusConfig, default_config}
use Rattle.osdp_frame.specs.Times.{IsTime}
use Rattle.osdp_msg.specs.Limits.{IsRoom}
use Rattle.osdp_frame.specs.declared.check_kind.CheckKind.TheVariants.{Crc}
use Rattle.osdp_frame.specs.Check.{check_name}
use Rattle.osdp_words.specs.Word.{plain, number}
use Rattle.osdp_line_calls.specs.declared.panel_command.PanelSetting.{PanelSetting}
use Rattle.osdp_line_calls.specs.declared.panel_command.PanelSetting.TheVariants.{Check, ReplyWait, PollInterval, Sends, BusyWait, BusyLimit, QuietWait, Gap, Capacity}
use Rattle.osdp_line_calls.specs.declared.panel_command.PanelSettings.{PanelSettings}
use Rattle.osdp_msg.specs.Limits.{room_for}
use Rattle.osdp_line_calls.specs.Values.{IsSends}
use Rattle.osdp_settings.specs.Settings.{Entry, Make, SettingFits, setting_words}

-- the name of each, its value as a word, and the range that is asked of it
abbrev pub entry : PanelSetting → Entry
entry (Check kind) = record { name = codes "check"; value = plain (check_name kind); Fits = Unit {0} }
entry (ReplyWait n) = record { name = codes "reply-wait"; value = number n; Fits = IsTime n }
entry (PollInterval n) = record { name = codes "poll-interval"; value = number n; Fits = IsTime n }
entry (Sends n) = record { name = codes "sends"; value = number n; Fits = IsSends n }
entry (BusyWait n) = record { name = codes "busy-wait"; value = number n; Fits = IsTime n }
entry (BusyLimit n) = record { name = codes "busy-limit"; value = number n; Fits = n < 2 ^ 8 }
entry (QuietWait n) = record { name = codes "quiet-wait"; value = number n; Fits = IsTime n }
entry (Gap n) = record { name = codes "gap"; value = number n; Fits = IsTime n }
entry (Capacity n) = record { name = codes "capacity"; value = number n; Fits = IsRoom n }

-- what it sets of the panel's bus
abbrev pub with_setting : PanelSetting → BusConfig → BusConfig
with_setting (Check kind) c = record c { check = kind }
with_setting (ReplyWait n) c = record c { reply_wait = n }
with_setting (PollInterval n) c = record c { poll_interval = n }
with_setting (Sends n) c = record c { sends = n }
with_setting (BusyWait n) c = record c { busy_wait = n }
with_setting (BusyLimit n) c = record c { busy_limit = n }
with_setting (QuietWait n) c = record c { quiet_wait = n }
with_setting (Gap n) c = record c { gap = n }
with_setting (Capacity n) c = record c { room = room_for n }

abbrev pub put : PanelSetting → PanelSettings → Option PanelSettings
put s c = Some (record { config = with_setting s c.config })

-- without settings packets end with a CRC, and 64 commands may wait for each device
abbrev pub defaults : PanelSettings
defaults = record { config = default_config Crc (room_for 64) }

abbrev pub AreInRange : PanelSettings → Type 0
AreInRange c = IsBusConfig c.config

-- the words are settings of a panel, and they make this one of the defaults
abbrev pub AreOfPanel : List (List ℕ) → PanelSettings → Type 0
AreOfPanel = Make (setting_words entry) (SettingFits entry) put defaults
