-- The settings of a reader: their words, and what each sets.
use Rattle.std.specs.Prelude.{ℕ, ◌<◌, ◌≤◌, false, ◌^◌, List, [], ◌∷◌, ◌++◌, codes, length, replicate, nat_lt, if◌then◌else◌, slice_index, Option, Some, None}
use Rattle.arrayvec.specs.ArrayVec.{ArrayVec}
use Rattle.osdp_frame.specs.Times.{IsTime, longest_time}
use Rattle.osdp_msg.specs.Limits.{IsRoom}
use Rattle.osdp_msg.specs.declared.capability.Capability.{Capability}
use Rattle.osdp_msg.specs.declared.reply_fields.PdId.{PdId}
use Rattle.osdp_msg.specs.ReplyFields.{capability_at, pd_id_at}
use Rattle.osdp_words.specs.Word.{bytes, number, numbers}
use Rattle.osdp_line_calls.specs.declared.reader_command.ReaderSetting.{ReaderSetting}
use Rattle.osdp_line_calls.specs.declared.reader_command.ReaderSetting.TheVariants.{At, Vendor, Model, Version, Serial, Firmware, Cap, Room, Gap, Expire, Presence}
use Rattle.osdp_line_calls.specs.declared.reader_command.ReaderSettings.{ReaderSettings}
use Rattle.osdp_line_calls.specs.declared.reader_absence.Absence.{Absence}
use Rattle.osdp_settings.specs.Values.{switch_word}
use Rattle.osdp_line_calls.specs.Values.{IsTriple, IsVendor}
use Rattle.osdp_settings.specs.Settings.{Entry, Make, SettingFits, setting_words}

-- the name of each, its value as a word, and the range that is asked of it
abbrev pub entry : ReaderSetting → Entry
entry (At address) = record { name = codes "address"; value = number address; Fits = address < 127 }
entry (Vendor vendor) = record { name = codes "vendor"; value = bytes vendor; Fits = IsVendor vendor }
entry (Model n) = record { name = codes "model"; value = number n; Fits = n < 2 ^ 8 }
entry (Version n) = record { name = codes "version"; value = number n; Fits = n < 2 ^ 8 }
entry (Serial n) = record { name = codes "serial"; value = number n; Fits = n < 2 ^ 32 }
entry (Firmware ns) = record { name = codes "firmware"; value = numbers ns; Fits = IsTriple ns }
entry (Cap ns) = record { name = codes "cap"; value = numbers ns; Fits = IsTriple ns }
entry (Room n) = record { name = codes "room"; value = number n; Fits = IsRoom n }
entry (Gap n) = record { name = codes "gap"; value = number n; Fits = IsTime n }
entry (Expire n) = record { name = codes "expire"; value = number n; Fits = n ≤ longest_time }
entry (Presence told) = record { name = codes "presence"; value = switch_word told; Fits = Unit {0} }

abbrev pub with_absence : Absence → ReaderSettings → ReaderSettings
with_absence a r = record r { absence = a }

abbrev pub with_id : PdId → ReaderSettings → ReaderSettings
with_id id r = record r { config = record r.config { id = id } }

abbrev pub with_firmware : List ℕ → PdId → PdId
with_firmware ns id = record id { firmware_major = slice_index ns 0; firmware_minor = slice_index ns 1; firmware_build = slice_index ns 2 }

-- one capability more
abbrev pub with_capability : List ℕ → ArrayVec Capability → ArrayVec Capability
with_capability ns caps = record { items = caps.items ++ capability_at ns ∷ [] }

-- a reply has room for so many capabilities
abbrev pub put_capability : List ℕ → ReaderSettings → Option ReaderSettings
put_capability ns r =
    if nat_lt (length r.config.caps.items) 477 then Some (record r { config = record r.config { caps = with_capability ns r.config.caps } })
    else None

abbrev pub put : ReaderSetting → ReaderSettings → Option ReaderSettings
put (At address) r = Some (record r { config = record r.config { address = address } })
put (Vendor vendor) r = Some (with_id (record r.config.id { vendor = vendor }) r)
put (Model n) r = Some (with_id (record r.config.id { model = n }) r)
put (Version n) r = Some (with_id (record r.config.id { version = n }) r)
put (Serial n) r = Some (with_id (record r.config.id { serial = n }) r)
put (Firmware ns) r = Some (with_id (with_firmware ns r.config.id) r)
put (Cap ns) r = put_capability ns r
put (Room n) r = Some (record r { room = n })
put (Gap n) r = Some (record r { gap = n })
put (Expire n) r = Some (with_absence (record r.absence { expire = n }) r)
put (Presence told) r = Some (with_absence (record r.absence { told = told }) r)

-- without settings the reader is at address 0, tells zeros of itself and no capabilities, has room for 64 events, and a gap of 20 ms; events wait
-- without end, and it isn't told whether the panel is there
abbrev pub defaults : ReaderSettings
defaults = record {
  config = record {
    address = 0;
    id = pd_id_at (replicate 12 0);
    caps = record { items = [] };
  };
  room = 64;
  gap = 20;
  absence = record { expire = 0; told = false };
}

-- the words are settings of a reader, and they make this one of the defaults
abbrev pub AreOfReader : List (List ℕ) → ReaderSettings → Type 0
AreOfReader = Make (setting_words entry) (SettingFits entry) put defaults

-- what a reader asks for
pub record AreInRange (r : ReaderSettings) : Type 0 where
  pub address : r.config.address < 127
  pub room : IsRoom r.room
  pub gap : IsTime r.gap
  pub expire : r.absence.expire ≤ longest_time
