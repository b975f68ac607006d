-- The settings of machines as structs of plain fields.
use Rattle.std.specs.Prelude.{ℕ, Bool, true, ◌==◌, ◌&&◌, nat_le, if◌then◌else◌, Option, None, Some}
use Rattle.osdp_bus.specs.Settings.{default_config}
use Rattle.osdp_bus.specs.declared.config.BusConfig.{BusConfig}
use Rattle.osdp_frame.specs.declared.check_kind.CheckKind.{CheckKind}
use Rattle.osdp_frame.specs.declared.check_kind.CheckKind.TheVariants.{Sum, Crc}
use Rattle.osdp_msg.specs.Limits.{most_waiting, room_for}
use Rattle.osdp_msg.specs.declared.limits.Room.{Room}
use Rattle.osdp_msg.specs.declared.reply_fields.PdId.{PdId}
use Rattle.osdp_c_values.specs.declared.settings.PanelSettings.{PanelSettings}
use Rattle.osdp_c_values.specs.declared.settings.ProductStruct.{ProductStruct}
use Rattle.osdp_c_values.specs.declared.settings.ReaderSettings.{ReaderSettings}

abbrev pub check_of : ℕ → CheckKind
check_of number = if number == 0 then Sum else Crc

-- room for so many messages, however long each is, where so many may wait
abbrev pub default_room : ℕ → Option Room
default_room count = if nat_le count most_waiting then Some (room_for count) else None

-- the bus's settings that a struct stands for, with such room: there are two checks, the sends and the BUSYs are bytes, and a POLL stands between any two orders
-- of a device
abbrev pub bus_config_in : Room → PanelSettings → Option BusConfig
bus_config_in room s =
    if nat_le s.check 1 && (nat_le s.sends 255 && nat_le s.busy_limit 255) then Some (record {
      check = check_of s.check;
      reply_wait = s.reply_wait;
      poll_interval = s.poll_interval;
      sends = s.sends;
      busy_wait = s.busy_wait;
      busy_limit = s.busy_limit;
      quiet_wait = s.quiet_wait;
      poll_between_orders = true;
      gap = s.gap;
      room = room;
    }) else None

abbrev pub bus_config_if : Option Room → PanelSettings → Option BusConfig
bus_config_if None s = None
bus_config_if (Some room) s = bus_config_in room s

-- with room for each of its commands, however long it is
abbrev pub bus_config_of : PanelSettings → Option BusConfig
bus_config_of s = bus_config_if (default_room s.capacity) s

-- with room for so many bytes of them together
abbrev pub bus_config_with : ℕ → PanelSettings → Option BusConfig
bus_config_with bytes s = bus_config_in (record { messages = s.capacity; bytes = bytes }) s

-- the settings of a panel that nobody has changed: a CRC, room for 64 commands of each device, and a POLL between any two of its orders
abbrev pub default_panel : BusConfig
default_panel = record (default_config Crc (room_for 64)) { poll_between_orders = true }

-- what a device is, by its serial number and what it is otherwise
abbrev pub pd_id : ℕ → ProductStruct → PdId
pd_id serial p = record { vendor = p.vendor; model = p.model; version = p.version; serial = serial; firmware_major = p.firmware_major; firmware_minor = p.firmware_minor; firmware_build = p.firmware_build }

-- what a reader answers to ID
abbrev pub id_of : ReaderSettings → PdId
id_of s = pd_id s.serial s.product

-- a day, in milliseconds
abbrev pub day : ℕ
day = 86400000

-- how far a moment may lie after the greatest one seen, by a setting
abbrev pub limit_of : ℕ → ℕ
limit_of setting = if setting == 0 then day else setting
