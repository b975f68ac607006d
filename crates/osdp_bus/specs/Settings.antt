-- The settings of a bus.
use Rattle.std.specs.Prelude.{ℕ}
use Rattle.osdp_frame.specs.declared.check_kind.CheckKind.{CheckKind}
use Rattle.osdp_controller.specs.declared.config.ControllerConfig.{ControllerConfig}
use Rattle.osdp_controller.specs.Machine.{AreSettings}
use Rattle.osdp_controller.specs.Settings.{default_config as default_of_controllers}
use Rattle.osdp_frame.specs.Times.{IsTime}
use Rattle.osdp_msg.specs.declared.limits.Room.{Room}
use Rattle.osdp_bus.specs.declared.config.BusConfig.{BusConfig}

-- the settings of the controller of a device at this address
abbrev pub controller_config : ℕ → BusConfig → ControllerConfig
controller_config address c = record {
  address = address;
  check = c.check;
  reply_wait = c.reply_wait;
  poll_interval = c.poll_interval;
  sends = c.sends;
  busy_wait = c.busy_wait;
  busy_limit = c.busy_limit;
  quiet_wait = c.quiet_wait;
  poll_between_orders = c.poll_between_orders;
}

-- each setting is in its range; an address is judged where a device is added, so it is any device's here
pub record IsBusConfig (c : BusConfig) : Type 0 where
  pub controllers : AreSettings (controller_config 0 c) c.room.messages c.room.bytes
  pub gap : IsTime c.gap

-- the settings of a bus whose controllers are set so, at whatever address
abbrev pub bus_config : ControllerConfig → ℕ → Room → BusConfig
bus_config c gap room = record {
  check = c.check;
  reply_wait = c.reply_wait;
  poll_interval = c.poll_interval;
  sends = c.sends;
  busy_wait = c.busy_wait;
  busy_limit = c.busy_limit;
  quiet_wait = c.quiet_wait;
  poll_between_orders = c.poll_between_orders;
  gap = gap;
  room = room;
}

-- as controllers are set by default
abbrev pub default_config : CheckKind → Room → BusConfig
default_config check room = bus_config (default_of_controllers 0 check) 20 room
