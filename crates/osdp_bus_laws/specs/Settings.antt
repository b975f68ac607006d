-- The settings of a device's controller, and those of a bus by default. Times are in milliseconds.
use Rattle.std.specs.Prelude.{◌≡◌, ℕ}
use Rattle.osdp_frame.specs.declared.check_kind.CheckKind.{CheckKind}
use Rattle.osdp_controller.specs.declared.config.ControllerConfig.{ControllerConfig}
use Rattle.osdp_msg.specs.declared.limits.Room.{Room}
use Rattle.osdp_bus.specs.declared.config.BusConfig.{BusConfig}
use Rattle.osdp_bus.specs.Machine.{new_device}
use Rattle.osdp_bus.specs.Settings.{default_config}

-- each setting is the one of its name
pub record AreOfTheBus (at : ℕ) (c : BusConfig) (k : ControllerConfig) : Type 0 where
  pub address : k.address ≡ at
  pub check : k.check ≡ c.check
  pub reply_wait : k.reply_wait ≡ c.reply_wait
  pub poll_interval : k.poll_interval ≡ c.poll_interval
  pub sends : k.sends ≡ c.sends
  pub busy_wait : k.busy_wait ≡ c.busy_wait
  pub busy_limit : k.busy_limit ≡ c.busy_limit
  pub quiet_wait : k.quiet_wait ≡ c.quiet_wait

-- a new device at an address has the settings of its bus, and its room for commands
abbrev pub DevicesAreSetAsTheBus : Type 0
DevicesAreSetAsTheBus = (at : ℕ) (c : BusConfig)
    → AreOfTheBus at c (new_device at c).controller.session.config × ((new_device at c).controller.capacity ≡ c.room.messages) × ((new_device at c).controller.room ≡ c.room.bytes)

pub record AreDefaults (kind : CheckKind) (given : Room) (c : BusConfig) : Type 0 where
  pub check : c.check ≡ kind
  pub reply_wait : c.reply_wait ≡ 200
  pub poll_interval : c.poll_interval ≡ 50
  pub sends : c.sends ≡ 3
  pub busy_wait : c.busy_wait ≡ 50
  pub busy_limit : c.busy_limit ≡ 20
  pub quiet_wait : c.quiet_wait ≡ 400
  pub gap : c.gap ≡ 20
  pub room : c.room ≡ given

abbrev pub DefaultsAreThese : Type 0
DefaultsAreThese = (kind : CheckKind) (room : Room) → AreDefaults kind room (default_config kind room)
