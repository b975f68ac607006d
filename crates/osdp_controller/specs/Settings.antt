-- The settings of a controller.
use Rattle.std.specs.Prelude.{ℕ, ◌<◌, ◌≤◌, false}
use Rattle.osdp_frame.specs.declared.check_kind.CheckKind.{CheckKind}
use Rattle.osdp_frame.specs.Times.{IsTime}
use Rattle.osdp_controller.specs.declared.config.ControllerConfig.{ControllerConfig}

-- each setting is in its range
pub record IsConfig (c : ControllerConfig) : Type 0 where
  -- a device, and not the configuration address
  pub address : c.address < 127
  pub reply_wait : IsTime c.reply_wait
  pub poll_interval : IsTime c.poll_interval
  pub busy_wait : IsTime c.busy_wait
  pub quiet_wait : IsTime c.quiet_wait
  pub sends : (1 ≤ c.sends) × (c.sends ≤ 255)
  pub busy_limit : c.busy_limit ≤ 255

abbrev pub default_config : ℕ → CheckKind → ControllerConfig
default_config address check =
    record { address = address; check = check; reply_wait = 200; poll_interval = 50; sends = 3; busy_wait = 50; busy_limit = 20; quiet_wait = 400; poll_between_orders = false }
