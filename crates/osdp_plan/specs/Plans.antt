-- What is planned, and the settings of a controller that it gives.
use Rattle.std.specs.Prelude.{◌+◌, ◌≤◌, true}
use Rattle.osdp_frame.specs.Check.{check_size}
use Rattle.osdp_frame.specs.declared.check_kind.CheckKind.TheVariants.{Crc}
use Rattle.osdp_frame.specs.Times.{IsTime, longest_time}
use Rattle.osdp_controller.specs.declared.config.ControllerConfig.{ControllerConfig}
use Rattle.osdp_plan.specs.declared.plan.Plan.{Plan}

-- each of these is in its range
pub record IsPlan (p : Plan) : Type 0 where
  pub readers : (1 ≤ p.readers) × (p.readers ≤ 16)
  pub rate : (300 ≤ p.rate) × (p.rate ≤ 1000000)
  pub longest : (7 ≤ p.longest) × (p.longest ≤ 1440)
  pub answer : p.answer ≤ longest_time
  pub hold : p.hold ≤ longest_time
  pub late : p.late ≤ longest_time
  pub orders : p.orders ≤ 1024
  pub reply_wait : IsTime p.reply_wait
  pub poll_interval : IsTime p.poll_interval
  pub sends : (1 ≤ p.sends) × (p.sends ≤ 255)
  pub busy_wait : IsTime p.busy_wait
  pub busy_limit : p.busy_limit ≤ 255
  pub quiet_wait : IsTime p.quiet_wait

abbrev pub default_plan : Plan
default_plan = record {
  readers = 1;
  rate = 9600;
  check = Crc;
  longest = 32;
  answer = 5;
  hold = 0;
  late = 1;
  orders = 0;
  reply_wait = 200;
  poll_interval = 50;
  sends = 3;
  busy_wait = 50;
  busy_limit = 20;
  quiet_wait = 400;
}

-- a POLL has five bytes of a header and its code before its check, and an ACK too
abbrev pub only_polls : Plan → Plan
only_polls p = record p { longest = 6 + check_size p.check }

-- the controller of a reader in a panel: a POLL stands between any two orders
abbrev pub config_of : Plan → ControllerConfig
config_of p = record {
  address = 0;
  check = p.check;
  reply_wait = p.reply_wait;
  poll_interval = p.poll_interval;
  sends = p.sends;
  busy_wait = p.busy_wait;
  busy_limit = p.busy_limit;
  quiet_wait = p.quiet_wait;
  poll_between_orders = true;
}
