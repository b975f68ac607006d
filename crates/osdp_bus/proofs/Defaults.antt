-- The settings by default are in their ranges, and so they are where a frame is sent another number of times.
use Rattle.std.proofs.Common.{◌≤◌, ◌<◌, ℕ, arith}
use Rattle.osdp_frame.specs.declared.check_kind.CheckKind.{CheckKind}
use Rattle.osdp_controller.specs.Settings.{IsConfig, default_config as default_of_controllers}
use Rattle.osdp_msg.specs.Limits.{AreRoom}
use Rattle.osdp_msg.specs.declared.limits.Room.{Room}
use Rattle.osdp_bus.specs.Settings.{IsBusConfig, default_config}

pub controller_in_range : (address : ℕ) (check : CheckKind) (sends : ℕ) → address < 127 → (1 ≤ sends) × (sends ≤ 255)
    → IsConfig (record (default_of_controllers address check) { sends = sends })
controller_in_range address check sends device few = record {
  address = device;
  reply_wait = (omega arith, omega arith);
  poll_interval = (omega arith, omega arith);
  busy_wait = (omega arith, omega arith);
  quiet_wait = (omega arith, omega arith);
  sends = few;
  busy_limit = omega arith;
}

pub bus_in_range : (check : CheckKind) (room : Room) (sends : ℕ) → AreRoom room.messages room.bytes → (1 ≤ sends) × (sends ≤ 255)
    → IsBusConfig (record (default_config check room) { sends = sends })
bus_in_range check room sends are few = record {
  controllers = record { config_in_range = controller_in_range 0 check sends (omega arith) few; room = are.0.0; limit = are.0.1; bytes = (are.1, are.2) };
  gap = (omega arith, omega arith);
}
