-- How a controller comes about, and which deadline it tells. Times are in milliseconds.
use Rattle.std.specs.Prelude.{◌≡◌, ◌⊎◌, ℕ, ◌≤◌, [], Option, Result, Ok, Err}
use Rattle.osdp_controller.specs.declared.config.ControllerConfig.{ControllerConfig}
use Rattle.osdp_controller.specs.declared.fault.ControllerFault.{ControllerFault}
use Rattle.osdp_controller.specs.declared.fault.ControllerFault.TheVariants.{NoMemory, OutOfRange}
use Rattle.osdp_controller.specs.declared.state.State.TheVariants.{Closed}
use Rattle.osdp_controller.specs.Machine.{IsDeadline, Machine, NewEnds}

-- a millisecond to an hour
abbrev pub IsWait : ℕ → Type 0
IsWait wait = (1 ≤ wait) × (wait ≤ 3600000)

-- each setting is in its range, and so is the room: for 1 to 1024 commands, and for 1 byte of them to as many as 1024 of 1433 bytes have
pub record AreInRange (c : ControllerConfig) (messages bytes : ℕ) : Type 0 where
  pub address : c.address ≤ 126
  pub reply_wait : IsWait c.reply_wait
  pub poll_interval : IsWait c.poll_interval
  pub sends : (1 ≤ c.sends) × (c.sends ≤ 255)
  pub busy_wait : IsWait c.busy_wait
  pub busy_limit : c.busy_limit ≤ 255
  pub quiet_wait : IsWait c.quiet_wait
  pub messages_room : (1 ≤ messages) × (messages ≤ 1024)
  pub bytes_room : (1 ≤ bytes) × (bytes ≤ 1467392)

-- it has these settings and this room, no session and no command, and has seen no moment
pub record IsNew (config : ControllerConfig) (messages bytes : ℕ) (m : Machine) : Type 0 where
  pub settings : m.session.config ≡ config
  pub closed : m.session.state ≡ Closed
  pub no_moment : m.session.greatest ≡ 0
  pub no_command : m.waiting ≡ []
  pub messages_room : m.capacity ≡ messages
  pub bytes_room : m.room ≡ bytes

-- settings that are out of range are refused as such, whether there is memory or not. Of settings in range such a controller comes, or there is no memory
abbrev pub ComesOfItsSettings : Type 0
ComesOfItsSettings = (config : ControllerConfig) (messages bytes : ℕ) (r : Result Machine ControllerFault) → NewEnds config messages bytes r
    → ((AreInRange config messages bytes → ⊥) × (r ≡ Err OutOfRange))
    ⊎ (AreInRange config messages bytes × ((r ≡ Err NoMemory) ⊎ ((m : Machine) × (r ≡ Ok m) × IsNew config messages bytes m)))

-- it has one deadline at most, or none
abbrev pub HasOneDeadline : Machine → Type 0
HasOneDeadline m = (one other : Option ℕ) → IsDeadline m one → IsDeadline m other → one ≡ other
