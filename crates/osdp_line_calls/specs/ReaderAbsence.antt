-- What a device does while its panel is gone.
use Rattle.std.specs.Prelude.{ℕ, zero, suc, false, List, [], ◌∷◌, length, Option, Some, None, if◌then◌else◌}
use Rattle.osdp_device.specs.Ages.{AgesState, after_expiry, after_removal, expired_front, expires}
use Rattle.osdp_device.specs.declared.events.Expired.{Expired}
use Rattle.osdp_device.specs.declared.status.DeviceStatus.{DeviceStatus}
use Rattle.osdp_reader.specs.State.{ReaderState}

-- the events that left because they were too old, from the oldest on, and the reader and the moments of those that wait after it
pub record LetGo : Type 0 where
  pub expired : List Expired
  pub reader : ReaderState DeviceStatus
  pub ages : AgesState

abbrev pub keeps_all : ReaderState DeviceStatus → AgesState → LetGo
keeps_all r a = record { expired = []; reader = r; ages = a }

abbrev pub goes_first : Option Expired → LetGo → LetGo
goes_first None later = later
goes_first (Some expired) later = record later { expired = expired ∷ later.expired }

-- of so many events at most the oldest leaves where it is too old at a moment, by a limit, and then those after it
abbrev pub lets_some_go : ℕ → ℕ → ℕ → ReaderState DeviceStatus → AgesState → LetGo
lets_some_go zero now limit r a = keeps_all r a
lets_some_go (suc most) now limit r a =
    if expires now limit (length r.queue.events) a
    then goes_first (expired_front r.queue) (lets_some_go most now limit (after_expiry r) (after_removal false (length r.queue.events) a))
    else keeps_all r a

-- of all that wait
abbrev pub lets_go : ℕ → ℕ → ReaderState DeviceStatus → AgesState → LetGo
lets_go now limit r a = lets_some_go (length r.queue.events) now limit r a
