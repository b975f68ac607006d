-- When a device is offline, and which event it takes off then. Moments are in milliseconds.
use Rattle.std.specs.Prelude.{◌≡◌, ◌+◌, ◌<◌, ◌≤◌, ◌↔◌, ◌∷◌, ℕ, List, [], true, false, length, Some, None}
use Rattle.osdp_reader.specs.State.{ReaderState}
use Rattle.osdp_device.specs.Ages.{AgesState, expires, is_offline}
use Rattle.osdp_device.specs.AgesLaws.{Came, Waits}

-- until a packet is answered, and from 8,000 ms after the last one on, to the millisecond
pub record TellsOffline (a : AgesState) : Type 0 where
  pub never : a.last_packet ≡ None → (now : ℕ) → is_offline now a ≡ true
  pub within : (last now : ℕ) → a.last_packet ≡ Some last → now < last + 8000 → is_offline now a ≡ false
  pub past : (last now : ℕ) → a.last_packet ≡ Some last → last + 8000 ≤ now → is_offline now a ≡ true

-- the oldest event is taken off where the device is offline, there is a limit, and the event came longer ago than that
pub record TakesOffTheOldest (came : List Came) {H : Type 0} (r : ReaderState H) (a : AgesState) (now limit : ℕ) : Type 0 where
  pub none : came ≡ [] → expires now limit (length r.queue.events) a ≡ false
  pub oldest : (first : Came) (later : List Came) → came ≡ first ∷ later
      → (expires now limit (length r.queue.events) a ≡ true) ↔ ((is_offline now a ≡ true) × (0 < limit) × (first.1 + limit < now))

abbrev pub TakesOffWhatIsTooOld : Type 0 → Type 0
TakesOffWhatIsTooOld H = (came : List Came) (r : ReaderState H) (a : AgesState) (now limit : ℕ) → Waits came r a
    → TakesOffTheOldest came r a now limit
