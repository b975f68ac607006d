-- How long a bus may wait. No row of a table and no law speaks of these.
use Rattle.std.specs.Prelude.{◌≡◌, ℕ, ◌≤◌, ◌<◌, ◌^◌, ◌||◌, Bool, true, false, nat_le, min, List, Option, Some, None}
use Rattle.std.specs.List.{list_any}
use Rattle.osdp_frame.specs.Silence.{is_silent_for}
use Rattle.osdp_bus.specs.declared.entry.Entry.{Entry}
use Rattle.osdp_bus.specs.Buses.{BusState}
use Rattle.osdp_bus.specs.Entries.{is_entry_due}

-- from the moment `now` on: due from this moment on, or never
abbrev pub IsDueFrom : (ℕ → Bool) → ℕ → Option ℕ → Type 0
IsDueFrom due now None = (at : ℕ) → now ≤ at → at < 2 ^ 64 → due at ≡ false
IsDueFrom due now (Some moment) = (now ≤ moment) × ((at : ℕ) → now ≤ at → at < 2 ^ 64 → due at ≡ nat_le moment at)

-- the earlier of two moments, where there is one
abbrev pub earlier : Option ℕ → Option ℕ → Option ℕ
earlier None b = b
earlier (Some a) None = Some a
earlier (Some a) (Some b) = Some (min a b)

-- whether one of the devices is due
abbrev pub any_due : List Entry → ℕ → Bool
any_due devices at = list_any (is_entry_due at) devices

-- where a device holds the line: this device is due, or else, where bytes are held, the line has been silent long enough
abbrev pub IsHolderDeadline : Bool → BusState → Entry → Option ℕ → Type 0
IsHolderDeadline true b d moment = IsDueFrom (λ at. is_entry_due at d) b.greatest moment
IsHolderDeadline false b d moment =
    IsDueFrom (λ at. is_entry_due at d || is_silent_for b.config.gap b.last at) b.greatest moment
