-- A device is sent to another address.
use Rattle.std.specs.Prelude.{◌≡◌, ◌≢◌, ℕ, Some, None}
use Rattle.osdp_bus.specs.declared.entry.Entry.{Entry}
use Rattle.osdp_bus.specs.Buses.{BusState, device_of}
use Rattle.osdp_bus.specs.Entries.{address_of}
use Rattle.osdp_bus.specs.Machine.{retarget_refusal_at}
use Rattle.osdp_bus_laws.specs.Calls.{Retarget, after_call}

-- its device is at the address, no address is reserved for it, and the same commands wait; all other devices stay as they are
pub record IsSentTo (entry address : ℕ) (b c : BusState) : Type 0 where
  pub before : Entry
  pub was : device_of entry b ≡ Some before
  pub after : Entry
  pub there : device_of entry c ≡ Some after
  pub address_then : address_of after ≡ address
  pub free : after.reserved ≡ None
  pub waiting : after.controller.waiting ≡ before.controller.waiting
  pub others : (other : ℕ) → other ≢ entry → device_of other c ≡ device_of other b

abbrev pub RetargetsSetTheAddress : BusState → Type 0
RetargetsSetTheAddress b = (entry address : ℕ) → retarget_refusal_at entry address b ≡ None
    → IsSentTo entry address b (after_call (Retarget entry address) b)
