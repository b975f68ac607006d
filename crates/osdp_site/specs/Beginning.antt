-- What a session that begins takes back: all that was ordered before it and has not gone out.
use Rattle.std.specs.Prelude.{◌≡◌, ◌≢◌, ℕ, Bool, true, false, List, [], Option, Some, None}
use Rattle.osdp_msg.specs.declared.command.Command.{Command}
use Rattle.osdp_bus.specs.declared.entry.Entry.{Entry}
use Rattle.osdp_bus.specs.Buses.{BusState, device_of}
use Rattle.osdp_controller.specs.States.{is_closed}
use Rattle.osdp_site.specs.Acting.{acts_at, begins_anew, refreshes}
use Rattle.osdp_site.specs.Places.{PlaceState, is_due, is_online}
use Rattle.osdp_site.specs.Sites.{Both, acts, place_of}

-- the orders of an entry that wait
abbrev pub waiting_in : Option Entry → List Command
waiting_in None = []
waiting_in (Some d) = d.controller.waiting

-- an entry has a device without a session
abbrev pub is_closed_in : Option Entry → Bool
is_closed_in None = false
is_closed_in (Some d) = is_closed d.controller.session.state

abbrev pub IsClosed : ℕ → BusState → Type 0
IsClosed entry b = is_closed_in (device_of entry b) ≡ true

-- its session has begun, and nothing that was ordered before waits for it
pub record HasBegunAnew (entry : ℕ) (b : BusState) : Type 0 where
  pub begun : is_closed_in (device_of entry b) ≡ false
  pub none_waits : waiting_in (device_of entry b) ≡ []

-- of all other entries nothing changes, and no report comes or goes: so of an order that is taken back nothing is told
pub record LeavesOthers (entry : ℕ) (b after : BusState) : Type 0 where
  pub devices : (other : ℕ) → other ≢ entry → device_of other after ≡ device_of other b
  pub report : after.devices.report ≡ b.devices.report
  pub remembered : after.remembered ≡ b.remembered

-- a session begins anew where there is none. Where one stands nothing is taken back, and nothing where none is due
pub record BeginsAnew (entry now : ℕ) (b : BusState) : Type 0 where
  pub anew : IsClosed entry b → HasBegunAnew entry (begins_anew entry now b)
  pub stays : is_closed_in (device_of entry b) ≡ false → begins_anew entry now b ≡ b
  pub others : LeavesOthers entry b (begins_anew entry now b)
  pub undue : (p : PlaceState) → is_due now p ≡ false → acts_at entry now (record { place = p; panel = b }) ≡ refreshes entry (record { place = p; panel = b })

-- a session of an entry is due at a moment, and its device is offline
pub record IsAwaited (entry now : ℕ) (x : Both) : Type 0 where
  pub place : PlaceState
  pub there : place_of entry x.site ≡ Some place
  pub due : is_due now place ≡ true
  pub offline : is_online place.presence ≡ false

-- when a site acts, each session that is due begins so, whatever the other entries do
abbrev pub AllBeginAnew : ℕ → Both → Type 0
AllBeginAnew now x = (entry : ℕ) → IsAwaited entry now x → IsClosed entry x.panel → HasBegunAnew entry (acts now x).panel
