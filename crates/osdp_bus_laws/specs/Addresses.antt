-- Addresses: whose they are, for whom they are reserved, and how long.
use Rattle.std.specs.Prelude.{◌≡◌, ◌⊎◌, ℕ, Bool, true, false, ◌&&◌, ◌==◌, if◌then◌else◌, is_none, List, [], ◌∷◌, ◌++◌, Option, Some, None, option_and_then, option_to_list}
use Rattle.osdp_controller.specs.declared.report.Report.{Report}
use Rattle.osdp_controller.specs.declared.report.Report.TheVariants.{Settled, Moved}
use Rattle.osdp_controller.specs.Comsets.{is_comset}
use Rattle.osdp_controller.specs.Hearing.{comset_of}
use Rattle.osdp_controller_laws.specs.Commands.{asked_in}
use Rattle.osdp_msg.specs.declared.command.Command.{Command}
use Rattle.osdp_msg.specs.declared.command_fields.Communication.{Communication}
use Rattle.osdp_bus.specs.declared.entry.Entry.{Entry}
use Rattle.osdp_bus.specs.Buses.{BusState, device_of}
use Rattle.osdp_bus.specs.Entries.{address_of}
use Rattle.osdp_bus.specs.Machine.{retarget_refusal_at, submit_refusal_at, withdrawn_of}
use Rattle.osdp_bus_laws.specs.Calls.{Call, Submit, Withdraw, Retarget, OnBytes, OnSilence, Tick, after_call, after_calls, arises}

-- an address is that of a device, or reserved for it
abbrev pub Names : ℕ → Entry → Type 0
Names address d = (address_of d ≡ address) ⊎ (d.reserved ≡ Some address)

-- no address is that of two entries, or reserved for two, or that of one and reserved for another
abbrev pub NoAddressOfTwo : BusState → Type 0
NoAddressOfTwo b = (address i j : ℕ) (d e : Entry) → device_of i b ≡ Some d → device_of j b ≡ Some e
    → Names address d → Names address e → i ≡ j

-- where COMSETs among commands ask to go
abbrev pub comsets_in : List Command → List Communication
comsets_in [] = []
comsets_in (command ∷ commands) = option_to_list (comset_of command) ++ comsets_in commands

-- the COMSETs of a device that are on their way: the outstanding one, and those that wait
abbrev pub comsets_of : Entry → List Communication
comsets_of d = comsets_in (option_to_list (asked_in d.controller.session.state) ++ d.controller.waiting)

-- there is one at most, and its address is reserved
abbrev pub ReservesItsComset : Entry → Type 0
ReservesItsComset d =
    (comsets_of d ≡ []) ⊎ ((asked : Communication) × (comsets_of d ≡ asked ∷ []) × (d.reserved ≡ Some asked.address))

abbrev pub ReserveTheirComsets : BusState → Type 0
ReserveTheirComsets b = (entry : ℕ) (d : Entry) → device_of entry b ≡ Some d → ReservesItsComset d

-- the address that is reserved for an entry
abbrev pub reserved_at : ℕ → BusState → Option ℕ
reserved_at entry b = option_and_then (λ d. d.reserved) (device_of entry b)

-- a COMSET of an entry is accepted
abbrev pub accepts : Call → ℕ → BusState → Option Communication
accepts (Submit at command) entry b =
    if at == entry && is_none (submit_refusal_at at command b) then comset_of command else None
accepts _ entry b = None

-- a COMSET of an entry is told settled or moved
abbrev pub is_comset_done : Report → Bool
is_comset_done (Settled command reply) = is_comset command
is_comset_done (Moved command answered) = is_comset command
is_comset_done _ = false

abbrev pub tells_done : ℕ → Option (ℕ × Report) → Bool
tells_done entry None = false
tells_done entry (Some (teller, report)) = teller == entry && is_comset_done report

-- a COMSET is withdrawn
abbrev pub is_some_comset : Option Command → Bool
is_some_comset None = false
is_some_comset (Some command) = is_comset command

abbrev pub withdraws_comset : Option Entry → Bool
withdraws_comset None = false
withdraws_comset (Some d) = is_some_comset (withdrawn_of d)

-- what ends the reservation of an entry: its COMSET's report arises, it is withdrawn, or the device is sent to an address
abbrev pub frees : Call → ℕ → BusState → Bool
frees (Withdraw at) entry b = at == entry && withdraws_comset (device_of at b)
frees (Retarget at address) entry b = at == entry && is_none (retarget_refusal_at at address b)
frees (OnBytes bytes now) entry b = tells_done entry (arises (OnBytes bytes now) b)
frees (OnSilence now) entry b = tells_done entry (arises (OnSilence now) b)
frees (Tick now) entry b = tells_done entry (arises (Tick now) b)
frees _ entry b = false

-- none of a list of calls does
abbrev pub NoneFrees : List Call → ℕ → BusState → Type 0
NoneFrees [] entry b = Unit {0}
NoneFrees (call ∷ calls) entry b = (frees call entry b ≡ false) × NoneFrees calls entry (after_call call b)

-- a reservation begins as a COMSET is accepted, where nothing was reserved; it lasts, whatever is called, until one of
-- these ends it, and it ends then
pub record ReservationsLast (b : BusState) : Type 0 where
  pub begins : (call : Call) (entry : ℕ) (asked : Communication) → accepts call entry b ≡ Some asked
      → (reserved_at entry b ≡ None) × (reserved_at entry (after_call call b) ≡ Some asked.address)
  pub not_else : (call : Call) (entry : ℕ) → accepts call entry b ≡ None → reserved_at entry b ≡ None
      → reserved_at entry (after_call call b) ≡ None
  pub lasts : (calls : List Call) (entry address : ℕ) → reserved_at entry b ≡ Some address → NoneFrees calls entry b
      → reserved_at entry (after_calls calls b) ≡ Some address
  pub ends : (call : Call) (entry : ℕ) → frees call entry b ≡ true → reserved_at entry (after_call call b) ≡ None
