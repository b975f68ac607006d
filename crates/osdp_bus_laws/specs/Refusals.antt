-- When a call is refused, and with what.
use Rattle.std.specs.Prelude.{◌≡◌, ◌≢◌, ◌⊎◌, ℕ, ◌-◌, ◌<◌, ◌≤◌, false, [], length, Option, Some, None, Result, Ok, Err}
use Rattle.osdp_controller.specs.Machine.{bytes_kept, command_size}
use Rattle.osdp_controller.specs.States.{is_closed}
use Rattle.osdp_msg.specs.declared.command.Command.{Command}
use Rattle.osdp_msg.specs.declared.command.Command.TheVariants.{Poll, Comset}
use Rattle.osdp_msg.specs.declared.command_fields.Communication.{Communication}
use Rattle.osdp_bus.specs.declared.entry.Entry.{Entry}
use Rattle.osdp_bus.specs.declared.fault.BusFault.{BusFault}
use Rattle.osdp_bus.specs.declared.fault.BusFault.TheVariants.{TooMany, AddressTaken, NoEntry, OutOfRange, AddressOutOfRange, Full, PollSubmitted, NotClosed}
use Rattle.osdp_bus.specs.Buses.{BusState, device_of}
use Rattle.osdp_bus.specs.Machine.{add_refusal, after_submit_at, begin_refusal_at, changed_unless, order_refusal_at, retarget_refusal_at, submit_refusal_at, withdrawal_at}
use Rattle.osdp_bus_laws.specs.Addresses.{Names, comsets_in}
use Rattle.osdp_bus_laws.specs.Calls.{Call, Add, Begin, Submit, Withdraw, Retarget, after_call, after_calls, orders}

-- one cause is judged: where it holds the call is refused for it, and else by what is judged next
abbrev pub Judges : BusFault → Type 0 → (Option BusFault → Type 0) → Option BusFault → Type 0
Judges fault Cause Next refusal = (Cause × (refusal ≡ Some fault)) ⊎ ((Cause → ⊥) × Next refusal)

abbrev pub Accepts : Option BusFault → Type 0
Accepts refusal = refusal ≡ None

-- the causes

abbrev pub IsNoEntry : ℕ → BusState → Type 0
IsNoEntry entry b = length b.devices.entries ≤ entry

abbrev pub OfEntry : ℕ → (Entry → Type 0) → BusState → Type 0
OfEntry entry P b = (d : Entry) × (device_of entry b ≡ Some d) × P d

-- its session has begun
abbrev pub IsOpen : ℕ → BusState → Type 0
IsOpen entry b = OfEntry entry (λ d. is_closed d.controller.session.state ≡ false) b

-- an address is that of some entry, or reserved for it; or of another one than this
abbrev pub IsTakenUp : ℕ → BusState → Type 0
IsTakenUp address b = (entry : ℕ) × OfEntry entry (Names address) b

abbrev pub IsTakenByAnother : ℕ → ℕ → BusState → Type 0
IsTakenByAnother entry address b = (other : ℕ) × (other ≢ entry) × OfEntry other (Names address) b

-- a COMSET to an address that another entry takes up, or of an entry for which one is reserved already
abbrev pub IsBarredComset : ℕ → Command → BusState → Type 0
IsBarredComset entry command b =
    (asked : Communication) × (command ≡ Comset asked)
    × (IsTakenByAnother entry asked.address b ⊎ OfEntry entry (λ d. (address : ℕ) × (d.reserved ≡ Some address)) b)

-- a COMSET to an address that no device has
abbrev pub IsNowhere : Command → Type 0
IsNowhere command = (asked : Communication) × (command ≡ Comset asked) × (127 ≤ asked.address)

-- as many commands wait for it as the bus's settings leave room for, or the bytes that are kept for it leave no room for those of this one:
-- those of the commands that wait, and of the one that is on its way, where there is no room for each however long
abbrev pub HasNoRoom : ℕ → Command → BusState → Type 0
HasNoRoom entry command b = OfEntry entry (λ d. (b.config.room.messages ≤ length d.controller.waiting)
    ⊎ (b.config.room.bytes - bytes_kept d.controller < command_size command)) b

-- a COMSET waits for it
abbrev pub AwaitsMove : ℕ → BusState → Type 0
AwaitsMove entry b = OfEntry entry (λ d. comsets_in d.controller.waiting ≢ []) b

-- what each call judges, in this order; all others are always taken
abbrev pub JudgesInOrder : Call → BusState → Option BusFault → Type 0
JudgesInOrder (Add address) b =
    Judges TooMany (16 ≤ length b.devices.entries) (Judges OutOfRange (127 ≤ address) (Judges AddressTaken (IsTakenUp address b) Accepts))
JudgesInOrder (Begin entry now) b = Judges NoEntry (IsNoEntry entry b) (Judges NotClosed (IsOpen entry b) Accepts)
JudgesInOrder (Submit entry command) b =
    Judges NoEntry (IsNoEntry entry b) (Judges PollSubmitted (command ≡ Poll)
    (Judges AddressTaken (IsBarredComset entry command b) (Judges Full (HasNoRoom entry command b) Accepts)))
JudgesInOrder (Withdraw entry) b = Judges NoEntry (IsNoEntry entry b) Accepts
JudgesInOrder (Retarget entry address) b =
    Judges NoEntry (IsNoEntry entry b) (Judges NotClosed (IsOpen entry b)
    (Judges OutOfRange (127 ≤ address) (Judges AddressTaken (IsTakenByAnother entry address b ⊎ AwaitsMove entry b) Accepts)))
JudgesInOrder _ b = Accepts

-- what `submit` judges, in this order
abbrev pub JudgesOrder : ℕ → Command → BusState → Option BusFault → Type 0
JudgesOrder entry command b =
    Judges NoEntry (IsNoEntry entry b) (Judges PollSubmitted (command ≡ Poll) (Judges AddressOutOfRange (IsNowhere command)
    (Judges AddressTaken (IsBarredComset entry command b) (Judges Full (HasNoRoom entry command b) Accepts))))

-- why a call is refused, as its contract has it
abbrev pub refused_with : Result (Option Command) BusFault → Option BusFault
refused_with (Ok command) = None
refused_with (Err fault) = Some fault

abbrev pub refusal_of : Call → BusState → Option BusFault
refusal_of (Add address) b = add_refusal address b
refusal_of (Begin entry now) b = begin_refusal_at entry b
refusal_of (Submit entry command) b = submit_refusal_at entry command b
refusal_of (Withdraw entry) b = refused_with (withdrawal_at entry b)
refusal_of (Retarget entry address) b = retarget_refusal_at entry address b
refusal_of _ b = None

-- it comes exactly where it is specified, and the bus is as it was then
pub record RefusesInOrder (b : BusState) : Type 0 where
  pub judged : (call : Call) → JudgesInOrder call b (refusal_of call b)
  pub unchanged : (call : Call) (fault : BusFault) → refusal_of call b ≡ Some fault → after_call call b ≡ b
  -- so it is with `submit`, which leaves the bus as the calls leave it that it is
  pub ordered : (entry : ℕ) (command : Command) → JudgesOrder entry command b (order_refusal_at entry command b)
  pub made : (entry : ℕ) (command : Command)
      → changed_unless (order_refusal_at entry command b) b (after_submit_at entry command b) ≡ after_calls (orders entry command) b
