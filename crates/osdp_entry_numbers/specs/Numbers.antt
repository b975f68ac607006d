-- The numbers of entries: those that the panel has, and those that they would have if ours came first, in the order of our devices.
use Rattle.std.specs.Prelude.{◌≡◌, ℕ, Bool, true, false, is_some, List, [], Option, Some, None}
use Rattle.osdp_controller.specs.declared.report.Report.{Report}
use Rattle.osdp_controller.specs.declared.state.State.TheVariants.{Closed}
use Rattle.osdp_bus.specs.Buses.{BusState, device_of, new_bus}
use Rattle.osdp_bus.specs.Machine.{new_device}
use Rattle.osdp_bus.specs.Settings.{IsBusConfig}
use Rattle.osdp_bus.specs.declared.config.BusConfig.{BusConfig}
use Rattle.osdp_bus.specs.declared.entry.Entry.{Entry}
use Rattle.osdp_bus_laws.specs.Calls as bus
use Rattle.osdp_shared_line.specs.Line.{site_at}
use Rattle.osdp_calls.specs.Sayings.{NoneRefused}

-- Of an entry of the panel its number in the order of our devices, and the other way round. In that order entries of others come after ours. A device of
-- ours that the panel has no entry for has a number that the panel has no entry at.
pub record Numbers : Type 0 where
  pub ordered : ℕ → ℕ
  pub own : ℕ → ℕ

-- each is the converse of the other
pub record AreNumbers (n : Numbers) : Type 0 where
  pub back : (i : ℕ) → n.own (n.ordered i) ≡ i
  pub forth : (k : ℕ) → n.ordered (n.own k) ≡ k

-- A new panel, and the addresses of its entries in the order of our devices. With them, in that order, stand those that are left out, each at some
-- address. All of these could be added as they stand.
pub record IsNewPanel (config : BusConfig) (addresses ordered : List ℕ) (n : Numbers) : Type 0 where
  pub settings : IsBusConfig config
  pub none_refused : NoneRefused ordered (new_bus config)
  pub numbers : AreNumbers n
  pub sorted : (i address : ℕ) → site_at i addresses ≡ Some address → site_at (n.ordered i) ordered ≡ Some address

-- an entry of which nothing is under way: it is closed, nothing waits, and no address is reserved
pub record IsIdle (d : Entry) : Type 0 where
  pub closed : d.controller.session.state ≡ Closed
  pub waiting : d.controller.waiting ≡ []
  pub reserved : d.reserved ≡ None

-- an entry as if its controller had seen this moment
abbrev pub as_seen : ℕ → Entry → Entry
as_seen moment d = record d { controller = record d.controller { session = record d.controller.session { greatest = moment } } }

-- an entry that nobody has used since it was added at this address: but for the moment it is as a new one
abbrev pub IsUnused : ℕ → BusConfig → Entry → Type 0
IsUnused address config d = as_seen 0 d ≡ new_device address config

-- a call of the panel, by other numbers
abbrev pub renumbered : (ℕ → ℕ) → bus.Call → bus.Call
renumbered f (bus.Begin entry now) = bus.Begin (f entry) now
renumbered f (bus.Submit entry command) = bus.Submit (f entry) command
renumbered f (bus.Withdraw entry) = bus.Withdraw (f entry)
renumbered f (bus.Retarget entry address) = bus.Retarget (f entry) address
renumbered f call = call

-- the entry that a call names, and whether the panel has it
abbrev pub named : bus.Call → Option ℕ
named (bus.Begin entry now) = Some entry
named (bus.Submit entry command) = Some entry
named (bus.Withdraw entry) = Some entry
named (bus.Retarget entry address) = Some entry
named _ = None

-- .. which holds of a call that names none
abbrev pub has_entry : Option ℕ → BusState → Bool
has_entry None b = true
has_entry (Some entry) b = is_some (device_of entry b)

-- the call is one of the line with all entries, too: there an entry isn't added, since it stands there already
abbrev pub is_of_line : bus.Call → BusState → Bool
is_of_line (bus.Add address) b = false
is_of_line call b = has_entry (named call) b

-- a report, by the other number of its entry
abbrev pub renumbers : (ℕ → ℕ) → ℕ × Report → ℕ × Report
renumbers f said = (f said.0, said.1)

-- the entry whose turn it is: this one, or else the one before
abbrev pub turn_of : Option ℕ → ℕ → ℕ
turn_of None first = first
turn_of (Some entry) first = entry
