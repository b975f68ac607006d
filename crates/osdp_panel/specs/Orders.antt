-- What a panel is: a bus, and of each entry the last moments of its orders and the number of the next one.
use Rattle.std.specs.Prelude.{ℕ, suc, ◌-◌, ◌^◌, Bool, List, [], ◌∷◌, Option, Some, None, option_map, slice_get, unwrap_or}
use Rattle.circular_buffer.specs.Buffer.{keep_last}
use Rattle.osdp_bus.specs.declared.entry.Entry.{Entry}
use Rattle.osdp_bus.specs.Asking.{orders_of}
use Rattle.osdp_bus.specs.Buses.{BusState, device_of}

-- the greatest moment of a clock: an order that is given until then never grows too old. It is no number of an order either
abbrev pub never : ℕ
never = 2 ^ 64 - 1

-- of an entry: the last moments of its orders that have no end yet, the oldest order first, how many there may be, and the number of the next order
pub record Orders : Type 0 where
  pub moments : List ℕ
  pub room : ℕ
  pub next : ℕ

pub record PanelState : Type 0 where
  pub bus : BusState
  -- those of each entry
  pub orders : List Orders
  -- how many orders of an entry may have no end yet
  pub places : ℕ
  -- the number of the order of which the report that waits tells, where it tells of one
  pub told : ℕ
  -- the moment at which the last POLL was first sent
  pub polled : ℕ
  -- bytes of this turn brought a report
  pub brought : Bool
  -- a burst of the exchange that is outstanding was withheld, since the last moment of its order had passed
  pub withheld : Bool
  -- the last moment of a burst that hasn't been given out yet, where there is one
  pub last : Option ℕ

abbrev pub orders_at : ℕ → PanelState → Option Orders
orders_at entry p = slice_get p.orders entry

-- the last moment of the oldest order of an entry that has no end yet
abbrev pub until_of : Orders → ℕ
until_of o = unwrap_or (slice_get o.moments 0) never

-- orders of an entry leave in front only: as many of the youngest moments stay as its device has orders
abbrev pub kept : Option Entry → Orders → Orders
kept None o = o
kept (Some d) o = record o { moments = keep_last (orders_of d) o.moments }

-- .. of each entry, by its number
abbrev pub kept_from : ℕ → BusState → List Orders → List Orders
kept_from entry b [] = []
kept_from entry b (o ∷ os) = kept (device_of entry b) o ∷ kept_from (suc entry) b os

-- the panel after a call of its bus, by the bus after it
abbrev pub follows : BusState → PanelState → PanelState
follows b p = record p { bus = b; orders = kept_from 0 b p.orders }

-- the number of an entry's order that ended last: those that have no end yet have the numbers from there to the next
abbrev pub ended_in : Option Entry → Option Orders → ℕ
ended_in (Some d) (Some o) = o.next - orders_of d - 1
ended_in _ _ = 0

-- the entry that the report which waits is about
abbrev pub reported : BusState → Option ℕ
reported b = option_map (λ told. told.0) b.devices.report

-- while a report waits, none comes. One that has come is about the order that ended last, where it is about one
abbrev pub told_after : Option ℕ → Option ℕ → BusState → List Orders → ℕ → ℕ
told_after (Some waited) now b os told = told
told_after None None b os told = told
told_after None (Some entry) b os told = ended_in (device_of entry b) (slice_get os entry)

-- .. where the call may have brought a report
abbrev pub brings : BusState → PanelState → PanelState
brings b p = record (follows b p) { told = told_after (reported p.bus) (reported b) b p.orders p.told }
