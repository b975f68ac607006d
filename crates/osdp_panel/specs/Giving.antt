-- Orders: how one is given, and when it is late.
use Rattle.std.specs.Prelude.{ℕ, suc, ◌+◌, Bool, false, ◌&&◌, ◌==◌, nat_lt, if◌then◌else◌, List, [], ◌∷◌, ◌++◌, Option, Some, None, option_map, slice_set, Result, Ok, Err}
use Rattle.circular_buffer.specs.Buffer.{keep_last}
use Rattle.osdp_msg.specs.declared.command.Command.{Command}
use Rattle.osdp_bus.specs.declared.entry.Entry.{Entry}
use Rattle.osdp_bus.specs.declared.fault.BusFault.TheVariants.{NoEntry}
use Rattle.osdp_bus.specs.Asking.{may_withdraw_of}
use Rattle.osdp_bus.specs.Buses.{BusState, device_of}
use Rattle.osdp_bus.specs.Machine.{after_submit_at, after_withdraw_at, order_refusal_at}
use Rattle.osdp_panel.specs.declared.fault.PanelFault.{PanelFault}
use Rattle.osdp_panel.specs.declared.fault.PanelFault.TheVariants as panel
use Rattle.osdp_panel.specs.Orders.{Orders, PanelState, follows, never, orders_at, until_of}

-- an order has a number where there is one left, and then what the bus refuses is refused
abbrev pub give_refusal_of : ℕ → Command → Option Orders → BusState → Option PanelFault
give_refusal_of entry command None b = Some (panel.Bus NoEntry)
give_refusal_of entry command (Some o) b =
    if o.next == never then Some panel.NumbersUsedUp else option_map panel.Bus (order_refusal_at entry command b)

abbrev pub give_refusal : ℕ → Command → PanelState → Option PanelFault
give_refusal entry command p = give_refusal_of entry command (orders_at entry p) p.bus

-- the order is the last of its entry, with the next number
abbrev pub given : ℕ → Orders → Orders
given until o = record o { moments = keep_last o.room (o.moments ++ until ∷ []); next = o.next + 1 }

abbrev pub gives_in : ℕ → ℕ → Option Orders → List Orders → List Orders
gives_in entry until None os = os
gives_in entry until (Some o) os = slice_set os entry (given until o)

abbrev pub after_give : ℕ → Command → ℕ → PanelState → PanelState
after_give entry command until p =
    record p { bus = after_submit_at entry command p.bus; orders = gives_in entry until (orders_at entry p) p.orders }

-- the front order of an entry is late at a moment: it is not on its way, and its last moment has passed
abbrev pub is_late : ℕ → Option Entry → Orders → Bool
is_late now None o = false
is_late now (Some d) o = may_withdraw_of d && nat_lt (until_of o) now

-- the first entry whose front order is late, from one on
abbrev pub late_from : ℕ → ℕ → BusState → List Orders → Option ℕ
late_from entry now b [] = None
late_from entry now b (o ∷ os) = if is_late now (device_of entry b) o then Some entry else late_from (suc entry) now b os

abbrev pub late_at : ℕ → PanelState → Option ℕ
late_at now p = late_from 0 now p.bus p.orders

-- an order is taken back
abbrev pub after_withdraw : ℕ → PanelState → PanelState
after_withdraw entry p = follows (after_withdraw_at entry p.bus) p
