-- What a panel tells.
use Rattle.std.specs.Prelude.{ℕ, ◌-◌, Bool, true, false, ◌&&◌, if◌then◌else◌, Option, Some, None, is_some, option_map, Result, Ok, Err}
use Rattle.std.specs.Option.{option_map_or}
use Rattle.osdp_msg.specs.declared.command.Command.{Command}
use Rattle.osdp_bus.specs.declared.entry.Entry.{Entry}
use Rattle.osdp_bus.specs.declared.fault.BusFault.{BusFault}
use Rattle.osdp_bus.specs.Asking.{orders_of}
use Rattle.osdp_bus.specs.Buses.{BusState, device_of, has_report, is_maybe_again}
use Rattle.osdp_bus.specs.Machine.{after_next_report, withdrawal_at}
use Rattle.osdp_controller.specs.declared.report.Report.{Report}
use Rattle.osdp_controller.specs.declared.report.Report.TheVariants as report
use Rattle.osdp_panel.specs.declared.report.PanelReport.{PanelReport}
use Rattle.osdp_panel.specs.declared.report.What.TheVariants.{Told, Expired}
use Rattle.osdp_panel.specs.Giving.{after_withdraw, late_at}
use Rattle.osdp_panel.specs.Orders.{Orders, PanelState, orders_at}

-- a report of the bus that is about an order
abbrev pub is_of_order : Report → Bool
is_of_order (report.Settled command reply) = true
is_of_order (report.Moved command answered) = true
is_of_order (report.Unread command code) = is_some command
is_of_order (report.Lost cause command) = is_some command
is_of_order _ = false

abbrev pub is_event : Report → Bool
is_event (report.Event e) = true
is_event _ = false

abbrev pub is_lost : Report → Bool
is_lost (report.Lost cause command) = true
is_lost _ = false

abbrev pub where_so : Bool → ℕ → Option ℕ
where_so true n = Some n
where_so false n = None

-- a report of the bus: an order's has its number, an event's the moment at which the POLL was first sent that it answers, and a session's end tells whether a
-- burst was withheld for being too late
abbrev pub told_of : ℕ → Report → PanelState → PanelReport
told_of entry r p = record {
  entry = entry;
  number = where_so (is_of_order r) p.told;
  since = where_so (is_event r) p.polled;
  maybe_again = is_maybe_again p.bus;
  too_late = is_lost r && p.withheld;
  what = Told r;
}

-- the number of the front order of an entry, which hasn't left yet
abbrev pub front_number : Option Entry → Option Orders → ℕ
front_number (Some d) (Some o) = o.next - orders_of d
front_number _ _ = 0

-- a late order
abbrev pub expired_of : ℕ → Result (Option Command) BusFault → PanelState → Option PanelReport
expired_of entry (Ok (Some command)) p = Some (record {
  entry = entry;
  number = Some (front_number (device_of entry p.bus) (orders_at entry p));
  since = None;
  maybe_again = false;
  too_late = false;
  what = Expired command;
})
expired_of entry (Ok None) p = None
expired_of entry (Err fault) p = None

abbrev pub expired_at : Option ℕ → PanelState → Option PanelReport
expired_at None p = None
expired_at (Some entry) p = expired_of entry (withdrawal_at entry p.bus) p

-- the report of the bus first, then each order that is late
abbrev pub told_by : Option (ℕ × Report) → PanelState → Option PanelReport
told_by (Some (entry, r)) p = Some (told_of entry r p)
told_by None p = expired_at (late_at p.bus.greatest p) p

abbrev pub tells : PanelState → Option PanelReport
tells p = told_by p.bus.devices.report p

-- what was told is gone: an order that expired is taken back from the bus
abbrev pub expires : Option ℕ → PanelState → PanelState
expires None p = p
expires (Some entry) p = after_withdraw entry p

abbrev pub after_settle : PanelState → PanelState
after_settle p =
    if has_report p.bus then record p { bus = after_next_report p.bus; withheld = false } else expires (late_at p.bus.greatest p) p
