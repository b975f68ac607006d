-- Bytes that come, ticks, and bursts that go out.
use Rattle.std.specs.Prelude.{ℕ, Bool, true, false, ◌&&◌, ◌||◌, ◌==◌, max, nat_lt, if◌then◌else◌, List, [], Option, Some, None, is_some}
use Rattle.osdp_frame.specs.Packet.{Packet}
use Rattle.osdp_bus.specs.declared.asking.Question.{Question}
use Rattle.osdp_bus.specs.Asking.{question}
use Rattle.osdp_bus.specs.Buses.{BusState, has_report, seen}
use Rattle.osdp_bus.specs.Hearing.{after_bytes, after_silence}
use Rattle.osdp_bus.specs.Ticking.{BusTicked, bus_ticks}
use Rattle.osdp_controller.specs.declared.exchange.Asked.{Asked}
use Rattle.osdp_controller.specs.declared.exchange.Asked.TheVariants as asked
use Rattle.osdp_panel.specs.Giving.{late_at}
use Rattle.osdp_panel.specs.Orders.{Orders, PanelState, brings, never, orders_at, until_of}

-- the bus after bytes of a turn, or a silence, which may have brought a report
abbrev pub hears_so : BusState → PanelState → PanelState
hears_so b p = record (brings b p) { brought = p.brought || has_report b }

-- bytes come at a moment
abbrev pub after_hear : List ℕ → ℕ → PanelState → PanelState
after_hear bytes now p = hears_so (after_bytes bytes now p.bus) p

-- the line is seen silent at a moment
abbrev pub after_seen_silent : ℕ → PanelState → PanelState
after_seen_silent now p = hears_so (after_silence now p.bus) p

-- the last moment of a packet that goes out: that of the order that is on its way, and never of an ID or a POLL
abbrev pub until_asked : Asked → Option Orders → ℕ
until_asked asked.Submitted (Some o) = until_of o
until_asked _ _ = never

abbrev pub until_by : Option Question → PanelState → ℕ
until_by None p = never
until_by (Some q) p = until_asked q.asked (orders_at q.entry p)

-- a POLL that goes out for the first time
abbrev pub is_poll : Asked → Bool
is_poll asked.Polling = true
is_poll _ = false

abbrev pub polled_by : Option Question → PanelState → ℕ
polled_by None p = p.polled
polled_by (Some q) p = if is_poll q.asked && (q.sent == 1) then p.bus.greatest else p.polled

-- a packet with this last moment: it is to be given out, or is withheld where that moment has passed already
abbrev pub lasts : ℕ → PanelState → PanelState
lasts until p = if nat_lt until p.bus.greatest then record p { last = None; withheld = true } else record p { last = Some until }

abbrev pub goes_out : Option Question → PanelState → PanelState
goes_out q p = lasts (until_by q p) (record p { polled = polled_by q p })

abbrev pub sends : Bool → PanelState → PanelState
sends true p = goes_out (question p.bus) p
sends false p = record p { last = None }

-- a tick of the bus, and what goes out of it
abbrev pub sends_of : BusTicked → PanelState → PanelState
sends_of t p = sends (is_some t.sent) (record (brings t.bus p) { brought = false })

-- no tick sends in a turn whose bytes brought a report, nor while an order is late: the moment is seen, and that is all
abbrev pub holds_back : ℕ → PanelState → Bool
holds_back now p = p.brought || is_some (late_at (max p.bus.greatest now) p)

abbrev pub rests : ℕ → PanelState → PanelState
rests now p = record p { bus = seen now p.bus; brought = false; last = None }

abbrev pub after_tick : ℕ → PanelState → PanelState
after_tick now p = if holds_back now p then rests now p else sends_of (bus_ticks now p.bus) p

-- what the bus writes then into what its caller lends
abbrev pub sent_at : ℕ → PanelState → Option Packet
sent_at now p = if holds_back now p then None else (bus_ticks now p.bus).sent

-- a burst is given out for writing at a moment, and not where its last moment has passed
abbrev pub is_past : Option ℕ → ℕ → Bool
is_past None now = false
is_past (Some until) now = nat_lt until now

abbrev pub written_by : Option ℕ → ℕ → List ℕ → List ℕ
written_by None now burst = []
written_by (Some until) now burst = if nat_lt until now then [] else burst

abbrev pub written : ℕ → List ℕ → PanelState → List ℕ
written now burst p = written_by p.last (max p.bus.greatest now) burst

abbrev pub after_write : ℕ → PanelState → PanelState
after_write now p =
    record p { bus = seen now p.bus; last = None; withheld = p.withheld || is_past p.last (max p.bus.greatest now) }
