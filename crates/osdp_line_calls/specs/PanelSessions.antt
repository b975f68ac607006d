-- What a call comes to.
use Rattle.std.specs.Prelude.{◌≡◌, ℕ, zero, suc, ◌+◌, ◌<◌, ◌^◌, if◌then◌else◌, List, [], ◌∷◌, ◌++◌, length, Option, Some, None, IfSome, is_some, option_map}
use Rattle.osdp_bus.specs.declared.config.BusConfig.{BusConfig}
use Rattle.osdp_bus.specs.declared.entry.Entry.{Entry}
use Rattle.osdp_bus.specs.declared.fault.BusFault.{BusFault}
use Rattle.osdp_bus.specs.Buses.{BusState, device_of, has_report}
use Rattle.osdp_bus.specs.Machine.{add_refusal, after_begin_at, after_retarget_at, begin_refusal_at, changed_unless, retarget_refusal_at, withdrawal_at}
use Rattle.osdp_frame.specs.Packet.{Packet}
use Rattle.osdp_frame.specs.Spelling.{spelling}
use Rattle.osdp_panel.specs.declared.report.PanelReport.{PanelReport}
use Rattle.osdp_panel.specs.Deadlines.{IsDeadline}
use Rattle.osdp_panel.specs.Giving.{after_give, after_withdraw, give_refusal}
use Rattle.osdp_panel.specs.Orders.{PanelState, orders_at}
use Rattle.osdp_panel.specs.Panels.{after_add_at, new_panel}
use Rattle.osdp_panel.specs.Sending.{after_hear, after_seen_silent, after_tick, after_write, sent_at, written}
use Rattle.osdp_panel.specs.Telling.{after_settle, front_number, tells}
use Rattle.osdp_line_calls.specs.LineAnswers.{CalledIn}
use Rattle.osdp_line_calls.specs.declared.panel_call.PanelCall.{PanelCall}
use Rattle.osdp_line_calls.specs.declared.panel_call.PanelCall.TheVariants as call
use Rattle.osdp_line_calls.specs.Passing.{Listening, Overheard, hears_begin, hears_bytes, hears_end, hears_nothing, hears_silence, new_listening, opened_by, sees}
use Rattle.osdp_line_calls.specs.PanelTexts.{burst_line, due_line, refusal_line, report_line, send_line, submit_line, withdrawal_line}

-- a panel, the burst of the last tick that had one, the moment of the calls to come, and what is heard beside the panel's bus
pub record Session : Type 0 where
  pub panel : PanelState
  pub burst : List ℕ
  pub now : ℕ
  pub listening : Listening

abbrev pub Called : Type 0
Called = CalledIn Session

-- a panel without devices, at moment 0
abbrev pub new_session : BusConfig → Session
new_session config = record { panel = new_panel config; burst = []; now = 0; listening = new_listening config.gap }

-- these lines are written, and the panel is another
abbrev pub writes : List ℕ → PanelState → Session → Called
writes text p s = record { text = text; session = record s { panel = p } }

-- nothing is written, and the panel is another, or else the call is refused and changes nothing
abbrev pub unless_refused : Option BusFault → PanelState → Session → Called
unless_refused refusal p s = writes (refusal_line refusal) (changed_unless refusal s.panel p) s

-- .. where a call of the bus alone is refused or done
abbrev pub bus_unless : Option BusFault → BusState → Session → Called
bus_unless refusal b s = writes (refusal_line refusal) (record s.panel { bus = changed_unless refusal s.panel.bus b }) s

-- the packet stands in place of the burst that was there; without one that stays
abbrev pub burst_after : Option Packet → List ℕ → List ℕ
burst_after None burst = burst
burst_after (Some packet) burst = spelling packet

-- it is told that a burst is to go out, where one is
abbrev pub ticks_at : ℕ → Session → Called
ticks_at now s = record {
  text = burst_line (is_some (after_tick now s.panel).last);
  session = record s { panel = after_tick now s.panel; burst = burst_after (sent_at now s.panel) s.burst };
}

-- the number of an entry's order that has waited longest
abbrev pub front_number_at : ℕ → PanelState → ℕ
front_number_at entry p = front_number (device_of entry p.bus) (orders_at entry p)

abbrev pub does : PanelCall → Session → Called
does (call.At now) s = record { text = []; session = record s { now = now } }
does (call.Add address next) s = unless_refused (add_refusal address s.panel.bus) (after_add_at address next s.panel) s
does (call.Begin entry) s = bus_unless (begin_refusal_at entry s.panel.bus) (after_begin_at entry s.now s.panel.bus) s
does (call.Submit entry until command) s =
    let refusal = give_refusal entry command s.panel in
    writes (submit_line entry refusal (option_map (λ o. o.next) (orders_at entry s.panel))) (changed_unless refusal s.panel (after_give entry command until s.panel)) s
does (call.Withdraw entry) s =
    writes (withdrawal_line entry (front_number_at entry s.panel) (withdrawal_at entry s.panel.bus)) (after_withdraw entry s.panel) s
does (call.Retarget entry address) s =
    bus_unless (retarget_refusal_at entry address s.panel.bus) (after_retarget_at entry address s.panel.bus) s
does (call.Bytes list) s = writes [] (after_hear list.items s.now s.panel) s
does call.Silence s = writes [] (after_seen_silent s.now s.panel) s
does call.Tick s = ticks_at s.now s
does call.Write s = writes (send_line (written s.now s.burst s.panel)) (after_write s.now s.panel) s

-- ---- the reports

-- the report that waits is taken; it may say that a session is open, or isn't any more
abbrev pub settles : Session → Session
settles s = record s {
  panel = after_settle s.panel;
  listening = record s.listening { opened = opened_by s.panel.bus.devices.report s.listening.opened };
}

-- how many orders wait at some devices
abbrev pub count_waiting : List Entry → ℕ
count_waiting [] = 0
count_waiting (d ∷ ds) = length d.controller.waiting + count_waiting ds

-- how many reports there are at most: that of the bus, where there is one, and then one of each order that waits, where it is late
abbrev pub most_reports : PanelState → ℕ
most_reports p = (if has_report p.bus then 1 else 0) + count_waiting p.bus.devices.entries

-- the lines of what came first stand before those of what came after it
abbrev pub after_text : List ℕ → Called → Called
after_text text c = record c { text = text ++ c.text }

-- a report is told, and then what comes after it; where there is none, nothing is told
abbrev pub tells_first : Option PanelReport → Called → Session → Called
tells_first None later s = record { text = []; session = s }
tells_first (Some report) later s = after_text (report_line (Some report)) later

-- of so many reports at most the first is taken and told, and then those after it, until there is none
abbrev pub tells_some : ℕ → Session → Called
tells_some zero s = record { text = []; session = s }
tells_some (suc most) s = tells_first (tells s.panel) (tells_some most (settles s)) s

-- .. all that there are
abbrev pub tells_all : Session → Called
tells_all s = tells_some (most_reports s.panel) s

abbrev pub then_tells : Called → Called
then_tells c = after_text c.text (tells_all c.session)

-- ---- an answer

-- what a call lets be heard beside the bus, before it is done. The moment of a burst that is given out is seen
abbrev pub overhears : PanelCall → Session → Overheard
overhears (call.Begin entry) s = hears_begin (begin_refusal_at entry s.panel.bus) s.now s.listening
overhears (call.Bytes list) s = hears_bytes s.panel.bus.devices.entries list.items s.now s.listening
overhears call.Silence s = hears_end s.panel.bus.devices.entries (sees s.now s.listening)
overhears call.Tick s = hears_silence s.panel.bus.devices.entries (sees s.now s.listening)
overhears call.Write s = hears_nothing (sees s.now s.listening)
overhears _ s = hears_nothing s.listening

-- first what was passed over, then what the call comes to, then all reports
abbrev pub answered : PanelCall → Session → Called
answered call s =
    let heard = overhears call s in
    after_text heard.text (then_tells (does call (record s { listening = heard.after })))

-- each answer ends with the moment of the next turn
abbrev pub ended : Option ℕ → Called → Called
ended due c = record c { text = c.text ++ due_line due }

-- the moment of the next turn of a session's panel, one of 64 bits
pub record IsDue (s : Session) (due : Option ℕ) : Type 0 where
  pub deadline : IsDeadline s.panel due
  pub range : IfSome due (λ moment. moment < 2 ^ 64)

-- the code's answer to a call: the text grows by its lines, and the session is the one after it
pub record Comes (before after : List ℕ) (next : Session) (c : Called) : Type 0 where
  pub text : after ≡ before ++ c.text
  pub session : next ≡ c.session
