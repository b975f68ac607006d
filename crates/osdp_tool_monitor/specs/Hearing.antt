-- What has been heard of a line whose run goes on, and what is printed of what happens on it.
use Rattle.std.specs.Prelude.{◌≡◌, ℕ, ◌+◌, ◌*◌, Bool, false, true, List, [], ◌∷◌, ◌++◌, length, drop, None}
use Rattle.osdp_frame.specs.Bytes.{AreBytes}
use Rattle.osdp_frame.specs.Held.{Held, decided}
use Rattle.osdp_frame.specs.Items.{items, left_over}
use Rattle.osdp_frame.specs.Reading.{RunItem, total_size}
use Rattle.osdp_tool_show.specs.Tally.{counted}
use Rattle.osdp_tool_show.specs.declared.detail.Detail.{Detail}
use Rattle.osdp_tool_monitor.specs.declared.listener.Listener.{Listener}
use Rattle.osdp_tool_monitor.specs.declared.open_line.OpenLine.{OpenLine}
use Rattle.osdp_tool_monitor.specs.InTurn.{after_all, report_of_all}
use Rattle.osdp_tool_monitor.specs.Listening.{Listening, ended, heard_items, items_report, listening_of, nothing_heard, table, after_table, detail_of}

pub record Hearing : Type 0 where
  -- what has been heard of the items that its bytes decide
  pub heard : Listening
  -- the bytes after them
  pub held : List ℕ

abbrev pub nothing_yet : Bool → Hearing
nothing_yet standard = record { heard = nothing_heard standard; held = [] }

-- what happens: bytes come, the run ends after these bytes, the table is due, or it has been told, and another one will come
pub data LineEvent : Type 0 where
  Come : List ℕ → LineEvent
  RunEnds : List ℕ → LineEvent
  TableDue : LineEvent
  TableTold : LineEvent

abbrev pub after_event : Hearing → LineEvent → Hearing
after_event h (Come bytes) =
    record { heard = heard_items h.heard (items false (h.held ++ bytes)); held = left_over (h.held ++ bytes) }
after_event h (RunEnds bytes) = record { heard = ended (heard_items h.heard (items true (h.held ++ bytes))); held = [] }
after_event h TableDue = h
after_event h TableTold = record h { heard = after_table h.heard }

-- what is printed: of the items that bytes decide, at once; and the table
abbrev pub event_report : Detail → Hearing → LineEvent → List ℕ
event_report detail h (Come bytes) = items_report detail h.heard (items false (h.held ++ bytes))
event_report detail h (RunEnds bytes) = items_report detail h.heard (items true (h.held ++ bytes))
event_report detail h TableDue = table h.heard
event_report detail h TableTold = []

-- one after the other
abbrev pub after_events : Hearing → List LineEvent → Hearing
after_events h events = after_all after_event h events

abbrev pub events_report : Detail → Hearing → List LineEvent → List ℕ
events_report detail h events = report_of_all after_event (event_report detail) h events

-- how many bytes came
abbrev pub event_size : LineEvent → ℕ
event_size (Come bytes) = length bytes
event_size (RunEnds bytes) = length bytes
event_size TableDue = 0
event_size TableTold = 0

unfoldable pub events_size : List LineEvent → ℕ
events_size [] = 0
events_size (event ∷ events) = event_size event + events_size events

-- all that is counted, with five for each byte held
abbrev pub load : Hearing → ℕ
load h = counted h.heard.tally + 5 * length h.held

-- ---- an open line

abbrev pub hearing_of : OpenLine → Hearing
hearing_of l = record { heard = listening_of l.listener; held = l.framer.bytes }

-- which items are printed
abbrev pub line_detail : OpenLine → Detail
line_detail l = detail_of l.listener

-- a run goes on, and none of the bytes held is decided
pub record IsOpen (l : OpenLine) : Type 0 where
  pub bytes : AreBytes l.framer.bytes
  pub goes_on : l.framer.ended ≡ false
  pub none : decided false l.framer.bytes ≡ None

-- it went on by these events
pub record Hears (events : List LineEvent) (old new : OpenLine) (before after : List ℕ) : Type 0 where
  pub prints : line_detail new ≡ line_detail old
  pub heard : hearing_of new ≡ after_events (hearing_of old) events
  pub text : after ≡ before ++ events_report (line_detail old) (hearing_of old) events
  pub is_open : IsOpen new

-- ---- items that are taken off

-- a listener went on by items
pub record HearsItems (parts : List RunItem) (old new : Listener) (before after : List ℕ) : Type 0 where
  pub tells : detail_of new ≡ detail_of old
  pub heard : listening_of new ≡ heard_items (listening_of old) parts
  pub text : after ≡ before ++ items_report (detail_of old) (listening_of old) parts

-- the items that the bytes held decide were told and taken off, and no other is decided
pub record Drained (start now : Held) (old new : Listener) (before after : List ℕ) : Type 0 where
  pub hears : HearsItems (items start.ended start.bytes) old new before after
  pub left : now.bytes ≡ drop (total_size (items start.ended start.bytes)) start.bytes
  pub goes_on : now.ended ≡ false
  pub none : decided false now.bytes ≡ None
  pub bytes : AreBytes now.bytes
