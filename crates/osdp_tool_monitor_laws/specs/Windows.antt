-- The window of a table: what came since the last one, column by column.
use Rattle.std.specs.Prelude.{◌≡◌, ◌<◌, ◌+◌, ◌-◌, ℕ, true, false, if◌then◌else◌, List, [], ◌∷◌, ◌++◌, length, slice_index_or, None}
use Rattle.osdp_tool_show.specs.declared.detail.Detail.{Detail}
use Rattle.osdp_tool_show.specs.declared.tally.Tally.{Tally}
use Rattle.osdp_tool_monitor.specs.declared.counts.Counts.{Counts}
use Rattle.osdp_tool_monitor.specs.Counts.{is_ghost, no_counts, row_if}
use Rattle.osdp_tool_monitor.specs.Hearing.{Come, Hearing, LineEvent, RunEnds, TableDue, TableTold, after_events, event_report}
use Rattle.osdp_tool_monitor.specs.Listening.{Listening, tabled_now}
use Rattle.osdp_tool_monitor.specs.Windows.{since, tally_since, window_of, window_row, window_row_if}

-- no table is told among these events
abbrev pub IsUntold : LineEvent → Type 0
IsUntold (Come bytes) = Unit {0}
IsUntold (RunEnds bytes) = Unit {0}
IsUntold TableDue = Unit {0}
IsUntold TableTold = ⊥

abbrev pub NoTableTold : List LineEvent → Type 0
NoTableTold [] = Unit {0}
NoTableTold (event ∷ events) = IsUntold event × NoTableTold events

-- Where a table was told and other things have happened since, the next table has what came since then, and after it all that it has where none was told.
abbrev pub TellsWindows : Type 0
TellsWindows = (detail : Detail) (h : Hearing) (events : List LineEvent) → NoTableTold events →
    let now = after_events h (TableTold ∷ events) in
    let l = now.heard in
    event_report detail now TableDue
    ≡ window_of (tabled_now h.heard) l.tally l.counts l.judged l.accused
    ++ event_report detail (record now { heard = record l { tabled = None } }) TableDue

-- a row, what came after it, and what it has then: each column
pub record AddUp (before window now : Counts) : Type 0 where
  pub asked : before.asked + window.asked ≡ now.asked
  pub polls : before.polls + window.polls ≡ now.polls
  pub repeats : before.repeats + window.repeats ≡ now.repeats
  pub answered : before.answered + window.answered ≡ now.answered
  pub busy : before.busy + window.busy ≡ now.busy
  pub nak : before.nak + window.nak ≡ now.nak
  pub events : before.events + window.events ≡ now.events
  pub opened : before.opened + window.opened ≡ now.opened
  pub moved : before.moved + window.moved ≡ now.moved
  pub judged : before.judged + window.judged ≡ now.judged
  pub forgot : before.forgot + window.forgot ≡ now.forgot
  pub accused : before.accused + window.accused ≡ now.accused

abbrev pub row : ℕ → Listening → Counts
row address l = slice_index_or l.counts address no_counts

-- whatever has happened in between
abbrev pub RowsAddUp : Type 0
RowsAddUp = (h : Hearing) (events : List LineEvent) (address : ℕ) → address < length h.heard.counts →
    let now = (after_events h events).heard in
    AddUp (row address h.heard) (since (row address h.heard) (row address now)) (row address now)

-- what a table tells of an address: nothing where it has no line, since damage made that
abbrev pub in_table : Counts → Counts
in_table c = if is_ghost c then no_counts else c

-- no packet to the address, and none of it
abbrev pub IsQuiet : Counts → Type 0
IsQuiet c = (c.asked ≡ 0) × (c.answered ≡ 0) × (c.busy ≡ 0) × (c.nak ≡ 0)

-- what is printed of an address: no line where no packet came, and else its line with these columns
pub record Prints (address : ℕ) (c : Counts) (text : List ℕ) : Type 0 where
  pub none : IsQuiet c → text ≡ []
  pub line : (IsQuiet c → ⊥) → text ≡ window_row address c

-- Where the next table has its line, the window prints what came since the last one: what that told of the address and what came add up to this line, column
-- by column. So it is where the last table had no line, since damage had made it.
pub record TablesAdd (address : ℕ) (before now : Counts) : Type 0 where
  pub left_out : is_ghost before ≡ true → row_if address before ≡ []
  pub came : Counts
  pub adds : AddUp (in_table before) came now
  pub window : is_ghost now ≡ false → Prints address came (window_row_if address before now)

abbrev pub TablesAddUp : Type 0
TablesAddUp = (h : Hearing) (events : List LineEvent) (address : ℕ) → address < length h.heard.counts →
    TablesAdd address (row address h.heard) (row address (after_events h events).heard)

-- the same of the line of counts
pub record LineAddsUp (before window now : Tally) : Type 0 where
  pub runs : before.runs + window.runs ≡ now.runs
  pub packets : before.packets + window.packets ≡ now.packets
  pub skipped : before.skipped + window.skipped ≡ now.skipped
  pub refused : before.refused + window.refused ≡ now.refused

abbrev pub LinesAddUp : Type 0
LinesAddUp = (h : Hearing) (events : List LineEvent) →
    let now = (after_events h events).heard in
    LineAddsUp h.heard.tally (tally_since h.heard.tally now.tally) now.tally
    × (h.heard.judged + (now.judged - h.heard.judged) ≡ now.judged)
    × (h.heard.accused + (now.accused - h.heard.accused) ≡ now.accused)
