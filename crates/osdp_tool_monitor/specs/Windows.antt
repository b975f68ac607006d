-- What came since the last table, where there was one, and what is printed of it.
use Rattle.std.specs.Prelude.{ℕ, ◌+◌, ◌-◌, ◌||◌, if◌then◌else◌, List, [], ◌∷◌, ◌++◌, codes, length, replicate, Option, None, Some}
use Rattle.std.specs.Fmt.{decimal}
use Rattle.osdp_tool_show.specs.declared.tally.Tally.{Tally}
use Rattle.osdp_tool_monitor.specs.declared.counts.Counts.{Counts}
use Rattle.osdp_tool_monitor.specs.Counts.{columns, counted_columns, counts_line, is_ghost, is_silent, no_counts}

-- what had been counted when a table was told
pub record Tabled : Type 0 where
  pub tally : Tally
  pub counts : List Counts
  pub judged : ℕ
  pub accused : ℕ

-- what an address's counts were, and what they are: how many came between
abbrev pub since : Counts → Counts → Counts
since before now = record {
  asked = now.asked - before.asked;
  polls = now.polls - before.polls;
  repeats = now.repeats - before.repeats;
  answered = now.answered - before.answered;
  busy = now.busy - before.busy;
  nak = now.nak - before.nak;
  events = now.events - before.events;
  opened = now.opened - before.opened;
  moved = now.moved - before.moved;
  judged = now.judged - before.judged;
  forgot = now.forgot - before.forgot;
  accused = now.accused - before.accused;
  restarted = now.restarted - before.restarted;
  seconds = now.seconds - before.seconds;
  needless = now.needless - before.needless;
  demands = now.demands - before.demands;
  secured = now.secured - before.secured;
  damaged = now.damaged - before.damaged;
  clean = now.clean - before.clean;
  rate = now.rate;
  heard = now.heard;
}

-- the same of the whole line
abbrev pub tally_since : Tally → Tally → Tally
tally_since before now = record {
  runs = now.runs - before.runs;
  place = now.place;
  packets = now.packets - before.packets;
  skipped = now.skipped - before.skipped;
  refused = now.refused - before.refused;
}

-- ---- the table of it: each line but the head begins with a plus

unfoldable pub window_heading : List ℕ
window_heading = codes "window  asked  polls repeats  answered  busy  nak  events  opened  moved  judged  forgot  accused\n"

abbrev pub window_address : ℕ → List ℕ
window_address address = codes "+" ++ (decimal address ++ replicate (5 - length (decimal address)) 32)

abbrev pub window_row : ℕ → Counts → List ℕ
window_row address c = window_address address ++ (columns (counted_columns c) ++ codes "\n")

-- what a table has told of an address: nothing where damage made it, so that it had no line
abbrev pub told_counts : Counts → Counts
told_counts c = if is_ghost c then no_counts else c

-- a line for each address of which something came that no table has told; none for one that damage made
abbrev pub window_row_if : ℕ → Counts → Counts → List ℕ
window_row_if address before now =
    if is_silent (since (told_counts before) now) || is_ghost now then [] else window_row address (since (told_counts before) now)

unfoldable pub window_rows : ℕ → List Counts → List Counts → List ℕ
window_rows address [] now = []
window_rows address (before ∷ befores) [] = []
window_rows address (before ∷ befores) (now ∷ nows) = window_row_if address before now ++ window_rows (address + 1) befores nows

abbrev pub window_line : Tabled → Tally → ℕ → ℕ → List ℕ
window_line t tally judged accused = codes "+" ++ counts_line (tally_since t.tally tally) (judged - t.judged) (accused - t.accused)

abbrev pub window_of : Tabled → Tally → List Counts → ℕ → ℕ → List ℕ
window_of t tally counts judged accused = window_heading ++ (window_rows 0 t.counts counts ++ window_line t tally judged accused)

-- nothing, where no table was told before
abbrev pub window_text : Option Tabled → Tally → List Counts → ℕ → ℕ → List ℕ
window_text None tally counts judged accused = []
window_text (Some t) tally counts judged accused = window_of t tally counts judged accused
