-- The text of items.
use Rattle.std.specs.Prelude.{ℕ, ◌+◌, false, if◌then◌else◌, List, [], ◌∷◌, ◌++◌}
use Rattle.osdp_frame.specs.Reading.{RunItem}
use Rattle.osdp_frame.specs.Items.{items, reading}
use Rattle.osdp_tool_show.specs.declared.detail.Detail.{Detail}
use Rattle.osdp_tool_show.specs.declared.detail.Detail.TheVariants.{Full, Refusals, Filtered}
use Rattle.osdp_tool_show.specs.declared.tally.Tally.{Tally}
use Rattle.osdp_tool_show.specs.ItemText.{counts_line, has_line, item_line}
use Rattle.osdp_tool_show.specs.Tally.{no_tally, tally_after, tally_after_all, after_run}

-- the line of an item that stands after what was counted, where it has one
abbrev pub shown_line : Detail → Tally → RunItem → List ℕ
shown_line detail tally part = if has_line detail part then item_line (tally.runs + 1) tally.place part else []

-- the lines of items, one after the other
unfoldable pub shown_lines : Detail → Tally → List RunItem → List ℕ
shown_lines detail tally [] = []
shown_lines detail tally (part ∷ parts) = shown_line detail tally part ++ shown_lines detail (tally_after tally part) parts

-- the line of counts, where it is wanted
abbrev pub end_line : Detail → Tally → List ℕ
end_line Full tally = []
end_line (Filtered filter) tally = []
end_line Refusals tally = counts_line tally.runs tally.packets tally.skipped tally.refused

-- after whole runs, one after the other
unfoldable pub after_runs : Tally → List (List ℕ) → Tally
after_runs tally [] = tally
after_runs tally (run ∷ runs) = after_runs (after_run (tally_after_all tally (reading run))) runs

-- the lines of whole runs
unfoldable pub runs_lines : Detail → Tally → List (List ℕ) → List ℕ
runs_lines detail tally [] = []
runs_lines detail tally (run ∷ runs) =
    shown_lines detail tally (reading run) ++ runs_lines detail (after_run (tally_after_all tally (reading run))) runs

-- of runs that have ended and one that goes on: what is counted of the items that its bytes decide ..
abbrev pub tally_so_far : List (List ℕ) → List ℕ → Tally
tally_so_far ended open_bytes = tally_after_all (after_runs no_tally ended) (items false open_bytes)

-- .. and their lines, after those of the runs that have ended
abbrev pub lines_so_far : Detail → List (List ℕ) → List ℕ → List ℕ
lines_so_far detail ended open_bytes =
    runs_lines detail no_tally ended ++ shown_lines detail (after_runs no_tally ended) (items false open_bytes)
