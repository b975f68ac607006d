-- A capture of lines of digits, some of which stand below a comment with their moment.
use Rattle.std.specs.Prelude.{ℕ, ◌==◌, not, ◌&&◌, Bool, if◌then◌else◌, false, List, [], ◌∷◌, drop, replicate, slice_index_or, Option, None, Some}
use Rattle.memchr.specs.Find.{first_of, is_byte, places}
use Rattle.osdp_frame.specs.Held.{by_itself, decided}
use Rattle.osdp_frame.specs.Items.{packets_in}
use Rattle.osdp_frame.specs.Reading.{RunItem, PacketItem, SkippedItem, RefusedItem, item_size}
use Rattle.osdp_tool_streams.specs.Line.{is_blank, kept, line_bytes}
use Rattle.osdp_tool_times.specs.Moments.{moment_in}
use Rattle.osdp_tool_times.specs.Times.{all_after, all_further, no_times, packet_told}
use Rattle.osdp_tool_times.specs.declared.capture.Timed.{Timed}
use Rattle.osdp_tool_times.specs.declared.table.Times.{Times}
use Rattle.osdp_tool_times.specs.declared.waits.Told.{Told}
use Rattle.osdp_tool_times.specs.declared.waits.Told.TheVariants.{Nothing}

-- the moment of the next line of digits, where one is known, and what was counted of each address
pub record Heard : Type 0 where
  pub moment : Option ℕ
  pub times : List Times

abbrev pub nothing_heard : Heard
nothing_heard = record { moment = None; times = replicate 128 no_times }

-- a comment that tells no moment leaves the one above it
abbrev pub moment_or : Option ℕ → Option ℕ → Option ℕ
moment_or None moment = moment
moment_or (Some other) moment = Some other

-- a comment with a moment is that of the next line of digits, and of no other
abbrev pub moment_after : List ℕ → Option ℕ → Option ℕ
moment_after [] moment = moment
moment_after (first ∷ rest) moment = if first == 35 then moment_or (moment_in rest) moment else None

-- what begins where a packet may: a mark or noise before it is left out
abbrev pub start_in : List ℕ → Option ℕ
start_in run = first_of (places (is_byte 83) run)

abbrev pub from_start : Option ℕ → List ℕ → List ℕ
from_start None run = []
from_start (Some place) run = drop place run

-- the place where it begins in what a line says, from 0; only the packet that begins there tells a time
abbrev pub place_or : Option ℕ → ℕ
place_or None = 0
place_or (Some place) = place

abbrev pub place_of : Option (List ℕ) → ℕ
place_of None = 0
place_of (Some run) = place_or (start_in run)

-- the item that begins there, where its own bytes decide it
abbrev pub item_at : List ℕ → Option RunItem
item_at bytes = by_itself (decided false bytes)

-- how many bytes it has: where they don't decide it, its byte 53 alone is passed over
abbrev pub size_at : Option RunItem → ℕ
size_at None = 1
size_at (Some part) = item_size part

-- a moment is that of the packet that begins there
abbrev pub item_after : Option RunItem → Option ℕ → List Times → List Times
item_after None moment times = times
item_after (Some (PacketItem p)) moment times = all_after p moment times
item_after (Some (SkippedItem b)) moment times = times
item_after (Some (RefusedItem fault)) moment times = times

-- each packet after it is a further one of the run
abbrev pub begun_after : List ℕ → Option ℕ → List Times → List Times
begun_after bytes moment times = all_further (packets_in (drop (size_at (item_at bytes)) bytes)) moment (item_after (item_at bytes) moment times)

abbrev pub run_after : List ℕ → Option ℕ → List Times → List Times
run_after run moment times = begun_after (from_start (start_in run) run) moment times

-- a bad line says nothing
abbrev pub bytes_after : Option (List ℕ) → Option ℕ → List Times → List Times
bytes_after None moment times = times
bytes_after (Some run) moment times = run_after run moment times

abbrev pub after_line : Heard → List ℕ → Heard
after_line h line = record { moment = moment_after (kept line) h.moment; times = bytes_after (line_bytes line) h.moment h.times }

-- ---- what is told of a line

abbrev pub item_told : Option RunItem → Option ℕ → List Times → Told
item_told None moment times = Nothing
item_told (Some (PacketItem p)) moment times = packet_told p moment (slice_index_or times p.address no_times)
item_told (Some (SkippedItem b)) moment times = Nothing
item_told (Some (RefusedItem fault)) moment times = Nothing

abbrev pub run_told : List ℕ → Option ℕ → List Times → Told
run_told run moment times = item_told (item_at (from_start (start_in run) run)) moment times

abbrev pub bytes_told : Option (List ℕ) → Option ℕ → List Times → Told
bytes_told None moment times = Nothing
bytes_told (Some run) moment times = run_told run moment times

-- what the reply tells that a line is, where it is one
abbrev pub line_told : Heard → List ℕ → Told
line_told h line = bytes_told (line_bytes line) h.moment h.times

-- ---- several lines

-- one after the other
unfoldable pub after_lines : Heard → List (List ℕ) → Heard
after_lines h [] = h
after_lines h (line ∷ lines) = after_lines (after_line h line) lines

abbrev pub heard_of : Timed → Heard
heard_of t = record { moment = t.moment; times = t.times.items }

-- what the last line said, as `line_bytes` has it
abbrev pub last_said : Timed → Option (List ℕ)
last_said t = if t.good then Some t.bytes.items else None

-- a line begins with a character that counts, and is no comment
abbrev pub begins : List ℕ → Bool
begins [] = false
begins (first ∷ rest) = not (is_blank first) && not (first == 35)
