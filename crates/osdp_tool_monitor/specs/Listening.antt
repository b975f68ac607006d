-- What has been heard of a line so far, and what is printed of it, item by item.
use Rattle.std.specs.Prelude.{◌≡◌, ℕ, ◌+◌, ◌^◌, ◌≤◌, ◌==◌, not, ◌&&◌, ◌||◌, Bool, is_some, List, [], ◌++◌, replicate, Option, None, Some}
use Rattle.osdp_frame.specs.Items.{reading}
use Rattle.osdp_frame.specs.Reading.{RunItem, PacketItem, SkippedItem, RefusedItem, Stands, item_size}
use Rattle.osdp_monitor.specs.Monitors.{knowledge_of}
use Rattle.osdp_monitor.specs.Line.{Knowledge, after_item, copies_last, expected_in, found_in, no_knowledge}
use Rattle.osdp_tool_show.specs.declared.tally.Tally.{Tally}
use Rattle.osdp_tool_show.specs.Tally.{after_run, no_tally, tally_after}
use Rattle.osdp_tool_show.specs.ToldItems.{shown_line}
use Rattle.osdp_tool_streams.specs.declared.fault.ToolFault.{ToolFault}
use Rattle.osdp_tool_streams.specs.declared.fault.ToolFault.TheVariants.{NoMemory, TooLong}
use Rattle.osdp_tool_show.specs.declared.detail.Detail.{Detail}
use Rattle.osdp_tool_monitor.specs.declared.counts.Counts.{Counts}
use Rattle.osdp_tool_monitor.specs.declared.listener.Listener.{Listener}
use Rattle.osdp_tool_monitor.specs.Counts.{counts_after, counts_after_damage, is_unjudged, more_if, no_counts, table_of}
use Rattle.osdp_tool_monitor.specs.Diagnoses.{diagnoses_text}
use Rattle.osdp_tool_monitor.specs.Talk.{talk_line}
use Rattle.osdp_tool_monitor.specs.Trail.{after_bad, detail_after, hit_by, is_clean, no_trail, trail_after}
use Rattle.osdp_tool_monitor.specs.declared.trail.Trail.{Trail}
use Rattle.osdp_tool_monitor.specs.Windows.{Tabled, window_text}
use Rattle.osdp_tool_monitor.specs.InTurn.{after_all, report_of_all}
use Rattle.osdp_frame.specs.Packet.{Packet}
use Rattle.osdp_monitor.specs.declared.found.Found.{Found}
use Rattle.osdp_tool_monitor.specs.Text.{expected_bytes, found_text, told}

pub record Listening : Type 0 where
  -- what is known of the line
  pub knowledge : Knowledge
  -- where the next item stands, and how many there were of each kind
  pub tally : Tally
  -- what stands there since the last packet
  pub trail : Trail
  -- what is counted of each address
  pub counts : List Counts
  -- how many packets were judged, and how many accusations there were
  pub judged : ℕ
  pub accused : ℕ
  -- whether accusations by the profile alone are left out
  pub standard : Bool
  -- what had been counted at the last table, where there was one
  pub tabled : Option Tabled

abbrev pub nothing_heard : Bool → Listening
nothing_heard standard =
    record { knowledge = no_knowledge; tally = no_tally; trail = no_trail; counts = replicate 128 no_counts; judged = 0; accused = 0; standard = standard; tabled = None }

-- what is told of a packet, after what has been heard
abbrev pub told_in : Listening → Packet → Found
told_in l p = told l.standard (found_in l.knowledge p)

-- what is counted of an item
abbrev pub counts_of : Listening → RunItem → List Counts
counts_of l (PacketItem p) = counts_after p (is_clean l.trail.bad) (copies_last l.knowledge p) (told_in l p) l.counts
counts_of l (SkippedItem b) = counts_after_damage (hit_by l.trail (after_bad l.trail.bad)) l.counts
counts_of l (RefusedItem fault) = counts_after_damage (hit_by l.trail 7) l.counts

abbrev pub accused_of : Listening → RunItem → ℕ
accused_of l (PacketItem p) = more_if (is_some (told_in l p).accusation) l.accused
accused_of l (SkippedItem b) = l.accused
accused_of l (RefusedItem fault) = l.accused

abbrev pub judged_of : Listening → RunItem → ℕ
judged_of l (PacketItem p) = more_if (told_in l p).judged l.judged
judged_of l (SkippedItem b) = l.judged
judged_of l (RefusedItem fault) = l.judged

-- after an item
abbrev pub heard_item : Listening → RunItem → Listening
heard_item l part = record {
  knowledge = after_item l.knowledge part;
  tally = tally_after l.tally part;
  trail = trail_after l.trail part;
  counts = counts_of l part;
  judged = judged_of l part;
  accused = accused_of l part;
  standard = l.standard;
  tabled = l.tabled;
}

-- what is found in an item
abbrev pub item_found : Listening → RunItem → List ℕ
item_found l (PacketItem p) =
    found_text (l.tally.runs + 1) l.tally.place p (told_in l p) (expected_bytes (expected_in l.knowledge p))
item_found l (SkippedItem b) = []
item_found l (RefusedItem fault) = []

-- its line, as `show` prints it where it is wanted, and as `check` does else; then what a NAK refuses; and then what is found in it
abbrev pub item_report : Detail → Listening → RunItem → List ℕ
item_report detail l part =
    shown_line (detail_after l.trail detail) l.tally part ++ (talk_line detail (l.tally.runs + 1) l.tally.place l.trail part ++ item_found l part)

-- after items, one after the other
abbrev pub heard_items : Listening → List RunItem → Listening
heard_items l parts = after_all heard_item l parts

abbrev pub items_report : Detail → Listening → List RunItem → List ℕ
items_report detail l parts = report_of_all heard_item (item_report detail) l parts

-- the run has ended
abbrev pub ended : Listening → Listening
ended l = record l { tally = after_run l.tally }

-- after a whole run
abbrev pub heard_run : Listening → List ℕ → Listening
heard_run l run = ended (heard_items l (reading run))

abbrev pub run_report : Detail → Listening → List ℕ → List ℕ
run_report detail l run = items_report detail l (reading run)

-- what came since the last table, and what came since the start
abbrev pub table : Listening → List ℕ
table l =
    window_text l.tabled l.tally l.counts l.judged l.accused
    ++ (table_of l.tally l.counts l.judged l.accused ++ diagnoses_text l.tally l.counts)

-- what has been counted
abbrev pub tabled_now : Listening → Tabled
tabled_now l = record { tally = l.tally; counts = l.counts; judged = l.judged; accused = l.accused }

-- the table has been told: the next one tells what came since, too
abbrev pub after_table : Listening → Listening
after_table l = record l { tabled = Some (tabled_now l) }

-- somebody was accused, something refused, or of all packets none was judged
abbrev pub is_wrong : Listening → Bool
is_wrong l = not (l.accused == 0 && l.tally.refused == 0) || is_unjudged l.tally l.judged

-- why a line is not told any more: out of memory, or 2^60 were counted
abbrev pub IsLineFault : ℕ → ToolFault → Type 0
IsLineFault count NoMemory = Unit {0}
IsLineFault count TooLong = 2 ^ 60 ≤ count
IsLineFault count fault = ⊥

-- ---- a listener

abbrev pub listening_of : Listener → Listening
listening_of l = record { knowledge = knowledge_of l.monitor; tally = l.tally; trail = l.trail; counts = l.counts.items; judged = l.judged; accused = l.accused; standard = l.standard; tabled = l.last_table }

-- which items are printed
abbrev pub detail_of : Listener → Detail
detail_of l = l.detail

-- it went on by an item
pub record HearsItem (part : RunItem) (old new : Listener) (before after : List ℕ) : Type 0 where
  pub tells : detail_of new ≡ detail_of old
  pub heard : listening_of new ≡ heard_item (listening_of old) part
  pub text : after ≡ before ++ item_report (detail_of old) (listening_of old) part

-- it went on by the item that stands first in the rest of a run, which has so many bytes
pub record HearsFirst (rest : List ℕ) (old new : Listener) (before after : List ℕ) (size : ℕ) : Type 0 where
  pub part : RunItem
  pub stands : Stands rest part
  pub size_is : size ≡ item_size part
  pub hears : HearsItem part old new before after

-- it went on by a run
pub record HearsRun (run : List ℕ) (old new : Listener) (before after : List ℕ) : Type 0 where
  pub tells : detail_of new ≡ detail_of old
  pub heard : listening_of new ≡ heard_run (listening_of old) run
  pub text : after ≡ before ++ run_report (detail_of old) (listening_of old) run
