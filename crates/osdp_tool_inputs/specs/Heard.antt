-- The lines of `monitor`, those about a run after the moment and the way of it, a late answer before its times, and then the answer times of each device.
use Rattle.std.specs.Prelude.{ℕ, ◌==◌, ◌+◌, ◌-◌, ◌&&◌, Bool, List, [], ◌∷◌, ◌++◌, codes, drop, flat_map, get_or, is_some, if◌then◌else◌, Option, None, Some}
use Rattle.std.specs.Fmt.{decimal}
use Rattle.memchr.specs.Find.{is_byte, places, first_of}
use Rattle.osdp_tool_captures.specs.Lines.{is_decimal}
use Rattle.osdp_tool_streams.specs.Cut.{line_feed, lines_of}
use Rattle.osdp_tool_streams.specs.Line.{line_bytes}
use Rattle.osdp_tool_objects.specs.Objects.{object_with}
use Rattle.osdp_tool_inputs.specs.Printable.{printable}
use Rattle.osdp_tool_inputs.specs.Times.{ends_so, has_digits, run_of, stamp_at, stamps_of}
use Rattle.osdp_tool_inputs.specs.declared.capture.LateTimes.{LateTimes}
use Rattle.osdp_tool_times.specs.Captures.{Heard, after_line, after_lines, line_told, nothing_heard, place_of}
use Rattle.osdp_tool_times.specs.DayTime.{clock_stamp}
use Rattle.osdp_tool_times.specs.declared.table.Times.{Times}
use Rattle.osdp_tool_times.specs.declared.waits.Told.{Told}
use Rattle.osdp_tool_times.specs.declared.waits.Told.TheVariants.{InTime, Late, Nothing}
use Rattle.osdp_tool_times.specs.Text.{times_objects, times_text}

-- a line about a run begins with its number, and a colon stands in it: none stands in a row of a table
abbrev pub names_run : List ℕ → Bool
names_run line = is_decimal (get_or line 0 0) && is_some (first_of (places (is_byte 58) line))

-- the times of a late answer at this place of its run, where it is one
abbrev pub late_told : ℕ → Told → Option LateTimes
late_told place Nothing = None
late_told place (InTime time) = None
late_told place (Late took waited) = Some (record { place = place; took = took; waited = waited })

-- the late answer that a line of digits tells: that of its first packet
abbrev pub line_late : Heard → List ℕ → Option LateTimes
line_late h line = late_told (place_of (line_bytes line)) (line_told h line)

-- .. each of them, by the moments of a text
unfoldable pub tells_below : Heard → List (List ℕ) → List (Option LateTimes)
tells_below h [] = []
tells_below h (line ∷ lines) =
    if has_digits line then line_late h line ∷ tells_below (after_line h line) lines else tells_below (after_line h line) lines

abbrev pub tells_of : List ℕ → List (Option LateTimes)
tells_of text = tells_below nothing_heard (lines_of text)

-- what a run tells, of which the first is run 1
abbrev pub tells_at : ℕ → List (Option LateTimes) → Option LateTimes
tells_at run tells = if run == 0 then None else get_or tells (run - 1) None

-- the place that a line about a run names: the number after its first colon
abbrev pub after_colon : Option ℕ → List ℕ → List ℕ
after_colon None line = []
after_colon (Some colon) line = drop (colon + 1) line

abbrev pub place_named : List ℕ → ℕ
place_named line = run_of (after_colon (first_of (places (is_byte 58) line)) line)

-- what the monitor tells of a late answer
abbrev pub late_notice : List ℕ
late_notice = codes "a late answer: the reader takes longer than the panel waits"

-- how long it took, and how long the panel waited
abbrev pub took_text : ℕ → ℕ → List ℕ
took_text took waited = codes " (it took " ++ (decimal took ++ (codes " ms, the panel waited " ++ (decimal waited ++ codes " ms)")))

-- the line tells of this late answer: it names its place
abbrev pub is_about : LateTimes → List ℕ → Bool
is_about late line = place_named line == late.place && ends_so line late_notice

-- what stands after a line about a run
abbrev pub times_after : List ℕ → Option LateTimes → List ℕ
times_after line None = []
times_after line (Some late) = if is_about late line then took_text late.took late.waited else []

-- a stamp, with the day's time where that is asked for; its control characters are shown
abbrev pub shown_by : Bool → List ℕ → List ℕ
shown_by clock stamp = printable (if clock then clock_stamp stamp else stamp)

-- a line about a run, and the times of a late answer
abbrev pub whole_line : Option LateTimes → List ℕ → List ℕ
whole_line told line = line ++ times_after line told

-- after the stamp of the run
abbrev pub marked_line : Bool → List ℕ → Option LateTimes → List ℕ → List ℕ
marked_line clock stamp told line = shown_by clock stamp ++ (codes " " ++ (whole_line told line ++ line_feed ∷ []))

-- the stamp of the run of a line
abbrev pub shown_stamp : Bool → List (List ℕ) → List ℕ → List ℕ
shown_stamp clock stamps line = shown_by clock (stamp_at (run_of line) stamps)

abbrev pub told_line : Bool → List (List ℕ) → List (Option LateTimes) → List ℕ → List ℕ
told_line clock stamps tells line =
    if names_run line then marked_line clock (stamp_at (run_of line) stamps) (tells_at (run_of line) tells) line else line ++ line_feed ∷ []

-- what the monitor prints of the digits in a text, with the stamps of the text
abbrev pub told_text : Bool → List ℕ → List ℕ → List ℕ
told_text clock text shown = flat_map (told_line clock (stamps_of text) (tells_of text)) (lines_of shown)

-- ---- the same as objects of JSON

-- how long a late answer took, and how long the panel waited
abbrev pub took_members : ℕ → ℕ → List ℕ
took_members took waited = codes ",\"took\":" ++ (decimal took ++ (codes ",\"waited\":" ++ decimal waited))

-- what stands after the members of a line about a run
abbrev pub members_after : List ℕ → Option LateTimes → List ℕ
members_after line None = []
members_after line (Some late) = if is_about late line then took_members late.took late.waited else []

-- a line about a run has the stamp of that in it, and a late answer has its times after its text
abbrev pub marked_object : Bool → List ℕ → Option LateTimes → List ℕ → List ℕ
marked_object clock stamp told line = object_with (shown_by clock stamp) (members_after line told) (whole_line told line)

abbrev pub stamped_object : Bool → List (List ℕ) → List (Option LateTimes) → List ℕ → List ℕ
stamped_object clock stamps tells line = marked_object clock (stamp_at (run_of line) stamps) (tells_at (run_of line) tells) line

-- ---- by whether objects are wanted, and by whether the day's time is

abbrev pub retold_line : Bool → Bool → List (List ℕ) → List (Option LateTimes) → List ℕ → List ℕ
retold_line json clock stamps tells line = if json then stamped_object clock stamps tells line else told_line clock stamps tells line

abbrev pub retold_times : Bool → List Times → List ℕ
retold_times json times = if json then times_objects times else times_text times

-- what the monitor prints of the digits in a text, with the stamps of the text, and the answer times of each device, by these stamps
abbrev pub printed_of : Bool → Bool → List ℕ → List ℕ → List ℕ
printed_of json clock text shown =
    flat_map (retold_line json clock (stamps_of text) (tells_of text)) (lines_of shown) ++ retold_times json (after_lines nothing_heard (lines_of text)).times
