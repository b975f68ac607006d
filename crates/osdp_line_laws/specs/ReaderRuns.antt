-- A run of lines to a reader's device, from the first to the last: which calls the lines are, what is told of them, and what the device is after them.
use Rattle.std.specs.Prelude.{◌≡◌, ℕ, max, false, List, [], ◌∷◌, ◌++◌, length, Option, Some, None}
use Rattle.osdp_frame.specs.Receiving.{Received, after_silence, after_tick, ends_silent, seen}
use Rattle.osdp_device.specs.Telling.{after_all, items_of}
use Rattle.osdp_frame.specs.Items.{left_over}
use Rattle.osdp_line_answers.specs.Answers.{Speaks}
use Rattle.osdp_line_calls.specs.Calls.{AreSaid}
use Rattle.osdp_line_calls.specs.declared.reader_call.ReaderCall.{ReaderCall}
use Rattle.osdp_line_calls.specs.declared.reader_call.ReaderCall.TheVariants as line
use Rattle.osdp_line_calls.specs.ReaderCalls.{CallFits, call_words}
use Rattle.osdp_line_calls.specs.ReaderLines.{Answers}
use Rattle.osdp_line_calls.specs.ReaderSessions.{Session, does}
use Rattle.osdp_line_calls.specs.ReaderTexts.{no_line, waiting_line}
use Rattle.osdp_line_laws.specs.ReaderLines.{after_steps, ordered, steps_text}

-- the moment of the calls to come is the greatest of a line
abbrev pub moment_after : ReaderCall → ℕ → ℕ
moment_after (line.At later) now = max now later
moment_after _ now = now

-- of the bytes of the line those are held that belong to no item yet
abbrev pub read_out : Received → Received
read_out l = record l { held = after_all l.held (items_of l.held) }

abbrev pub with_bytes : List ℕ → Received → Received
with_bytes [] l = read_out l
with_bytes (byte ∷ bytes) l =
    let run = read_out (ends_silent l) in
    record run { held = record { bytes = left_over (run.held.bytes ++ byte ∷ bytes); ended = false }; last = run.greatest }

abbrev pub line_after : ReaderCall → ℕ → Received → Received
line_after (line.Bytes list) now l = with_bytes list.items (seen now l)
line_after line.Silence now l = read_out (after_silence now l)
line_after line.Tick now l = read_out (after_tick now l)
line_after _ now l = l

-- the whole device after a line, and what is told of it; the moments of its events, and whether the panel is gone, are those of the call
abbrev pub after_said : Option ReaderCall → Session → Session
after_said (Some call) s = record {
  reader = after_steps (ordered call s) s.reader;
  line = line_after call s.now s.line;
  ages = (does call s).session.ages;
  now = moment_after call s.now;
  absence = s.absence;
  gone = (does call s).session.gone;
}
after_said None s = s

abbrev pub said_text : Option ReaderCall → Session → List ℕ
said_text (Some call) s = steps_text (ordered call s) s.reader
said_text None s = no_line

-- one line after the other, each as those before it have left the device; each answer ends with how many events wait then
abbrev pub all_said_text : List (Option ReaderCall) → Session → List ℕ
all_said_text [] s = []
all_said_text (said ∷ more) s =
    (said_text said s ++ waiting_line (length (after_said said s).reader.queue.events)) ++ all_said_text more (after_said said s)

abbrev pub after_all_said : List (Option ReaderCall) → Session → Session
after_all_said [] s = s
after_all_said (said ∷ more) s = after_all_said more (after_said said s)

-- what a device writes to a run of lines is what is told of the calls that these lines are, and it leaves the device that these calls leave
abbrev pub RunsAreCalls : Type 0
RunsAreCalls = (first : Session) (lines : List (List ℕ)) (text : List ℕ) (last : Session) → Speaks Answers first lines text last
    → (said : List (Option ReaderCall)) × AreSaid call_words CallFits lines said × (text ≡ all_said_text said first) × (last ≡ after_all_said said first)
