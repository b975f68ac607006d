-- What a device by lines does to its reader, and what it tells of that.
use Rattle.std.specs.Prelude.{◌≡◌, ◌⊎◌, ℕ, zero, suc, Bool, true, false, if◌then◌else◌, List, [], ◌∷◌, ◌++◌, length, Option, Some, None}
use Rattle.std.specs.Option.{option_map}
use Rattle.osdp_device.specs.Ages.{AgesState, after_expiry, after_removal, expires, is_offline}
use Rattle.osdp_device.specs.Hearing.{hears_bytes, hears_silence, hears_tick}
use Rattle.osdp_device.specs.declared.events.Expired.{Expired}
use Rattle.osdp_device.specs.declared.events.Expired.TheVariants.{Withdrawn, InDoubt}
use Rattle.osdp_frame.specs.Receiving.{Received, after_silence, after_tick, ends_silent, seen}
use Rattle.osdp_device.specs.Saying.{said_to, unless_silent}
use Rattle.osdp_device.specs.Status.{new_status, status_after, status_answer}
use Rattle.osdp_device.specs.Telling.{after_all, items_of, listed}
use Rattle.osdp_device.specs.declared.status.DeviceStatus.{DeviceStatus}
use Rattle.osdp_frame.specs.Items.{items}
use Rattle.osdp_frame.specs.Packet.{Packet}
use Rattle.osdp_frame.specs.Reading.{RunItem, PacketItem, SkippedItem, RefusedItem}
use Rattle.osdp_line_answers.specs.Answers.{Speaks}
use Rattle.osdp_line_calls.specs.Calls.{Says, SaysNothing}
use Rattle.osdp_msg.specs.declared.event.Event.{Event}
use Rattle.osdp_reader.specs.Queue.{in_doubt, never_offered}
use Rattle.osdp_reader.specs.State.{ReaderState, after_lapse_event, after_set_busy, after_set_handler, after_withdraw_event, new_reader}
use Rattle.osdp_reader.specs.Table.{hears, kind_of}
use Rattle.osdp_reader.specs.declared.config.ReaderConfig.{ReaderConfig}
use Rattle.osdp_line_calls.specs.declared.reader_call.ReaderCall.{ReaderCall}
use Rattle.osdp_line_calls.specs.declared.reader_call.ReaderCall.TheVariants as line
use Rattle.osdp_line_calls.specs.ReaderCalls.{CallFits, call_words}
use Rattle.osdp_line_calls.specs.ReaderLines.{Answers}
use Rattle.osdp_line_calls.specs.ReaderSessions.{Session, after_event, comes, heard, new_session, submit_text}
use Rattle.osdp_msg.specs.Limits.{room_for}
use Rattle.osdp_line_calls.specs.ReaderTexts.{all_lines, expired_line, no_line, presence_text, waiting_line}
use Rattle.osdp_line_calls.specs.declared.reader_absence.Absence.{Absence}

-- What a reader is called with: a packet of its line, an event, which is refused where there is no room, and what its device sets. The device takes the
-- oldest event back that was never offered, or lets the oldest go that was. And it looks whether its panel is gone, which does nothing to the reader.
pub data Step : Type 0 where
  Hears : Packet → Step
  Submits : Event → Step
  SetsBusy : Bool → Step
  SetsStatus : DeviceStatus → Step
  Withdraws : Step
  Lapses : Step
  -- whether that is told, whether the panel was gone, and whether it is
  Looks : Bool → Bool → Bool → Step

abbrev pub after_step : Step → ReaderState DeviceStatus → ReaderState DeviceStatus
after_step (Hears packet) r = (hears status_answer status_after r packet).reader
after_step (Submits event) r = after_event event r
after_step (SetsBusy busy) r = after_set_busy busy r
after_step (SetsStatus status) r = after_set_handler status r
after_step Withdraws r = after_withdraw_event r
after_step Lapses r = after_lapse_event r
after_step (Looks told before now) r = r

abbrev pub after_steps : List Step → ReaderState DeviceStatus → ReaderState DeviceStatus
after_steps [] r = r
after_steps (step ∷ steps) r = after_steps steps (after_step step r)

abbrev pub left_text : Option Expired → List ℕ
left_text None = []
left_text (Some expired) = expired_line expired

-- what is told of a step: what the reader's table says to the packet, or that there is no room for the event, or which event has left
abbrev pub step_text : Step → ReaderState DeviceStatus → List ℕ
step_text (Hears packet) r = all_lines (listed (unless_silent (kind_of r packet) (said_to status_answer status_after r packet)))
step_text (Submits event) r = submit_text event r
step_text (SetsBusy busy) r = []
step_text (SetsStatus status) r = []
step_text Withdraws r = left_text (option_map Withdrawn (never_offered r.queue))
step_text Lapses r = left_text (option_map InDoubt (in_doubt r.queue))
step_text (Looks told before now) r = if told then presence_text before now else []

-- of a list of steps, each as those before it have left the reader
abbrev pub steps_text : List Step → ReaderState DeviceStatus → List ℕ
steps_text [] r = []
steps_text (step ∷ steps) r = step_text step r ++ steps_text steps (after_step step r)

-- each packet of these items is heard, in their order
abbrev pub hears_packets : List RunItem → List Step
hears_packets [] = []
hears_packets (PacketItem packet ∷ parts) = Hears packet ∷ hears_packets parts
hears_packets (SkippedItem byte ∷ parts) = hears_packets parts
hears_packets (RefusedItem fault ∷ parts) = hears_packets parts

-- the packets that are held of the line are heard
abbrev pub hears_held : Received → List Step
hears_held l = hears_packets (items_of l.held)

-- bytes come: the packets of a run that a silence has ended are heard, then those that the bytes after what is left decide
abbrev pub hears_with : List ℕ → Received → List Step
hears_with [] l = hears_held l
hears_with (byte ∷ bytes) l =
    let run = (ends_silent l).held in
    hears_held (ends_silent l) ++ hears_packets (items false ((after_all run (items_of run)).bytes ++ byte ∷ bytes))

-- of so many events at most the oldest leaves where it is too old at a moment, by a limit, and then those after it
abbrev pub leaves : Bool → Step
leaves true = Lapses
leaves false = Withdraws

abbrev pub lets_go_steps : ℕ → ℕ → ℕ → ReaderState DeviceStatus → AgesState → List Step
lets_go_steps zero now limit r a = []
lets_go_steps (suc most) now limit r a =
    if expires now limit (length r.queue.events) a
    then leaves r.queue.ever_offered ∷ lets_go_steps most now limit (after_expiry r) (after_removal false (length r.queue.events) a)
    else []

-- it is looked whether the panel is there
abbrev pub looks_step : Session → Step
looks_step s = Looks s.absence.told s.gone (is_offline s.now s.ages)

-- a moment comes: so it is looked, and the events leave that are too old
abbrev pub looks_steps : Session → List Step
looks_steps s =
    looks_step s
    ∷ lets_go_steps (length s.reader.queue.events) s.now s.absence.expire s.reader s.ages

-- the steps that a line orders, in the session as it stands
abbrev pub ordered : ReaderCall → Session → List Step
ordered (line.At later) s = looks_steps (comes later s)
ordered (line.Bytes list) s =
    hears_with list.items (seen s.now s.line) ++ looks_step (heard (hears_bytes status_answer status_after list.items s.now s.reader s.line) s).session ∷ []
ordered line.Silence s =
    hears_held (after_silence s.now s.line) ++ looks_step (heard (hears_silence status_answer status_after s.now s.reader s.line) s).session ∷ []
ordered line.Tick s =
    hears_held (after_tick s.now s.line) ++ looks_step (heard (hears_tick status_answer status_after s.now s.reader s.line) s).session ∷ []
ordered (line.Event event) s = Submits event ∷ []
ordered (line.Busy busy) s = SetsBusy busy ∷ []
ordered (line.Inputs list) s = SetsStatus (record s.reader.handler { inputs = list }) ∷ []
ordered (line.Outputs list) s = SetsStatus (record s.reader.handler { outputs = list }) ∷ []
ordered (line.Readers list) s = SetsStatus (record s.reader.handler { readers = list }) ∷ []
ordered (line.Local tamper power) s = SetsStatus (record s.reader.handler { tamper = tamper; power = power }) ∷ []

-- these steps were taken, and what they told is the answer, with how many events wait after it
pub record TakesSteps (s : Session) (steps : List Step) (text : List ℕ) (next : Session) : Type 0 where
  pub reader : next.reader ≡ after_steps steps s.reader
  pub told : text ≡ steps_text steps s.reader ++ waiting_line (length next.reader.queue.events)

-- a line that is none changes nothing
pub record Refused (s : Session) (text : List ℕ) (next : Session) : Type 0 where
  pub same : next ≡ s
  pub told : text ≡ no_line ++ waiting_line (length s.reader.queue.events)

-- a line is the steps of the reader that it orders, or it is none
abbrev pub IsStepsOrNone : Type 0
IsStepsOrNone = (s : Session) (given text : List ℕ) (next : Session) → Answers s given text next
    → ((call : ReaderCall) × Says call_words CallFits given call × TakesSteps s (ordered call s) text next)
    ⊎ (SaysNothing call_words CallFits given × Refused s text next)

-- lines to a new device come to a list of steps of a new reader, so what each of them keeps holds after any lines
abbrev pub ComesOfSteps : Type 0
ComesOfSteps = (config : ReaderConfig) (capacity gap : ℕ) (absence : Absence) (lines : List (List ℕ)) (text : List ℕ) (last : Session)
    → Speaks Answers (new_session config capacity gap absence) lines text last
    → (steps : List Step) × (last.reader ≡ after_steps steps (new_reader config new_status (room_for capacity)))
