-- What a call comes to.
use Rattle.std.specs.Prelude.{◌≡◌, ℕ, max, Bool, true, false, List, [], ◌∷◌, ◌++◌, length, if◌then◌else◌}
use Rattle.osdp_msg.specs.declared.event.Event.{Event}
use Rattle.osdp_device.specs.Ages.{AgesState, after_arrival_if, after_saying, is_offline, no_ages}
use Rattle.osdp_device.specs.Hearing.{Heard, hears_bytes, hears_silence, hears_tick}
use Rattle.osdp_frame.specs.Receiving.{IsAllRead, Received, new_line}
use Rattle.osdp_device.specs.Saying.{Said}
use Rattle.osdp_device.specs.Status.{new_status, status_after, status_answer}
use Rattle.osdp_device.specs.declared.status.DeviceStatus.{DeviceStatus}
use Rattle.osdp_reader.specs.Queue.{has_room}
use Rattle.osdp_reader.specs.State.{ReaderState, after_set_busy, after_set_handler, after_submit_if, new_reader}
use Rattle.osdp_reader.specs.declared.config.ReaderConfig.{ReaderConfig}
use Rattle.osdp_line_calls.specs.LineAnswers.{CalledIn}
use Rattle.osdp_line_calls.specs.ReaderAbsence.{LetGo, lets_go}
use Rattle.osdp_msg.specs.Limits.{room_for}
use Rattle.osdp_line_calls.specs.declared.reader_call.ReaderCall.{ReaderCall}
use Rattle.osdp_line_calls.specs.declared.reader_call.ReaderCall.TheVariants as call
use Rattle.osdp_line_calls.specs.declared.reader_absence.Absence.{Absence}
use Rattle.osdp_line_calls.specs.ReaderTexts.{all_lines, expired_lines, full_line, presence_text, waiting_line}

-- a device, and the moment of the calls to come
pub record Session : Type 0 where
  pub reader : ReaderState DeviceStatus
  pub line : Received
  pub ages : AgesState
  pub now : ℕ
  -- what it does while its panel is gone, and whether the panel was gone when that was looked at last
  pub absence : Absence
  pub gone : Bool

abbrev pub Called : Type 0
Called = CalledIn Session

-- a device to whose line nothing has come, at moment 0: no panel has been there yet
abbrev pub new_session : ReaderConfig → ℕ → ℕ → Absence → Session
new_session config capacity gap absence = record {
  reader = new_reader config new_status (room_for capacity);
  line = new_line gap;
  ages = no_ages capacity;
  now = 0;
  absence = absence;
  gone = true;
}

-- one after the other: the second in the session that the first leaves
abbrev pub then_does : Called → (Session → Called) → Called
then_does first more = let second = more first.session in record { text = first.text ++ second.text; session = second.session }

abbrev pub is_any : List Said → Bool
is_any [] = false
is_any (said ∷ more) = true

-- a packet that is answered counts for the panel
abbrev pub ages_heard : Heard DeviceStatus → AgesState → AgesState
ages_heard h a = after_saying (is_any h.said) h.line.greatest a

-- what is said, a line for each part, and the device after it
abbrev pub heard : Heard DeviceStatus → Session → Called
heard h s = record { text = all_lines h.said; session = record s { reader = h.reader; line = h.line; ages = ages_heard h s.ages } }

-- that the panel went, or that it came, if that is to be told
abbrev pub tells_presence : Session → Called
tells_presence s =
    let gone = is_offline s.now s.ages in
    record { text = if s.absence.told then presence_text s.gone gone else []; session = record s { gone = gone } }

-- the events leave that are too old
abbrev pub of_let_go : LetGo → Session → Called
of_let_go g s = record { text = expired_lines g.expired; session = record s { reader = g.reader; ages = g.ages } }

abbrev pub lets_events_go : Session → Called
lets_events_go s = of_let_go (lets_go s.now s.absence.expire s.reader s.ages) s

-- a moment that lies before the last one counts as that one, as on the line
abbrev pub comes : ℕ → Session → Session
comes now s = record s { now = max s.now now }

-- a moment comes: it is looked whether the panel is there
abbrev pub looks : Session → Called
looks s = then_does (tells_presence s) lets_events_go

-- nothing is said, and the reader is another
abbrev pub sets : ReaderState DeviceStatus → Session → Called
sets r s = record { text = []; session = record s { reader = r } }

-- an event is refused where there is no room for it
abbrev pub submit_text : Event → ReaderState DeviceStatus → List ℕ
submit_text event r = if has_room event r.queue then [] else full_line

abbrev pub after_event : Event → ReaderState DeviceStatus → ReaderState DeviceStatus
after_event event r = after_submit_if (has_room event r.queue) event r

abbrev pub ages_submitted : ℕ → Event → ReaderState DeviceStatus → AgesState → AgesState
ages_submitted now event r a = after_arrival_if (has_room event r.queue) now (length r.queue.events) a

abbrev pub does : ReaderCall → Session → Called
does (call.At now) s = looks (comes now s)
does (call.Bytes list) s = then_does (heard (hears_bytes status_answer status_after list.items s.now s.reader s.line) s) tells_presence
does call.Silence s = then_does (heard (hears_silence status_answer status_after s.now s.reader s.line) s) tells_presence
does call.Tick s = then_does (heard (hears_tick status_answer status_after s.now s.reader s.line) s) tells_presence
does (call.Event event) s =
    record { text = submit_text event s.reader; session = record s { reader = after_event event s.reader; ages = ages_submitted s.now event s.reader s.ages } }
does (call.Busy busy) s = sets (after_set_busy busy s.reader) s
does (call.Inputs list) s = sets (after_set_handler (record s.reader.handler { inputs = list }) s.reader) s
does (call.Outputs list) s = sets (after_set_handler (record s.reader.handler { outputs = list }) s.reader) s
does (call.Readers list) s = sets (after_set_handler (record s.reader.handler { readers = list }) s.reader) s
does (call.Local tamper power) s =
    sets (after_set_handler (record s.reader.handler { tamper = tamper; power = power }) s.reader) s

-- each answer ends with how many events wait
abbrev pub tells_waiting : Session → Called
tells_waiting s = record { text = waiting_line (length s.reader.queue.events); session = s }

abbrev pub ended : Called → Called
ended c = then_does c tells_waiting

abbrev pub answered : ReaderCall → Session → Called
answered call s = ended (does call s)

-- what is heard, as the code has it: the text grows by its lines, and reader, line and ages are those after it, with all read that came
pub record IsHeard (before after : List ℕ) (reader : ReaderState DeviceStatus) (line : Received) (ages_before ages : AgesState) (h : Heard DeviceStatus)
    : Type 0 where
  pub text : after ≡ before ++ all_lines h.said
  pub reader_is : reader ≡ h.reader
  pub line_is : line ≡ h.line
  pub ages_is : ages ≡ ages_heard h ages_before
  pub read : IsAllRead line

-- the code's answer to a call: the text grows by its lines, and the session is the one after it, with all read that came
pub record Comes (before after : List ℕ) (next : Session) (c : Called) : Type 0 where
  pub text : after ≡ before ++ c.text
  pub session : next ≡ c.session
  pub read : IsAllRead next.line
