-- What is left of the events of a device by lines once a moment has come.
use Rattle.std.specs.Prelude.{◌≡◌, ℕ, max, false, List, ◌++◌, length, map}
use Rattle.osdp_device.specs.Ages.{expires}
use Rattle.osdp_device.specs.declared.events.Expired.{Expired}
use Rattle.osdp_device.specs.declared.events.Expired.TheVariants.{Withdrawn, InDoubt}
use Rattle.osdp_line_calls.specs.ReaderAbsence.{lets_go}
use Rattle.osdp_line_calls.specs.ReaderSessions.{Session, does}
use Rattle.osdp_line_calls.specs.declared.reader_call.ReaderCall.TheVariants.{At}
use Rattle.osdp_msg.specs.declared.event.Event.{Event}

abbrev pub event_of : Expired → Event
event_of (Withdrawn event) = event
event_of (InDoubt event) = event

-- the events that leave by a moment, each as it is told
abbrev pub leaving : ℕ → Session → List Expired
leaving later s = (lets_go (max s.now later) s.absence.expire s.reader s.ages).expired

-- once a moment has come no event is too old, and those that left are the oldest that waited: the others wait, in their order
pub record OldEventsLeave (later : ℕ) (s : Session) : Type 0 where
  pub none : let next = (does (At later) s).session in expires next.now next.absence.expire (length next.reader.queue.events) next.ages ≡ false
  pub oldest : s.reader.queue.events ≡ map event_of (leaving later s) ++ (does (At later) s).session.reader.queue.events

abbrev pub OldEventsAlwaysLeave : Type 0
OldEventsAlwaysLeave = (later : ℕ) (s : Session) → OldEventsLeave later s
