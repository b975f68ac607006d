-- Events that may have been reported before: what a bus remembers of those that it told.
use Rattle.std.specs.Prelude.{ℕ, zero, suc, Bool, true, false, not, ◌&&◌, List, [], ◌∷◌}
use Rattle.std.specs.Str.{bytes_eq}
use Rattle.osdp_msg.specs.Events.{event_reply}
use Rattle.osdp_msg.specs.ReplyTable.{reply_code, reply_data}
use Rattle.osdp_msg.specs.declared.event.Event.{Event}
use Rattle.osdp_controller.specs.declared.report.Report.{Report}
use Rattle.osdp_controller.specs.declared.report.Report.TheVariants as report

-- the bytes of an event: the code and the data of the reply that tells it
abbrev pub event_bytes : Event → List ℕ
event_bytes e = reply_code (event_reply e) ∷ reply_data (event_reply e)

-- of an entry: the bytes of the event that was reported last, and whether it was one of the session that opened last. No bytes: none was reported
pub record Remembered : Type 0 where
  pub bytes : List ℕ
  pub in_session : Bool

abbrev pub nothing_yet : Remembered
nothing_yet = record { bytes = []; in_session = false }

-- an event may be one that was reported before exactly where it is the first of its session, and equal in bytes to the one that was reported last
abbrev pub may_be_again : Report → Remembered → Bool
may_be_again (report.Event e) m = not m.in_session && bytes_eq (event_bytes e) m.bytes
may_be_again _ m = false

-- what is remembered once a report is taken: a session that opens has told no event yet
abbrev pub remembers : Report → Remembered → Remembered
remembers (report.Opened id) m = record m { in_session = false }
remembers (report.Event e) m = record { bytes = event_bytes e; in_session = true }
remembers _ m = m

-- what is remembered of an entry, by the list of what is remembered of each; one that isn't there has told nothing yet
abbrev pub memory_at : ℕ → List Remembered → Remembered
memory_at k [] = nothing_yet
memory_at zero (m ∷ ms) = m
memory_at (suc k) (m ∷ ms) = memory_at k ms

-- a report of an entry is remembered at its place
abbrev pub remembers_at : ℕ → Report → List Remembered → List Remembered
remembers_at zero r [] = remembers r nothing_yet ∷ []
remembers_at zero r (m ∷ ms) = remembers r m ∷ ms
remembers_at (suc k) r [] = nothing_yet ∷ remembers_at k r []
remembers_at (suc k) r (m ∷ ms) = m ∷ remembers_at k r ms
