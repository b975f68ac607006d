-- What a site keeps of an entry, and what it makes of what the program wants and what the panel reports.
use Rattle.std.specs.Prelude.{ℕ, ◌+◌, ◌-◌, ◌^◌, Bool, true, false, ◌&&◌, nat_le, nat_lt, min, if◌then◌else◌, List, [], ◌∷◌, ◌++◌, length, drop, remove, Option, Some, None, is_none, Result, Ok, Err}
use Rattle.osdp_msg.specs.declared.command.Command.{Command}
use Rattle.osdp_controller.specs.declared.report.Report.{Report}
use Rattle.osdp_controller.specs.declared.report.Report.TheVariants as report
use Rattle.osdp_controller.specs.Machine.{command_size}
use Rattle.osdp_site.specs.declared.fault.SiteFault.{SiteFault}
use Rattle.osdp_site.specs.declared.fault.SiteFault.TheVariants.{Full, TooLong}
use Rattle.osdp_site.specs.declared.place.Presence.{Presence}
use Rattle.osdp_site.specs.declared.place.Presence.TheVariants.{Online, Offline}
use Rattle.osdp_site.specs.declared.subject.Subject.{Subject}
use Rattle.osdp_site.specs.States.{first_about, subject_of}

-- of an entry: how many states it has room for; how many bytes its panel has room for; the commands that say the states, in the order in which they were wanted;
-- how many of these, from the first on, were submitted since the session opened; whether it is online; and the moment from which on its next session is due,
-- where none has begun
pub record PlaceState : Type 0 where
  pub room : ℕ
  pub bytes : ℕ
  pub wanted : List Command
  pub done : ℕ
  pub presence : Presence
  pub begins : Option ℕ

-- at first it is offline, and its session is due
abbrev pub new_place : ℕ → ℕ → ℕ → PlaceState
new_place room bytes now = record { room = room; bytes = bytes; wanted = []; done = 0; presence = Offline now; begins = Some now }

-- what is still to be submitted
abbrev pub due_of : PlaceState → List Command
due_of p = drop p.done p.wanted

abbrev pub is_online : Presence → Bool
is_online (Online since) = true
is_online (Offline since) = false

-- the device is online, and nothing is left to be submitted
abbrev pub is_refreshed : PlaceState → Bool
is_refreshed p = is_online p.presence && nat_le (length p.wanted) p.done

-- a session is due
abbrev pub is_reached : ℕ → Option ℕ → Bool
is_reached now None = false
is_reached now (Some begins) = nat_le begins now

abbrev pub is_due : ℕ → PlaceState → Bool
is_due now p = is_reached now p.begins

-- the states without one, and how many of them are submitted
abbrev pub without : Option ℕ → List Command → List Command
without None commands = commands
without (Some i) commands = remove commands i

abbrev pub done_without : Option ℕ → ℕ → ℕ
done_without None done = done
done_without (Some i) done = if nat_lt i done then done - 1 else done

-- a state is wanted in place of the one of the same that was wanted before, where there is one
abbrev pub wants_over : Option ℕ → Command → PlaceState → PlaceState
wants_over earlier c p = record p { wanted = without earlier p.wanted ++ c ∷ []; done = done_without earlier p.done }

-- where there is none, room is needed
abbrev pub room_refusal : Option ℕ → PlaceState → Option SiteFault
room_refusal earlier p = if is_none earlier && nat_le p.room (length p.wanted) then Some Full else None

-- a command with more bytes than the panel has room for would never go out
abbrev pub is_too_long : Command → PlaceState → Bool
is_too_long c p = nat_lt p.bytes (command_size c)

abbrev pub wants_refusal_of : Result Subject SiteFault → Command → PlaceState → Option SiteFault
wants_refusal_of (Err fault) c p = Some fault
wants_refusal_of (Ok subject) c p = if is_too_long c p then Some TooLong else room_refusal (first_about 0 subject p.wanted) p

abbrev pub wants_refusal : Command → PlaceState → Option SiteFault
wants_refusal c p = wants_refusal_of (subject_of c) c p

abbrev pub after_wants_of : Result Subject SiteFault → Command → PlaceState → PlaceState
after_wants_of (Err fault) c p = p
after_wants_of (Ok subject) c p = wants_over (first_about 0 subject p.wanted) c p

abbrev pub after_wants : Command → PlaceState → PlaceState
after_wants c p = after_wants_of (subject_of c) c p

-- a call is refused, and changes nothing, or is done
abbrev pub unless_refused : Option SiteFault → Result (Unit {0}) SiteFault
unless_refused (Some fault) = Err fault
unless_refused None = Ok tt

abbrev pub changed_unless : {S : Type 0} → Option SiteFault → S → S → S
changed_unless (Some fault) old new = old
changed_unless None old new = new

-- it is online, or offline, from then on where it wasn't before
abbrev pub goes_online : ℕ → Presence → Presence
goes_online now (Online since) = Online since
goes_online now (Offline since) = Online now

abbrev pub goes_offline : ℕ → Presence → Presence
goes_offline now (Online since) = Offline now
goes_offline now (Offline since) = Offline since

-- a session has opened: all that is wanted is to be submitted
abbrev pub opens : ℕ → PlaceState → PlaceState
opens now p = record p { done = 0; presence = goes_online now p.presence }

-- a moment after a pause; the last that there is where it would lie after that
abbrev pub after_pause : ℕ → ℕ → ℕ
after_pause pause now = min (now + pause) (2 ^ 64 - 1)

-- a session has ended: the next is due after the pause
abbrev pub closes : ℕ → ℕ → PlaceState → PlaceState
closes pause now p = record p { presence = goes_offline now p.presence; begins = Some (after_pause pause now) }

-- what a report changes
abbrev pub heeds : ℕ → ℕ → Report → PlaceState → PlaceState
heeds pause now (report.Opened id) p = opens now p
heeds pause now (report.Moved command answered) p = closes pause now p
heeds pause now (report.Lost cause command) p = closes pause now p
heeds pause now (report.Settled command reply) p = p
heeds pause now (report.Event event) p = p
heeds pause now (report.PollAnswered reply) p = p
heeds pause now (report.Unread command code) p = p

-- what is told of a change
abbrev pub change_of : Presence → Presence → Option Presence
change_of (Offline before) (Online since) = Some (Online since)
change_of (Online before) (Offline since) = Some (Offline since)
change_of (Offline before) (Offline since) = None
change_of (Online before) (Online since) = None
