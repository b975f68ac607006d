-- What is still ahead of a link in its session: commands that have no end yet, and events that aren't reported yet.
use Rattle.std.specs.Prelude.{ℕ, ◌+◌, ◌==◌, Bool, true, false, List, [], ◌++◌, length, Option, Some, None, option_to_list}
use Rattle.osdp_frame.specs.Packet.{Packet}
use Rattle.osdp_msg.specs.Events.{event_in}
use Rattle.osdp_msg.specs.declared.command.Command.{Command}
use Rattle.osdp_msg.specs.declared.event.Event.{Event}
use Rattle.osdp_msg.specs.declared.reply.Reply.{Reply}
use Rattle.osdp_controller.specs.Answers.{meaning_of}
use Rattle.osdp_controller.specs.Machine.{Machine}
use Rattle.osdp_controller.specs.declared.exchange.Exchange.{Exchange}
use Rattle.osdp_controller.specs.declared.exchange.Exchange.TheVariants.{Opening, Polling}
use Rattle.osdp_controller.specs.declared.meaning.ReplyMeaning.{ReplyMeaning}
use Rattle.osdp_controller.specs.declared.meaning.ReplyMeaning.TheVariants.{Plain}
use Rattle.osdp_controller.specs.declared.state.State.{State}
use Rattle.osdp_controller.specs.declared.state.State.TheVariants.{Quiet, Waiting, Pausing}
use Rattle.osdp_reader.specs.Queue.{Queue, released}
use Rattle.osdp_link_laws.specs.Link.{Link, outstanding_command}

-- this exchange is of a POLL
abbrev pub is_poll : Exchange → Bool
is_poll Polling = true
is_poll _ = false

-- a POLL is outstanding
abbrev pub is_polling : State → Bool
is_polling (Waiting until sends o) = is_poll o.exchange
is_polling (Pausing until o) = is_poll o.exchange
is_polling _ = false

-- this exchange is of the ID that opens a session
abbrev pub is_opening : Exchange → Bool
is_opening Opening = true
is_opening _ = false

-- a session has begun and nothing has opened it yet: that ID is outstanding, or goes out next
abbrev pub is_unopened : State → Bool
is_unopened (Quiet until) = true
is_unopened (Waiting until sends o) = is_opening o.exchange
is_unopened (Pausing until o) = is_opening o.exchange
is_unopened _ = false

-- the reply that a panel reads in what the device stores
abbrev pub read_as : ReplyMeaning → Option Reply
read_as (Plain answer) = Some answer
read_as _ = None

abbrev pub stored_answer : Option Packet → Option Reply
stored_answer None = None
stored_answer (Some packet) = read_as (meaning_of packet)

-- the event that a reply tells, if any
abbrev pub event_told : Option Reply → List Event
event_told None = []
event_told (Some answer) = option_to_list (event_in answer)

-- The event that a device has offered in its answer to the outstanding POLL: that of the answer that it stores. There is none where no POLL is
-- outstanding, or where the device's last number is not that POLL's.
abbrev pub offered_to : Bool → Bool → Option Packet → List Event
offered_to true true stored = event_told (stored_answer stored)
offered_to _ _ stored = []

-- a device's last number is this one
abbrev pub has_number : ℕ → Option ℕ → Bool
has_number number None = false
has_number number (Some last) = last == number

-- The events that wait to be offered. Where nothing has opened the session yet these are all that wait, since none was offered in it. Else the one that
-- is offered is left out.
abbrev pub unoffered_events : Bool → Queue → List Event
unoffered_events true q = q.events
unoffered_events false q = (released q).events

-- the command that is outstanding, and those that wait
abbrev pub ahead : Machine → List Command
ahead c = option_to_list (outstanding_command c.session.state) ++ c.waiting

module _ {H : Type 0} where
  -- The event that was offered in this session and isn't reported yet, and those that wait to be offered. Where no session goes on, one that was offered
  -- in the last session is left out here, though the device keeps it: the next session offers it again.
  abbrev pub to_report : Link H → List Event
  to_report l =
      let s = l.controller.session in
      offered_to (is_polling s.state) (has_number s.number l.reader.last) l.reader.stored ++ unoffered_events (is_unopened s.state) l.reader.queue

  -- how many there are of both
  abbrev pub count_ahead : Link H → ℕ
  count_ahead l = length (ahead l.controller) + length (to_report l)
