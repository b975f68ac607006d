-- What a schedule comes to.
use Rattle.std.specs.Prelude.{List, [], ◌∷◌, ◌++◌, length, Option, Some, None, option_to_list}
use Rattle.osdp_msg.specs.declared.command.Command.{Command}
use Rattle.osdp_msg.specs.declared.command.Command.TheVariants.{Poll}
use Rattle.osdp_msg.specs.declared.event.Event.{Event}
use Rattle.osdp_msg.specs.declared.reply.Reply.{Reply}
use Rattle.osdp_msg.specs.declared.reply.Reply.TheVariants as reply
use Rattle.osdp_controller.specs.declared.report.Report.{Report}
use Rattle.osdp_controller.specs.declared.report.Report.TheVariants as report
use Rattle.osdp_reader.specs.declared.kind.Kind.{Kind}
use Rattle.osdp_reader.specs.declared.kind.Kind.TheVariants as kind
use Rattle.osdp_sim.specs.Kept.{commands_of, events_of}
use Rattle.osdp_sim.specs.declared.account.Account as declared
use Rattle.osdp_sim.specs.declared.account.End.{End}
use Rattle.osdp_sim.specs.declared.account.End.TheVariants as ending
use Rattle.osdp_sim.specs.declared.account.Lengths.{Lengths}

-- the commands that were accepted, those other than POLL that the reader has taken, those settled, each with its answer, and those
-- told unsettled; the events that were accepted and those reported; how the sessions ended; and how long all these lists were when
-- each session began
pub record Account : Type 0 where
  pub issued : List Command
  pub taken : List Command
  pub settled : List (Command × Reply)
  pub unsettled : List Command
  pub queued : List Event
  pub reported : List Event
  pub ends : List End
  pub sessions : List Lengths

-- nothing has happened
abbrev pub empty_account : Account
empty_account = record { issued = []; taken = []; settled = []; unsettled = []; queued = []; reported = []; ends = []; sessions = [] }

abbrev pub lengths_of : Account → Lengths
lengths_of a = record {
  issued = length a.issued;
  taken = length a.taken;
  settled = length a.settled;
  unsettled = length a.unsettled;
  queued = length a.queued;
  reported = length a.reported;
  ends = length a.ends;
}

-- a session begins
abbrev pub with_session : Account → Account
with_session a = record a { sessions = a.sessions ++ lengths_of a ∷ [] }

abbrev pub with_issued : Command → Account → Account
with_issued command a = record a { issued = a.issued ++ command ∷ [] }

abbrev pub with_queued : Event → Account → Account
with_queued event a = record a { queued = a.queued ++ event ∷ [] }

-- a report of the controller: a COMSET that moves the reader is settled by its COM
abbrev pub with_report : Option Report → Account → Account
with_report None a = a
with_report (Some (report.Opened id)) a = a
with_report (Some (report.Settled command answer)) a = record a { settled = a.settled ++ (command, answer) ∷ [] }
with_report (Some (report.Moved command answered)) a = record a {
  settled = a.settled ++ (command, reply.Com answered) ∷ [];
  ends = a.ends ++ ending.Moved ∷ [];
}
with_report (Some (report.Event event)) a = record a { reported = a.reported ++ event ∷ [] }
with_report (Some (report.PollAnswered answer)) a = a
with_report (Some (report.Unread command code)) a = a
with_report (Some (report.Lost cause command)) a = record a {
  unsettled = a.unsettled ++ option_to_list command;
  ends = a.ends ++ ending.Lost cause ∷ [];
}

-- a command with the number that the reader expected
abbrev pub taken_command : Option Command → List Command
taken_command None = []
taken_command (Some Poll) = []
taken_command (Some command) = command ∷ []

abbrev pub taken_by : Kind → Option Command → List Command
taken_by kind.Taken command = taken_command command
taken_by _ command = []

abbrev pub with_taken : List Command → Account → Account
with_taken commands a = record a { taken = a.taken ++ commands }

-- the lists of an account, whatever room they have
abbrev pub lists_of : declared.Account → Account
lists_of a = record {
  issued = commands_of a.issued.items;
  taken = commands_of a.taken.items;
  settled = a.settled.items;
  unsettled = commands_of a.unsettled.items;
  queued = events_of a.queued.items;
  reported = events_of a.reported.items;
  ends = a.ends.items;
  sessions = a.sessions.items;
}
