-- Reports that are kept as their bytes.
use Rattle.std.specs.Prelude.{ℕ, List, Some, None}
use Rattle.osdp_msg.specs.Kept.{command_kept, event_kept, reply_kept}
use Rattle.osdp_controller.specs.declared.kept.Telling.{Telling}
use Rattle.osdp_controller.specs.declared.kept.Telling.TheVariants as telling
use Rattle.osdp_controller.specs.declared.report.Report.{Report}
use Rattle.osdp_controller.specs.declared.report.Report.TheVariants.{Opened, Settled, Moved, Event, PollAnswered, Unread, Lost}

-- the report of a kind, by the bytes of its command and of its reply
abbrev pub told_as : Telling → List ℕ → List ℕ → Report
told_as (telling.Opened id) command reply = Opened id
told_as telling.Settled command reply = Settled (command_kept command) (reply_kept reply)
told_as (telling.Moved answered) command reply = Moved (command_kept command) answered
told_as telling.Event command reply = Event (event_kept reply)
told_as telling.PollAnswered command reply = PollAnswered (reply_kept reply)
told_as (telling.CommandUnread code) command reply = Unread (Some (command_kept command)) code
told_as (telling.PollUnread code) command reply = Unread None code
told_as (telling.CommandLost cause) command reply = Lost cause (Some (command_kept command))
told_as (telling.Lost cause) command reply = Lost cause None
