-- A report as a struct of plain fields.
use Rattle.std.specs.Prelude.{ℕ, Bool, if◌then◌else◌, Option, None, Some, is_some, unwrap_or}
use Rattle.osdp_controller.specs.declared.report.LostCause.{LostCause}
use Rattle.osdp_controller.specs.declared.report.LostCause.TheVariants.{NoReply, TooBusy, NumberRefused}
use Rattle.osdp_controller.specs.declared.report.Report.{Report}
use Rattle.osdp_controller.specs.declared.report.Report.TheVariants.{Opened, Settled, Moved, Event, PollAnswered, Unread, Lost}
use Rattle.osdp_msg.specs.declared.command.Command.{Command}
use Rattle.osdp_msg.specs.declared.reply.Reply.{Reply}
use Rattle.osdp_msg.specs.declared.reply.Reply.TheVariants.{PdId, Com}
use Rattle.osdp_msg.specs.Events.{event_reply}
use Rattle.osdp_panel.specs.declared.report.PanelReport.{PanelReport}
use Rattle.osdp_panel.specs.declared.report.What.{What}
use Rattle.osdp_panel.specs.declared.report.What.TheVariants.{Told, Expired}
use Rattle.osdp_c_values.specs.declared.report.ReportStruct.{ReportStruct}
use Rattle.osdp_c_values.specs.Structs.{command_struct, flag, reply_struct}

abbrev pub cause_number : LostCause → ℕ
cause_number NoReply = 1
cause_number TooBusy = 2
cause_number NumberRefused = 3

-- what happened: the kind, what goes with it, the command and the reply, where there is one
abbrev pub tells : ℕ → ℕ → Option Command → Option Reply → ReportStruct → ReportStruct
tells kind detail command reply r =
    record r { kind = kind; detail = detail; command = command_struct command r.command; reply = reply_struct reply r.reply }

abbrev pub report_of : Report → ReportStruct → ReportStruct
report_of (Opened id) r = tells 1 0 None (Some (PdId id)) r
report_of (Settled command reply) r = tells 2 0 (Some command) (Some reply) r
report_of (Moved command answered) r = tells 3 0 (Some command) (Some (Com answered)) r
report_of (Event event) r = tells 4 0 None (Some (event_reply event)) r
report_of (PollAnswered reply) r = tells 5 0 None (Some reply) r
report_of (Unread command code) r = tells 6 code command None r
report_of (Lost cause command) r = tells 7 (cause_number cause) command None r

abbrev pub what_of : What → ReportStruct → ReportStruct
what_of (Told report) r = report_of report r
what_of (Expired command) r = tells 8 0 (Some command) None r

-- the detail of an event that may have been reported before; of one that is new it is 0
abbrev pub maybe_again : ℕ
maybe_again = 1

abbrev pub marked : Bool → ReportStruct → ReportStruct
marked is_again r = if is_again then record r { detail = maybe_again } else r

-- the entry that it is about; the number of its order and whether it is about one; since when an event may have been offered; and whether an order was withheld
abbrev pub about : PanelReport → ReportStruct → ReportStruct
about told r = record r {
  entry = told.entry;
  number = unwrap_or told.number 0;
  since = unwrap_or told.since 0;
  numbered = flag (is_some told.number);
  too_late = flag told.too_late;
}

-- what is to be told, or that nothing is
abbrev pub report_struct : Option PanelReport → ReportStruct → ReportStruct
report_struct None r = tells 0 0 None None (record r { entry = 0; number = 0; since = 0; numbered = 0; too_late = 0 })
report_struct (Some told) r = marked told.maybe_again (what_of told.what (about told r))
