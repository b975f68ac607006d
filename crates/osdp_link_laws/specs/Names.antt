-- What one link says: all that is on the line names one device, and a COMSET to a device's address is only ever told moved.
use Rattle.std.specs.Prelude.{◌≡◌, ◌<◌, ℕ, true, false, All, List, Option, Some, None}
use Rattle.osdp_frame.specs.Packet.{Packet}
use Rattle.osdp_msg.specs.declared.command.Command.{Command}
use Rattle.osdp_msg.specs.declared.command_fields.Communication.{Communication}
use Rattle.osdp_controller.specs.Hearing.{comset_of}
use Rattle.osdp_controller.specs.declared.report.Report.{Report}
use Rattle.osdp_controller.specs.declared.report.Report.TheVariants as report
use Rattle.osdp_reader.specs.declared.handler.Answer.{Answer}
use Rattle.osdp_link_laws.specs.Beginning.{MovesFit, Begins}
use Rattle.osdp_link_laws.specs.Link.{Link, Move, run}
use Rattle.osdp_link_laws.specs.Reports.{reports}

-- ---- on the line

abbrev pub IsCommandTo : ℕ → Packet → Type 0
IsCommandTo device p = (p.reply ≡ false) × (p.address ≡ device)

abbrev pub IsReplyFrom : ℕ → Packet → Type 0
IsReplyFrom device p = (p.reply ≡ true) × (p.address ≡ device)

-- all that is on the line names one device: commands go one way, and replies the other
pub record NamesOne (device : ℕ) (asked answered : List Packet) : Type 0 where
  pub below : device < 127
  pub commands : All (IsCommandTo device) asked
  pub replies : All (IsReplyFrom device) answered

-- ---- what is told of a COMSET

-- a COMSET to a device's address is only ever told moved: it isn't settled by another reply, and no reply is unread
abbrev pub IsNoDevice : Option Communication → Type 0
IsNoDevice None = Unit {0}
IsNoDevice (Some asked) = 126 < asked.address

abbrev pub IsToldAsAsked : Report → Type 0
IsToldAsAsked (report.Settled command answer) = IsNoDevice (comset_of command)
IsToldAsAsked (report.Unread command code) = ⊥
IsToldAsAsked _ = Unit {0}

module _ {H : Type 0} (answer_of : H → Command → Answer) (after : H → Command → H) where
  abbrev pub NameOneDevice : Type 0
  NameOneDevice = (l : Link H) (moves : List (Move H)) → Begins l → MovesFit answer_of after moves l
      → let last = run answer_of after moves l in
      (device : ℕ) × NamesOne device last.to_reader last.to_controller

  abbrev pub TellAsAsked : Type 0
  TellAsAsked = (l : Link H) (moves : List (Move H)) → Begins l → MovesFit answer_of after moves l → All IsToldAsAsked (reports answer_of after moves l)
