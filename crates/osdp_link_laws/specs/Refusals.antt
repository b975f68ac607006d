-- No session in which the reader hasn't restarted ends by a refused number.
use Rattle.std.specs.Prelude.{◌≡◌, All, IfSome, List}
use Rattle.osdp_msg.specs.declared.command.Command.{Command}
use Rattle.osdp_controller.specs.declared.report.LostCause.{LostCause}
use Rattle.osdp_controller.specs.declared.report.LostCause.TheVariants.{NoReply, TooBusy, NumberRefused}
use Rattle.osdp_controller.specs.declared.report.Report.{Report}
use Rattle.osdp_controller.specs.declared.report.Report.TheVariants as report
use Rattle.osdp_reader.specs.declared.handler.Answer.{Answer}
use Rattle.osdp_link_laws.specs.Beginning.{MovesFit, Begins}
use Rattle.osdp_link_laws.specs.Link.{Link, Move, RestartReader, run}
use Rattle.osdp_link_laws.specs.Peers.{IsPlainlySaid}
use Rattle.osdp_link_laws.specs.Reports.{reports, told_by}
use Rattle.osdp_link_laws.specs.Sessions.{restarts_in_session}

-- the reader doesn't restart
abbrev pub KeepsReader : {H : Type 0} → Move H → Type 0
KeepsReader (RestartReader config handler room) = ⊥
KeepsReader _ = Unit {0}

abbrev pub IsOtherCause : LostCause → Type 0
IsOtherCause NumberRefused = ⊥
IsOtherCause NoReply = Unit {0}
IsOtherCause TooBusy = Unit {0}

abbrev pub IsNoRefusal : Report → Type 0
IsNoRefusal (report.Lost cause command) = IsOtherCause cause
IsNoRefusal _ = Unit {0}

module _ {H : Type 0} (answer_of : H → Command → Answer) (after : H → Command → H) where
  -- in a session in which the reader hasn't restarted, whatever is on its way to the controller says BUSY, or a reply that settles: no number is
  -- refused
  abbrev pub SaysAllPlainly : Type 0
  SaysAllPlainly = (l : Link H) (moves : List (Move H)) → Begins l → MovesFit answer_of after moves l
      → let later = run answer_of after moves l in
      restarts_in_session answer_of after moves l 0 ≡ 0 → All IsPlainlySaid later.to_controller

  -- .. so no such session ends because the reader refused a number
  abbrev pub RefusesNoNumber : Type 0
  RefusesNoNumber = (l : Link H) (moves : List (Move H)) (move : Move H) → Begins l → MovesFit answer_of after moves l
      → let later = run answer_of after moves l in
      restarts_in_session answer_of after moves l 0 ≡ 0 → IfSome (told_by move later) IsNoRefusal

  -- .. and none does where the reader never restarts
  abbrev pub RefusesNoNumberWithoutRestart : Type 0
  RefusesNoNumberWithoutRestart = (l : Link H) (moves : List (Move H)) → Begins l → MovesFit answer_of after moves l → All KeepsReader moves
      → All IsNoRefusal (reports answer_of after moves l)
