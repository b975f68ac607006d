-- Each session ends once at most, and the next begins only then.
use Rattle.std.specs.Prelude.{◌≡◌, ℕ, ◌+◌, Bool, true, false, List, [], ◌∷◌, not, Some}
use Rattle.osdp_msg.specs.declared.command.Command.{Command}
use Rattle.osdp_controller.specs.States.{is_closed}
use Rattle.osdp_controller.specs.declared.report.Report.{Report}
use Rattle.osdp_controller_laws.specs.Commands.{tells_end}
use Rattle.osdp_reader.specs.declared.handler.Answer.{Answer}
use Rattle.osdp_link_laws.specs.Beginning.{Begins}
use Rattle.osdp_link_laws.specs.Link.{Link, Move, RestartController, after_move, run}
use Rattle.osdp_link_laws.specs.Reports.{reports}
use Rattle.osdp_link_laws.specs.Sessions.{all_begun}

abbrev pub count : Bool → ℕ
count true = 1
count false = 0

-- how many of these reports tell that a session has ended
abbrev pub ends_in : List Report → ℕ
ends_in [] = 0
ends_in (r ∷ rs) = count (tells_end (Some r)) + ends_in rs

-- a session that lasts
abbrev pub lasting : Bool → ℕ
lasting true = 0
lasting false = 1

-- a controller that restarts while its session lasts ends it, and nobody is told
abbrev pub untold_by : {H : Type 0} → Move H → Link H → ℕ
untold_by (RestartController config room) l = count (not (is_closed l.controller.session.state))
untold_by _ l = 0

module _ {H : Type 0} (answer_of : H → Command → Answer) (after : H → Command → H) where
  -- how many sessions have ended so
  abbrev pub untold : List (Move H) → Link H → ℕ
  untold [] l = 0
  untold (move ∷ moves) l = untold_by move l + untold moves (after_move answer_of after move l)

  -- as many ends are told, but those of sessions that the controller ended by restarting, as sessions have begun, but for the last one while
  -- it lasts
  abbrev pub EndOnce : Type 0
  EndOnce = (l : Link H) (moves : List (Move H)) → Begins l
      → let last = run answer_of after moves l in
      ends_in (reports answer_of after moves l) + untold moves l + lasting (is_closed last.controller.session.state) ≡ all_begun answer_of after moves l + 1
