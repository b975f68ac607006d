-- Both ends stay at their addresses where no COMSET to a device's address is issued, and none is set.
use Rattle.std.specs.Prelude.{◌≡◌, ◌++◌, ℕ, All, List}
use Rattle.osdp_msg.specs.declared.command.Command.{Command}
use Rattle.osdp_reader.specs.declared.handler.Answer.{Answer}
use Rattle.osdp_link_laws.specs.Beginning.{MovesFit, Begins}
use Rattle.osdp_link_laws.specs.Link.{Link, Move, RestartController, RestartReader, Retarget, run}
use Rattle.osdp_link_laws.specs.Progress.{SetsNoAddress}
use Rattle.osdp_link_laws.specs.Sessions.{all_submitted}

-- no other address is set, and both ends restart where they are
abbrev pub SetsNoOther : {H : Type 0} → ℕ → ℕ → Move H → Type 0
SetsNoOther reader controller (Retarget address) = address ≡ controller
SetsNoOther reader controller (RestartReader config handler room) = config.address ≡ reader
SetsNoOther reader controller (RestartController config room) = config.address ≡ controller
SetsNoOther reader controller _ = Unit {0}

abbrev pub StayWhereTheyAre : {H : Type 0} → (H → Command → Answer) → (H → Command → H) → Type 0
StayWhereTheyAre {H} answer_of after = (l : Link H) (moves : List (Move H)) → Begins l → MovesFit answer_of after moves l
    → All SetsNoAddress (l.controller.waiting ++ all_submitted answer_of after moves l)
    → All (SetsNoOther l.reader.config.address l.controller.session.config.address) moves
    → let later = run answer_of after moves l in
    (later.reader.config.address ≡ l.reader.config.address)
    × (later.controller.session.config.address ≡ l.controller.session.config.address)
