-- What the laws of accounts stand on: how packets are read, the theory of one link, and its ledger.
use Rattle.std.specs.Prelude.{◌≡◌, ℕ, [], ◌∷◌}
use Rattle.osdp_frame.specs.Items.{packets_in}
use Rattle.osdp_frame.specs.Packet.{IsPacket, Packet}
use Rattle.osdp_frame.specs.Spelling.{spelling}
use Rattle.osdp_msg.specs.declared.command.Command.{Command}
use Rattle.osdp_controller.specs.declared.session.Session.{Session}
use Rattle.osdp_controller_laws.specs.Commands.{TellsEnds}
use Rattle.osdp_reader.specs.declared.handler.Answer.{Answer}
use Rattle.osdp_ledger.specs.OneSession.{OneSessionHolds}
use Rattle.osdp_link_laws.specs.Refusals.{RefusesNoNumberWithoutRestart}
use Rattle.osdp_link_ledger.specs.Answers.{ActsHaveAnswersOfOneHandler}
use Rattle.osdp_link_ledger.specs.Laws.{HoldsByLedger, LinkKeepsLedger}
use Rattle.osdp_link_ledger.specs.Telling.{LedgerTellsMoves}

-- a packet that goes over the line is read as it is, and where nothing comes through nothing is read
pub record ReadsPackets : Type 0 where
  pub one : (p : Packet) → IsPacket p → packets_in (spelling p) ≡ p ∷ []
  pub none : packets_in [] ≡ []

-- a session ends exactly where a report says so
abbrev pub EndsAreTold : Type 0
EndsAreTold = (now : ℕ) (s : Session) → TellsEnds now s

-- each step of a link is one that its ledger allows, what these steps come to is what its moves tell, and one session of them holds
pub record KeepsLedger {H : Type 0} (answer_of : H → Command → Answer) (after : H → Command → H) : Type 0 where
  pub keeps : LinkKeepsLedger answer_of after
  pub holds : HoldsByLedger answer_of after
  pub tells : LedgerTellsMoves answer_of after
  pub acts : ActsHaveAnswersOfOneHandler answer_of after
  pub session : OneSessionHolds

-- all that the laws of accounts stand on. The reader refuses no number where it has not restarted.
pub record OneLink {H : Type 0} (answer_of : H → Command → Answer) (after : H → Command → H) : Type 0 where
  pub reads : ReadsPackets
  pub ledger : KeepsLedger answer_of after
  pub causes : RefusesNoNumberWithoutRestart answer_of after
  pub told : EndsAreTold
