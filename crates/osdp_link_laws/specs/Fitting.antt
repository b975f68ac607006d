-- When a move fits: where what it submits, makes anew or has said is in its ranges.
use Rattle.std.specs.Prelude.{◌≡◌, ◌≢◌, ◌<◌, ◌↔◌, IfSome, List, ◌∷◌}
use Rattle.osdp_frame.specs.Packet.{Packet}
use Rattle.osdp_msg.specs.CommandTable.{CommandFits}
use Rattle.osdp_msg.specs.Limits.{AreRoom}
use Rattle.osdp_msg.specs.ReplyTable.{ReplyFits}
use Rattle.osdp_msg.specs.declared.command.Command.{Command}
use Rattle.osdp_msg.specs.declared.limits.Room.{Room}
use Rattle.osdp_controller.specs.Machine.{AreSettings}
use Rattle.osdp_controller.specs.declared.config.ControllerConfig.{ControllerConfig}
use Rattle.osdp_reader.specs.Table.{hears}
use Rattle.osdp_reader.specs.declared.config.ReaderConfig.{ReaderConfig}
use Rattle.osdp_reader.specs.declared.handler.Answer.{Answer}
use Rattle.osdp_link_laws.specs.Asked.{AtEach}
use Rattle.osdp_link_laws.specs.Beginning.{MoveFits, MovesFit}
use Rattle.osdp_link_laws.specs.Link.{Delivery, Link, Lost, Move, RestartController, RestartReader, Submit, ToReader}

module _ {H : Type 0} (answer_of : H → Command → Answer) (after : H → Command → H) where
  pub record IsInItsRanges (move : Move H) (l : Link H) : Type 0 where
    pub submitted : (command : Command) → move ≡ Submit command → CommandFits command
    -- to the packet in front, where that comes through
    pub said : (how : Delivery) (p : Packet) (rest : List Packet) → move ≡ ToReader how → how ≢ Lost → l.to_reader ≡ p ∷ rest
        → IfSome (hears answer_of after l.reader p).said ReplyFits
    pub reader : (config : ReaderConfig) (handler : H) (room : Room) → move ≡ RestartReader config handler room
        → (config.address < 127) × AreRoom room.messages room.bytes
    pub controller : (config : ControllerConfig) (room : Room) → move ≡ RestartController config room → AreSettings config room.messages room.bytes

  pub record FittingIsExact : Type 0 where
    pub one : (move : Move H) (l : Link H) → (MoveFits answer_of after move l) ↔ (IsInItsRanges move l)
    pub all : (moves : List (Move H)) (l : Link H) → (MovesFit answer_of after moves l) ↔ (AtEach answer_of after (MoveFits answer_of after) moves l)
