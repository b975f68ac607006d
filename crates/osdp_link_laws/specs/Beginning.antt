-- Where a first session begins, and what both ends make sure of in each move.
use Rattle.std.specs.Prelude.{◌≡◌, ◌≢◌, ◌<◌, ℕ, List, [], ◌∷◌, All, IfSome}
use Rattle.osdp_frame.specs.Packet.{Packet}
use Rattle.osdp_msg.specs.CommandTable.{CommandFits}
use Rattle.osdp_msg.specs.Limits.{AreRoom}
use Rattle.osdp_msg.specs.ReplyTable.{ReplyFits}
use Rattle.osdp_msg.specs.declared.command.Command.{Command}
use Rattle.osdp_msg.specs.declared.command.Command.TheVariants.{Poll}
use Rattle.osdp_controller.specs.declared.state.State.TheVariants.{Quiet}
use Rattle.osdp_controller.specs.Machine.{AreSettings}
use Rattle.osdp_reader.specs.declared.handler.Answer.{Answer}
use Rattle.osdp_reader.specs.State.{ReaderState}
use Rattle.osdp_reader.specs.Table.{hears}
use Rattle.osdp_link_laws.specs.Link.{Delivered, Delivery, Link, Lost, Move, Reopen, Repeated, RestartController, RestartReader, Retarget, SetHandler, Submit, Queue, SetBusy, Tick, ToReader, ToController, Withdraw, WithdrawEvent, LapseEvent, after_move, LoseToReader, LoseToController}

-- a command that may be submitted: any but POLL, its fields in their ranges
pub record MaySubmit (command : Command) : Type 0 where
  pub no_poll : command ≢ Poll
  pub fits : CommandFits command

module _ {H : Type 0} where
  -- a first session has begun, at a device's address, and nothing is on the line
  pub record Begins (l : Link H) : Type 0 where
    pub quiet : (until : ℕ) × (l.controller.session.state ≡ Quiet until)
    pub address : l.controller.session.config.address < 127
    pub waiting : All MaySubmit l.controller.waiting
    pub to_reader : l.to_reader ≡ []
    pub to_controller : l.to_controller ≡ []

  module _ (answer_of : H → Command → Answer) (after : H → Command → H) where
    -- what a reader says anew to the packet in front is of the table of replies
    abbrev pub SaysWhatFits : List Packet → ReaderState H → Type 0
    SaysWhatFits [] r = Unit {0}
    SaysWhatFits (p ∷ rest) r = IfSome (hears answer_of after r p).said ReplyFits

    -- .. where that packet comes through
    abbrev pub SaysWhatFitsIf : Delivery → List Packet → ReaderState H → Type 0
    SaysWhatFitsIf Delivered ps r = SaysWhatFits ps r
    SaysWhatFitsIf Lost ps r = Unit {0}
    SaysWhatFitsIf Repeated ps r = SaysWhatFits ps r

    -- what both ends make sure of: commands that are submitted, and replies that are sent, have their fields in their ranges; and a reader
    -- or a controller is made of settings in their ranges
    abbrev pub MoveFits : Move H → Link H → Type 0
    MoveFits (Submit command) l = CommandFits command
    MoveFits (Queue event) l = Unit {0}
    MoveFits (SetBusy busy) l = Unit {0}
    MoveFits (Tick now) l = Unit {0}
    MoveFits (ToReader how) l = SaysWhatFitsIf how l.to_reader l.reader
    MoveFits (ToController how now) l = Unit {0}
    MoveFits (Reopen now) l = Unit {0}
    MoveFits (SetHandler handler) l = Unit {0}
    MoveFits Withdraw l = Unit {0}
    MoveFits (Retarget address) l = Unit {0}
    MoveFits WithdrawEvent l = Unit {0}
    MoveFits LapseEvent l = Unit {0}
    MoveFits (RestartReader config handler room) l = (config.address < 127) × AreRoom room.messages room.bytes
    MoveFits (RestartController config room) l = AreSettings config room.messages room.bytes
    MoveFits (LoseToReader place) l = Unit {0}
    MoveFits (LoseToController place) l = Unit {0}

    abbrev pub MovesFit : List (Move H) → Link H → Type 0
    MovesFit [] l = Unit {0}
    MovesFit (move ∷ moves) l = MoveFits move l × MovesFit moves (after_move answer_of after move l)
