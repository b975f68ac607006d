-- Whether a reader hears on: until it restarts, and again from number 0 on.
use Rattle.std.specs.Prelude.{◌≡◌, ℕ, All, List, Ok}
use Rattle.osdp_frame.specs.Packet.{Packet}
use Rattle.osdp_msg.specs.declared.command.Command.{Command}
use Rattle.osdp_msg.specs.declared.limits.Room.{Room}
use Rattle.osdp_reader.specs.Table.{command_in, kind_of}
use Rattle.osdp_reader.specs.declared.config.ReaderConfig.{ReaderConfig}
use Rattle.osdp_reader.specs.declared.handler.Answer.{Answer}
use Rattle.osdp_reader.specs.declared.kind.Kind.TheVariants.{Zero}
use Rattle.osdp_link_laws.specs.Beginning.{Begins}
use Rattle.osdp_link_laws.specs.Link.{Link, Move, RestartReader, after_move, reader_gets, run}
use Rattle.osdp_link_laws.specs.Progress.{HearsOn, SetsNoAddress}
use Rattle.osdp_link_laws.specs.Refusals.{KeepsReader}
use Rattle.osdp_link_laws.specs.Sessions.{restarts_after, restarts_in_session}

module _ {H : Type 0} (answer_of : H → Command → Answer) (after : H → Command → H) where
  pub record HearsOnUntilRestart : Type 0 where
    pub kept : (l : Link H) (moves : List (Move H)) → Begins l → All KeepsReader moves
        → HearsOn (restarts_in_session answer_of after moves l 0) (run answer_of after moves l)
    pub restarted : (l : Link H) (config : ReaderConfig) (handler : H) (room : Room) (count : ℕ) → let restart = RestartReader config handler room in
        HearsOn (restarts_after answer_of after restart l count) (after_move answer_of after restart l) → ⊥
    -- a packet with number 0 that is acted on, and that is no COMSET to a device's address
    pub again : (l : Link H) (p : Packet) (count : ℕ) → kind_of l.reader p ≡ Zero → ((command : Command) → command_in p ≡ Ok command → SetsNoAddress command)
        → HearsOn count (reader_gets answer_of after p l)
