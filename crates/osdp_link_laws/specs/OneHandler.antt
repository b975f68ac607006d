-- A device that never changes, and the answers of its settings and of its one handler.
use Rattle.std.specs.Prelude.{◌≡◌, List, [], ◌∷◌}
use Rattle.osdp_msg.specs.declared.command.Command.{Command}
use Rattle.osdp_msg.specs.declared.reply.Reply.{Reply}
use Rattle.osdp_reader.specs.declared.config.ReaderConfig.{ReaderConfig}
use Rattle.osdp_reader.specs.declared.handler.Answer.{Answer}
use Rattle.osdp_reader.specs.Table.{answer_to}
use Rattle.osdp_link_laws.specs.Link.{Link, Move, RestartReader, SetHandler, after_move}

-- the reader doesn't restart, and its handler isn't set
abbrev pub KeepsDevice : {H : Type 0} → Move H → Type 0
KeepsDevice (SetHandler handler) = ⊥
KeepsDevice (RestartReader config handler room) = ⊥
KeepsDevice _ = Unit {0}

-- this device, at whatever address, says the same to ID and to CAP
abbrev pub IsSameModel : ReaderConfig → ReaderConfig → Type 0
IsSameModel config now = (config.id ≡ now.id) × (config.caps ≡ now.caps)

-- .. or it is the same model, with the handler that it has already: one of another model is another device
abbrev pub KeepsHandler : {H : Type 0} → Move H → Link H → Type 0
KeepsHandler (SetHandler handler) l = handler ≡ l.reader.handler
KeepsHandler (RestartReader config handler room) l = (handler ≡ l.reader.handler) × IsSameModel config l.reader.config
KeepsHandler _ l = Unit {0}

module _ {H : Type 0} (answer_of : H → Command → Answer) (after : H → Command → H) where
  -- commands, each with the answer to it after those before it: the settings' to ID, CAP and COMSET, and the handler's to all others
  abbrev pub with_answers : ReaderConfig → H → List Command → List (Command × Reply)
  with_answers config handler [] = []
  with_answers config handler (command ∷ commands) =
      let a = answer_to answer_of after config handler command in
      (command, a.reply) ∷ with_answers config a.handler commands

  abbrev pub KeepHandler : List (Move H) → Link H → Type 0
  KeepHandler [] l = Unit {0}
  KeepHandler (move ∷ moves) l = KeepsHandler move l × KeepHandler moves (after_move answer_of after move l)
