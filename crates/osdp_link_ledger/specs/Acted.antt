-- What a device acts on, with its answers.
use Rattle.std.specs.Prelude.{◌≡◌, List, [], ◌∷◌, ◌++◌, map, option_to_list, zip}
use Rattle.osdp_frame.specs.Packet.{Packet}
use Rattle.osdp_msg.specs.declared.command.Command.{Command}
use Rattle.osdp_msg.specs.declared.reply.Reply.{Reply}
use Rattle.osdp_reader.specs.State.{ReaderState}
use Rattle.osdp_reader.specs.Table.{hears}
use Rattle.osdp_reader.specs.declared.handler.Answer.{Answer}
use Rattle.osdp_link_laws.specs.Link.{Delivered, Delivery, Link, Move, Repeated, ToReader, after_move}
use Rattle.osdp_link_laws.specs.Reports.{all_taken, taken_by}

module _ {H : Type 0} (answer_of : H → Command → Answer) (after : H → Command → H) where
  -- what a reader does by a packet, as a list: by the packet in front, where that comes through, in a move, and in a list of moves
  module _ {A : Type 0} (does : Packet → ReaderState H → List A) where
    abbrev pub done_by_front : Delivery → List Packet → ReaderState H → List A
    done_by_front Delivered (p ∷ rest) r = does p r
    done_by_front Repeated (p ∷ rest) r = does p r
    done_by_front _ _ r = []

    abbrev pub done_in : Move H → Link H → List A
    done_in (ToReader how) l = done_by_front how l.to_reader l.reader
    done_in _ l = []

    abbrev pub all_done : List (Move H) → Link H → List A
    all_done [] l = []
    all_done (move ∷ moves) l = done_in move l ++ all_done moves (after_move answer_of after move l)

  -- the command that a reader takes by a packet, with the answer to it
  abbrev pub acted_by : Packet → ReaderState H → List (Command × Reply)
  acted_by p r = zip (taken_by answer_of after p r) (option_to_list (hears answer_of after r p).said)

  -- .. in a move, and all of them in a list of moves
  abbrev pub acted_in : Move H → Link H → List (Command × Reply)
  acted_in move l = done_in acted_by move l

  abbrev pub all_acted : List (Move H) → Link H → List (Command × Reply)
  all_acted moves l = all_done acted_by moves l

  -- each command that is taken has an answer, whatever goes over the line
  abbrev pub EachTakenIsAnswered : Type 0
  EachTakenIsAnswered = (moves : List (Move H)) (l : Link H) → map (λ (d : Command × Reply). d.0) (all_acted moves l) ≡ all_taken answer_of after moves l
