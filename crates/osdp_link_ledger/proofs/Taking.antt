-- What the device acts on is what it takes: with number 0 comes the ID that opens a session, and nothing else. Each command that it takes has an answer.
use Rattle.osdp_link_ledger.proofs.Common.{◌≡◌, ◌++◌, List, [], ◌∷◌, map, Option, Result, Ok, Err, refl, sym, subst, ap, ◌∙◌, map-append, option_to_list, Packet, Command, Poll, MsgFault, Reply, event_for, released, ReaderState, begun, command_in, event_or_answer, kind_of, outcome, taken, Answer, Kind, MovesFit, Delivered, Delivery, Link, Lost, Move, Repeated, ToReader, after_move, ReadEachOther, command_taken, taken_as, taken_by, taken_by_front, taken_in, Assumed, Stands, StandsThen, assumed, begins_so, standing_so, MovesTo, Reads, ReadsFront, Restarted, Stage, LedgerTellsMoves, asked, EachTakenIsAnswered, acted_by, acted_in, all_acted, done_by_front}
use Rattle.std.specs.Prelude.{zip}
use Rattle.osdp_reader.specs.declared.kind.Kind.TheVariants as kind
use Rattle.osdp_link_ledger.proofs.Tallies.{Tally, all_given, come_to, given_as, given_by_front, given_in}

-- a command that is taken, with its answer
abbrev answered_as : Kind → Option Command → Option Reply → List (Command × Reply)
answered_as k c said = zip (taken_as k c) (option_to_list said)

command_answered : (c : Command) (a : Reply) → map asked (zip (command_taken c) (a ∷ [])) ≡ command_taken c
command_answered Poll a = refl
command_answered c a = refl

module _ {H : Type 0} (answer_of : H → Command → Answer) (after : H → Command → H) where
  -- ---- what is taken has an answer

  read_answered : (p : Packet) (r : ReaderState H) (read : Result Command MsgFault)
      → (let o = taken answer_of after read r p in map asked (answered_as kind.Taken o.command o.said) ≡ taken_as kind.Taken o.command)
  read_answered p r (Err fault) = refl
  read_answered p r (Ok c) = command_answered c (event_or_answer answer_of after (event_for c (released r.queue).events) r.config r.handler c).reply

  kind_answered : (k : Kind) (p : Packet) (r : ReaderState H)
      → (let o = outcome answer_of after k r p in map asked (answered_as k o.command o.said) ≡ taken_as k o.command)
  kind_answered kind.Taken p r = read_answered p r (command_in p)
  kind_answered _ p r = refl

  pub packet_answered : (p : Packet) (r : ReaderState H) → map asked (acted_by answer_of after p r) ≡ taken_by answer_of after p r
  packet_answered p r = kind_answered (kind_of r p) p r

  front_answered : (how : Delivery) (ps : List Packet) (r : ReaderState H)
      → map asked (done_by_front answer_of after (acted_by answer_of after) how ps r) ≡ taken_by_front answer_of after how ps r
  front_answered Delivered [] r = refl
  front_answered Lost [] r = refl
  front_answered Repeated [] r = refl
  front_answered Delivered (p ∷ ps) r = packet_answered p r
  front_answered Lost (p ∷ ps) r = refl
  front_answered Repeated (p ∷ ps) r = packet_answered p r

  move_answered : (move : Move H) (l : Link H) → map asked (acted_in answer_of after move l) ≡ taken_in answer_of after move l
  move_answered (ToReader how) l = front_answered how l.to_reader l.reader
  move_answered _ l = refl

  pub each_taken : EachTakenIsAnswered answer_of after
  each_taken [] l = refl
  each_taken (move ∷ moves) l =
      let next = after_move answer_of after move l in
      map-append asked (acted_in answer_of after move l) (all_acted answer_of after moves next) ∙ (λ i. move_answered move l i ++ each_taken moves next i)

  -- ---- what is acted on is taken

  kind_so : (k : Kind) (p : Packet) (r : ReaderState H) (since : Restarted) (at : Stage) (new : Restarted) (to : Stage) → Reads answer_of after k p r since at new to
      → (let o = outcome answer_of after k r p in given_as k o.command o.said ≡ answered_as k o.command o.said)
  kind_so kind.Zero p r since at new to reads =
      subst (λ read. let o = begun answer_of after read r p in given_as kind.Zero o.command o.said ≡ []) (sym reads.0) refl
  kind_so _ p r since at new to reads = refl

  front_so : (how : Delivery) (ps : List Packet) (r : ReaderState H) (since : Restarted) (at : Stage) (new : Restarted) (to : Stage)
      → ReadsFront answer_of after ps how r since at new to
      → given_by_front answer_of after how ps r ≡ done_by_front answer_of after (acted_by answer_of after) how ps r
  front_so Delivered [] r since at new to reads = refl
  front_so Lost [] r since at new to reads = refl
  front_so Repeated [] r since at new to reads = refl
  front_so Delivered (p ∷ ps) r since at new to reads = kind_so (kind_of r p) p r since at new to reads
  front_so Lost (p ∷ ps) r since at new to reads = refl
  front_so Repeated (p ∷ ps) r since at new to reads = kind_so (kind_of r p) p r since at new to reads

  move_so : (move : Move H) (l : Link H) (s : Stands answer_of after l)
      → StandsThen answer_of after (MovesTo answer_of after move l s.goes.holds.0 s.goes.holds.1) (after_move answer_of after move l)
      → given_in answer_of after move l ≡ acted_in answer_of after move l
  move_so (ToReader how) l s n = front_so how l.to_reader l.reader s.goes.holds.0 s.goes.holds.1 n.0.goes.holds.0 n.0.goes.holds.1 n.1
  move_so _ l s n = refl

  moves_so : Assumed answer_of after → (moves : List (Move H)) (l : Link H) → MovesFit answer_of after moves l → Stands answer_of after l
      → all_given answer_of after moves l ≡ all_acted answer_of after moves l
  moves_so given [] l fits s = refl
  moves_so given (move ∷ moves) l fits s =
      let n = standing_so answer_of after given move l fits.0 s in
      λ i. move_so move l s n i ++ moves_so given moves (after_move answer_of after move l) fits.1 n.0 i

  pub tells_moves : ReadEachOther answer_of after → LedgerTellsMoves answer_of after
  tells_moves peers l moves b fits =
      let come = come_to answer_of after moves l in
      record {
        orders = ap (λ (y : Tally). y.orders) come;
        acted = ap (λ (y : Tally). y.acted) come ∙ moves_so (assumed answer_of after peers) moves l fits (begins_so answer_of after l b).0;
        cards = ap (λ (y : Tally). y.cards) come;
        told = ap (λ (y : Tally). y.told) come;
      }
