-- What is stored is a reply from the reader's own address, or from 127.
use Rattle.osdp_reader_laws.proofs.Common.{◌≡◌, ◌⊎◌, ℕ, Option, Some, Result, Ok, Err, refl, rules, Packet, Command, MsgFault, Answer, Kind, Zero, Taken, event_for, offering, released, unoffered, reply_packet, ReaderState, answer_to, begun, command_in, event_or_answer, kind_of, moved, new_address, outcome, taken}
use Rattle.osdp_reader_laws.specs.Storing.{StoresItsOwn}
use Rattle.osdp_reader_laws.proofs.Outcomes.{by_move}

module _ {H : Type 0} where
  -- a packet that is acted on is to this reader, or to all
  abbrev IsHere : ReaderState H → Packet → Type 0
  IsHere r p = (p.address ≡ r.config.address) ⊎ (p.address ≡ 127)

  taken_here : (r : ReaderState H) (p : Packet) → kind_of r p ≡ Taken → IsHere r p
  taken_here r p is = search rules

  moved_own : (o : Option ℕ) (r : ReaderState H) → StoresItsOwn r → StoresItsOwn (moved o r)
  moved_own o r own = by_move StoresItsOwn o r own (λ address set. tt)

  module _ (answer_of : H → Command → Answer) (after : H → Command → H) where
    begun_own : (read : Result Command MsgFault) (r : ReaderState H) (p : Packet) → StoresItsOwn r → StoresItsOwn (begun answer_of after read r p).reader
    begun_own (Err fault) r p own = own
    begun_own (Ok c) r p own =
        moved_own (new_address c) (record r { last = Some 0; queue = unoffered r.queue; handler = (answer_to answer_of after r.config r.handler c).handler }) own

    taken_own : (read : Result Command MsgFault) (r : ReaderState H) (p : Packet) → IsHere r p → StoresItsOwn (taken answer_of after read r p).reader
    taken_own (Err fault) r p here = (refl, here)
    taken_own (Ok c) r p here =
        let queue = released r.queue in
        let event = event_for c queue.events in
        let a = event_or_answer answer_of after event r.config r.handler c in
        moved_own (new_address c)
        (record r { last = Some p.sequence; stored = Some (reply_packet p p.sequence a.reply); queue = offering event queue; handler = a.handler }) (refl, here)

    pub outcome_own : (kind : Kind) (r : ReaderState H) (p : Packet) → kind_of r p ≡ kind → StoresItsOwn r
        → StoresItsOwn (outcome answer_of after kind r p).reader
    outcome_own Zero r p is own = begun_own (command_in p) r p own
    outcome_own Taken r p is own = taken_own (command_in p) r p (taken_here r p is)
    outcome_own _ r p is own = own
