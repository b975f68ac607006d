-- What holds of a reader after each packet, by the few things that a packet can do to it.
use Rattle.osdp_reader_laws.proofs.Common.{◌≡◌, ◌≤◌, ℕ, Bool, true, false, cond, eqb, leb, Option, Some, None, Result, Ok, Err, refl, arith, leb-true, Packet, Command, MsgFault, Reply, Answer, Kind, Zero, Taken, event_for, offering, released, unoffered, refused, reply_packet, unread_reason, ReaderState, answer_to, begun, command_in, event_or_answer, moved, new_address, outcome, taken}
use Rattle.osdp_msg.specs.declared.command.Command.TheVariants.{Comset}

-- a COMSET that is accepted sets the address of a device
address_of_device : (command : Command) (address : ℕ) → new_address command ≡ Some address → address ≤ 126
address_of_device (Comset c) address set = by_test (leb c.address 126) refl set
  where
    by_test : (within : Bool) → leb c.address 126 ≡ within → cond within (Some c.address) None ≡ Some address → address ≤ 126
    by_test true is e =
        let below = leb-true c.address 126 is in
        let same : c.address ≡ address = cc in
        omega (arith, below, same)
    by_test false is e = absurd cc
address_of_device command address set = absurd cc

module _ {H : Type 0} where
  -- the reader at another address, after a command with number 0, and after one with the next number
  abbrev pub at_address : ℕ → ReaderState H → ReaderState H
  at_address address r = record r { config = record r.config { address = address }; last = None; stored = None }

  abbrev pub after_zero : H → ReaderState H → ReaderState H
  after_zero handler r = record r { last = Some 0; queue = unoffered r.queue; handler = handler }

  abbrev pub after_next : ℕ → Packet → Option Reply → H → ReaderState H → ReaderState H
  after_next number back told handler r =
      record r { last = Some number; stored = Some back; queue = offering told (released r.queue); handler = handler }

  -- what each of the three keeps
  pub record IsKeptByEffects (P : ReaderState H → Type 0) : Type 0 where
    pub moved : (r : ReaderState H) (address : ℕ) → address ≤ 126 → P r → P (at_address address r)
    pub zero : (r : ReaderState H) (handler : H) → P r → P (after_zero handler r)
    pub next : (r : ReaderState H) (number : ℕ) (back : Packet) (told : Option Reply) (handler : H) → P r
        → P (after_next number back told handler r)

  -- a move, or none
  pub by_move : (P : ReaderState H → Type 0) (o : Option ℕ) (r : ReaderState H) → P r
      → ((address : ℕ) → o ≡ Some address → P (at_address address r)) → P (moved o r)
  by_move P None r here there = here
  by_move P (Some address) r here there = by_test (eqb address r.config.address)
    where
      by_test : (same : Bool) → P (cond same r (at_address address r))
      by_test true = here
      by_test false = there address refl

  module _ (answer_of : H → Command → Answer) (after : H → Command → H) where
    -- nothing changes but by number 0 and by a taken number
    pub by_kind : (P : ReaderState H → Type 0) (kind : Kind) (r : ReaderState H) (p : Packet) → P r
        → P (begun answer_of after (command_in p) r p).reader → P (taken answer_of after (command_in p) r p).reader
        → P (outcome answer_of after kind r p).reader
    by_kind P Zero r p same zero next = zero
    by_kind P Taken r p same zero next = next
    by_kind P _ r p same zero next = same

    acted : (P : ReaderState H → Type 0) (command : Command) (r : ReaderState H) → IsKeptByEffects P → P r
        → P (moved (new_address command) r)
    acted P command r kept is =
        by_move P (new_address command) r is
        (λ address set. kept.moved r address (address_of_device command address set) is)

    begun_keeps : (P : ReaderState H → Type 0) (read : Result Command MsgFault) (r : ReaderState H) (p : Packet)
        → IsKeptByEffects P → P r → P (begun answer_of after read r p).reader
    begun_keeps P (Err fault) r p kept is = kept.zero r r.handler is
    begun_keeps P (Ok command) r p kept is =
        let handler = (answer_to answer_of after r.config r.handler command).handler in
        acted P command (after_zero handler r) kept (kept.zero r handler is)

    taken_keeps : (P : ReaderState H → Type 0) (read : Result Command MsgFault) (r : ReaderState H) (p : Packet)
        → IsKeptByEffects P → P r → P (taken answer_of after read r p).reader
    taken_keeps P (Err fault) r p kept is =
        kept.next r p.sequence (reply_packet p p.sequence (refused (unread_reason fault))) None r.handler is
    taken_keeps P (Ok command) r p kept is =
        let told = event_for command (released r.queue).events in
        let a = event_or_answer answer_of after told r.config r.handler command in
        let back = reply_packet p p.sequence a.reply in
        acted P command (after_next p.sequence back told a.handler r) kept (kept.next r p.sequence back told a.handler is)

    -- what the three keep is kept
    pub outcome_keeps : (P : ReaderState H → Type 0) (kind : Kind) (r : ReaderState H) (p : Packet) → IsKeptByEffects P → P r
        → P (outcome answer_of after kind r p).reader
    outcome_keeps P kind r p kept is =
        by_kind P kind r p is (begun_keeps P (command_in p) r p kept is) (taken_keeps P (command_in p) r p kept is)
