-- A link whose device lets an event lapse, beside the same link without the lapse.
use Rattle.std.proofs.Common.{◌≡◌, ◌≢◌, ◌+◌, ◌-◌, ◌&&◌, ◌⊎◌, ltb, leb, not, ℕ, suc, Bool, true, false, List, [], ◌∷◌, ◌++◌, length, Option, Some, None, Ok, Err, refl, sym, subst, ap, inl, inr, arith}
use Rattle.osdp_link_laws.proofs.Common.{and_from, leb-true, le-leb, lt-ltb, ltb-true, Packet, Command, Event, Room, ControllerFault, Queue, bytes_waiting, event_size, has_room, lacks_room, kind_of, outcome, Answer, Kind, Zero, Taken, option_to_list, DifferByLapse, IsNotZeroIf, LapseEvent, LapsesAreUnheard, Offers, StayInSession, StaysInSession, lapses, Delivered, Delivery, Link, Lost, Move, QueueEvent, Reopen, Repeated, RestartController, RestartReader, Retarget, Submit, ToController, ToReader, Withdraw, WithdrawEvent, after_move, run}
use Rattle.osdp_controller.specs.Machine as controllers
use Rattle.osdp_link_laws.specs.Link as link

-- a queue whose front is offered
abbrev offered_queue : Event → List Event → Room → Queue
offered_queue event rest room = record { events = event ∷ rest; capacity = room.messages; room = room.bytes; offered = true; ever_offered = true }

-- the room of a queue
abbrev pub room_of : Queue → Room
room_of q = record { messages = q.capacity; bytes = q.room }

-- where there is room beside it, there is room without it
both_true : (a b : Bool) → (a && b) ≡ true → (a ≡ true) × (b ≡ true)
both_true true true e = (cc, cc)
both_true true false e = absurd cc
both_true false b e = absurd cc

pub room_without : (e event : Event) (q : Queue) → has_room e (record q { events = event ∷ q.events }) ≡ true → has_room e q ≡ true
room_without e event q fits =
    let both = both_true (ltb (length (event ∷ q.events)) q.capacity) (leb (event_size e) (q.room - bytes_waiting (event ∷ q.events))) fits in
    let place = ltb-true (length (event ∷ q.events)) q.capacity both.0 in
    let bytes = leb-true (event_size e) (q.room - bytes_waiting (event ∷ q.events)) both.1 in
    let longer : length (event ∷ q.events) ≡ suc (length q.events) = refl in
    let more : bytes_waiting (event ∷ q.events) ≡ event_size event + bytes_waiting q.events = refl in
    and_from (ltb (length q.events) q.capacity) (leb (event_size e) (q.room - bytes_waiting q.events))
    (lt-ltb (length q.events) q.capacity (omega (arith, place, longer)))
    (le-leb (event_size e) (q.room - bytes_waiting q.events) (omega (arith, bytes, more)))

lacks_none : (e : Event) (q : Queue) → has_room e q ≡ true → lacks_room e q ≡ false
lacks_none e q fits = ap not fits

module _ {H : Type 0} where
  -- a link with this in its queue
  abbrev pub off : Event → List Event → Room → Link H → Link H
  off event rest room l = record l { reader = record l.reader { queue = offered_queue event rest room } }

  offers_it : (event : Event) (rest : List Event) (room : Room) (l : Link H) → Offers event rest (off event rest room l)
  offers_it event rest room l = record { events = refl; offered = refl; ever_offered = refl }

  -- it is such a link already
  pub is_off : (event : Event) (rest : List Event) (l : Link H) → Offers event rest l → off event rest (room_of l.reader.queue) l ≡ l
  is_off event rest l is = λ i. record l {
    reader = record l.reader {
      queue = record {
        events = sym is.events i;
        capacity = l.reader.queue.capacity;
        room = l.reader.queue.room;
        offered = sym is.offered i;
        ever_offered = sym is.ever_offered i;
      };
    };
  }

  -- a link with the lapse, and one without, in which this event is offered yet
  abbrev pub DifferFor : Event → Link H → Link H → Type 0
  DifferFor event lapsed l = (lapsed ≡ l) ⊎ ((rest : List Event) × Offers event rest l × (lapsed ≡ lapses l))

  module _ (event : Event) where
    -- what is without the lapse offers the event yet
    yet : (rest : List Event) (room : Room) (l : Link H) → DifferFor event (lapses (off event rest room l)) (off event rest room l)
    yet rest room l = inr (rest, offers_it event rest room l, refl)

    module _ (answer_of : H → Command → Answer) (after : H → Command → H) where
      abbrev With : Move H → Link H → Type 0
      With move l = DifferFor event (after_move answer_of after move (lapses l)) (after_move answer_of after move l)

      submits_so : (refusal : Option ControllerFault) (c : Command) (rest : List Event) (room : Room) (l : Link H)
          → DifferFor event (link.submits refusal c (lapses (off event rest room l))) (link.submits refusal c (off event rest room l))
      submits_so (Some fault) c rest room l = yet rest room l
      submits_so None c rest room l = yet rest room (link.submits None c l)

      retargets_so : (refusal : Option ControllerFault) (address : ℕ) (rest : List Event) (room : Room) (l : Link H)
          → DifferFor event (link.retargets refusal address (lapses (off event rest room l))) (link.retargets refusal address (off event rest room l))
      retargets_so (Some fault) address rest room l = yet rest room l
      retargets_so None address rest room l = yet rest room (link.retargets None address l)

      queues_so : (one two : Bool) (e : Event) (rest : List Event) (room : Room) (l : Link H) → one ≡ false → two ≡ false
          → DifferFor event (link.queues two e (lapses (off event rest room l))) (link.queues one e (off event rest room l))
      queues_so false false e rest room l a b = yet (rest ++ e ∷ []) room l
      queues_so true two e rest room l a b = absurd cc
      queues_so false true e rest room l a b = absurd cc

      -- by the line of the reader's table
      abbrev gets_by : Kind → Packet → Link H → Link H
      gets_by kind p l =
          let o = outcome answer_of after kind l.reader p in
          record l {
            reader = o.reader;
            to_controller = l.to_controller ++ option_to_list o.reply;
          }

      taken_so : (p : Packet) (rest : List Event) (room : Room) (l : Link H)
          → gets_by Taken p (lapses (off event rest room l)) ≡ gets_by Taken p (off event rest room l)
      taken_so p rest room l = by_command (Rattle.osdp_reader.specs.Table.command_in p)
        where
          by_command : (c : _) → record l {
            reader = (Rattle.osdp_reader.specs.Table.taken answer_of after c (lapses (off event rest room l)).reader p).reader;
            to_controller = l.to_controller ++ option_to_list (Rattle.osdp_reader.specs.Table.taken answer_of after c (lapses (off event rest room l)).reader p).reply;
          } ≡ record l {
            reader = (Rattle.osdp_reader.specs.Table.taken answer_of after c (off event rest room l).reader p).reader;
            to_controller = l.to_controller ++ option_to_list (Rattle.osdp_reader.specs.Table.taken answer_of after c (off event rest room l).reader p).reply;
          }
          by_command (Ok c) = refl
          by_command (Err fault) = refl

      gets_so : (kind : Kind) (p : Packet) (rest : List Event) (room : Room) (l : Link H) → kind ≢ Zero
          → DifferFor event (gets_by kind p (lapses (off event rest room l))) (gets_by kind p (off event rest room l))
      gets_so Zero p rest room l differs = absurd (differs refl)
      gets_so Taken p rest room l differs = inl (taken_so p rest room l)
      gets_so kind p rest room l differs = yet rest room (gets_by kind p l)

      to_reader_so : (how : Delivery) (ps : List Packet) (rest : List Event) (room : Room) (l : Link H)
          → IsNotZeroIf how ps (off event rest room l).reader
          → DifferFor event (link.to_reader answer_of after ps how (lapses (off event rest room l))) (link.to_reader answer_of after ps how (off event rest room l))
      to_reader_so how [] rest room l differs = yet rest room l
      to_reader_so Delivered (p ∷ ps) rest room l differs = gets_so (kind_of l.reader p) p rest room (record l { to_reader = ps }) differs
      to_reader_so Lost (p ∷ ps) rest room l differs = yet rest room (record l { to_reader = ps })
      to_reader_so Repeated (p ∷ ps) rest room l differs = gets_so (kind_of l.reader p) p rest room l differs

      to_controller_so : (how : Delivery) (now : ℕ) (ps : List Packet) (rest : List Event) (room : Room) (l : Link H)
          → DifferFor event (link.to_controller ps how now (lapses (off event rest room l))) (link.to_controller ps how now (off event rest room l))
      to_controller_so how now [] rest room l = yet rest room l
      to_controller_so Delivered now (p ∷ ps) rest room l = yet rest room (link.controller_gets p now (record l { to_controller = ps }))
      to_controller_so Lost now (p ∷ ps) rest room l = yet rest room (record l { to_controller = ps })
      to_controller_so Repeated now (p ∷ ps) rest room l = yet rest room (link.controller_gets p now l)

      moves_so : (move : Move H) (rest : List Event) (room : Room) (l : Link H) → StaysInSession move (off event rest room l) → With move (off event rest room l)
      moves_so (Submit c) rest room l stays = submits_so (controllers.submit_refusal c l.controller) c rest room l
      moves_so (QueueEvent e) rest room l stays =
          let before = offered_queue event rest room in
          let without : Queue = record { events = rest; capacity = room.messages; room = room.bytes; offered = false; ever_offered = false } in
          queues_so (lacks_room e before) (lacks_room e without) e rest room l (lacks_none e before stays) (lacks_none e without (room_without e event without stays))
      moves_so (ToReader how) rest room l stays = to_reader_so how l.to_reader rest room l stays
      moves_so (ToController how now) rest room l stays = to_controller_so how now l.to_controller rest room l
      moves_so (Reopen now) rest room l stays = absurd stays
      moves_so LapseEvent rest room l stays = absurd stays
      moves_so Withdraw rest room l stays = yet rest room (link.withdraws l)
      moves_so (Retarget address) rest room l stays = retargets_so (controllers.retarget_refusal address l.controller) address rest room l
      moves_so WithdrawEvent rest room l stays =
          yet (Rattle.std.specs.Prelude.drop 1 rest) room l
      moves_so (RestartReader config handler room_for) rest room l stays = inl refl
      moves_so (RestartController config room_for) rest room l stays = yet rest room (link.restarts_controller config room_for l)
      moves_so move rest room l stays = yet rest room (after_move answer_of after move l)

  module _ (answer_of : H → Command → Answer) (after : H → Command → H) where
    pub move_for : (move : Move H) (l : Link H) (event : Event) (rest : List Event) → Offers event rest l → StaysInSession move l
        → DifferFor event (after_move answer_of after move (lapses l)) (after_move answer_of after move l)
    move_for move l event rest is stays =
        let same = is_off event rest l is in
        subst (λ (m : Link H). DifferFor event (after_move answer_of after move (lapses m)) (after_move answer_of after move m)) same
        (moves_so event answer_of after move rest (room_of l.reader.queue) l (subst (StaysInSession move) (sym same) stays))

    differ_so : (event : Event) (m l : Link H) → DifferFor event m l → DifferByLapse m l
    differ_so event m l (inl same) = inl same
    differ_so event m l (inr (rest, offers, lapsed)) = inr (event, rest, offers, lapsed)

    move_so : (move : Move H) (l : Link H) (event : Event) (rest : List Event) → Offers event rest l → StaysInSession move l
        → DifferByLapse (after_move answer_of after move (lapses l)) (after_move answer_of after move l)
    move_so move l event rest is stays =
        differ_so event (after_move answer_of after move (lapses l)) (after_move answer_of after move l) (move_for move l event rest is stays)

    all_so : (moves : List (Move H)) (l : Link H) (event : Event) (rest : List Event) → Offers event rest l → StayInSession answer_of after moves l
        → DifferByLapse (run answer_of after moves (lapses l)) (run answer_of after moves l)
    all_so [] l event rest is stay = inr (event, rest, is, refl)
    all_so (move ∷ moves) l event rest is stay =
        by_step (move_so move l event rest is stay.0) (λ e more offers. all_so moves (after_move answer_of after move l) e more offers stay.1)
      where
        next : Link H
        next = after_move answer_of after move l

        by_step : DifferByLapse (after_move answer_of after move (lapses l)) next
            → ((e : Event) (more : List Event) → Offers e more next → DifferByLapse (run answer_of after moves (lapses next)) (run answer_of after moves next))
            → DifferByLapse (run answer_of after moves (after_move answer_of after move (lapses l))) (run answer_of after moves next)
        by_step (inl same) later = inl (ap (run answer_of after moves) same)
        by_step (inr (e, more, offers, lapsed)) later =
            subst (λ (m : Link H). DifferByLapse (run answer_of after moves m) (run answer_of after moves next)) (sym lapsed)
            (later e more offers)

    pub lapses_are_unheard : LapsesAreUnheard answer_of after
    lapses_are_unheard = record {
      leaves = λ l event rest is. subst (λ (m : Link H). (lapses m).reader.queue
          ≡ record { events = rest; capacity = m.reader.queue.capacity; room = m.reader.queue.room; offered = false; ever_offered = false }) (is_off event rest l is) refl;
      session = λ l event rest moves is stay. all_so moves l event rest is stay;
      taken = λ l event rest p is kind.
          let room = room_of l.reader.queue in
          subst (λ (m : Link H). link.reader_gets answer_of after p (lapses m) ≡ link.reader_gets answer_of after p m) (is_off event rest l is)
          (subst (λ k. gets_by event answer_of after k p (lapses (off event rest room l)) ≡ gets_by event answer_of after k p (off event rest room l))
          (sym kind) (taken_so event answer_of after p rest room l));
    }
