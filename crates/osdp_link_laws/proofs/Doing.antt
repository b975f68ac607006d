-- What each move does to a link, however it stands.
use Rattle.osdp_link_laws.proofs.Common.{◌≡◌, ◌≢◌, ◌⊎◌, ◌≤◌, ◌<◌, ℕ, zero, suc, Bool, true, false, cond, eqb, List, [], ◌∷◌, ◌++◌, length, drop, Some, None, refl, sym, subst, ap, ◌∙◌, inl, inr, arith, le-ltb, lt-ltb, Packet, Room, Command, Event, UnexpectedSequence, ControllerConfig, ControllerFault, NotClosed, OutOfRange, State, Closed, EventQueue, released, withdrawn, refused, ReaderState, after_set_handler, new_reader, event_or_answer, is_for_another, kind_by_number, kind_of, ReaderConfig, Answer, Silent, Secured, Zero, Busy, Wrong, ComesTo, AnswersBy, CountsRestarts, EachMoveDoes, HasAddress, HasHandler, HasNewController, HasNewReader, LosesOne, RefusesNumbers, Retargets, Withdraws, WithdrawsEvents, Link, RestartController, RestartReader, SetHandler, after_move, lost_at, LapsesEvents}
use Rattle.std.specs.Prelude.{◌||◌, if◌then◌else◌, not}
use Rattle.osdp_controller.specs.Machine as controllers
use Rattle.osdp_reader.specs.Table as reader
use Rattle.osdp_link_laws.specs.Link as link
use Rattle.osdp_link_laws.proofs.Acting.{no_event}
use Rattle.osdp_link_laws.proofs.Numbers.{is_false, is_true}
use Rattle.osdp_link_laws.proofs.OnItsWay.{first_back, none_back}

-- ---- a reader that knows no number

for_it : (reply same all : Bool) → reply ≡ false → (same ≡ true) ⊎ (all ≡ true) → reply || not (same || all) ≡ false
for_it true same all command here = absurd cc
for_it false true all command here = refl
for_it false false true command here = refl
for_it false false false command (inl here) = absurd cc
for_it false false false command (inr here) = absurd cc

module _ {H : Type 0} where
  comes_here : (r : ReaderState H) (p : Packet) → ComesTo r p → is_for_another r p ≡ false
  comes_here r p comes = for_it p.reply (eqb p.address r.config.address) (eqb p.address 127) comes.command (elim comes.here [
    | inl here ↦ inl (is_true p.address r.config.address here)
    | inr all ↦ inr (is_true p.address 127 all)
  ])

  knows_none : (r : ReaderState H) (p : Packet) → r.last ≡ None → ComesTo r p → p.block ≡ false → p.sequence ≢ 0 → kind_of r p ≡ Wrong
  knows_none r p none comes plain above =
      ap (λ b. cond b Silent (cond p.block Secured (cond (eqb p.sequence 0) (cond r.busy Busy Zero) (kind_by_number r.last p.sequence r.busy))))
      (comes_here r p comes)
      ∙ ap (λ b. cond b Secured (cond (eqb p.sequence 0) (cond r.busy Busy Zero) (kind_by_number r.last p.sequence r.busy))) plain
      ∙ ap (λ b. cond b (cond r.busy Busy Zero) (kind_by_number r.last p.sequence r.busy)) (is_false p.sequence 0 above)
      ∙ ap (λ last. kind_by_number last p.sequence r.busy) none

  module _ (answer_of : H → Command → Answer) (after : H → Command → H) where
    refuses_numbers : (r : ReaderState H) → r.last ≡ None → RefusesNumbers answer_of after r
    refuses_numbers r none p comes plain above =
        subst (λ k. let o = reader.outcome answer_of after k r p in
        (o.said ≡ Some (refused UnexpectedSequence)) × (o.command ≡ None) × (o.reader ≡ r))
        (sym (knows_none r p none comes plain above)) (refl, refl, refl)

    -- ---- another handler

    answers_by : (handler : H) (r : ReaderState H) → AnswersBy answer_of after handler r (after_set_handler handler r)
    answers_by handler r = record {
      again = λ p is. subst (λ k. let o = reader.outcome answer_of after k new p in
          (o.reply ≡ r.stored) × (o.command ≡ None) × (o.reader ≡ new)) (sym is) (refl, refl, refl);
      next = λ p c is reads other.
          ap (λ k. (reader.outcome answer_of after k new p).said) is
          ∙ ap (λ o. (reader.taken answer_of after o new p).said) reads
          ∙ ap (λ event. Some (event_or_answer answer_of after event r.config handler c).reply) (no_event c (released r.queue).events other);
    }
      where
        new : ReaderState H
        new = after_set_handler handler r

    sets_handler : (l : Link H) (handler : H) → HasHandler handler l (after_move answer_of after (SetHandler handler) l)
    sets_handler l handler =
        record { others = refl; handler = refl; stored = refl; reader = record { config = refl; last = refl; queue = refl; busy = refl } }

    -- ---- restarts

    restarts_reader : (l : Link H) (config : ReaderConfig) (handler : H) (room : Room)
        → HasNewReader answer_of after config handler room l (after_move answer_of after (RestartReader config handler room) l)
    restarts_reader l config handler room = record {
      others = refl;
      reader = record { config = refl; last = refl; stored = refl; queue = refl; busy = refl; handler = refl };
      refuses = refuses_numbers (new_reader config handler room) refl;
    }

    restarts_controller : (l : Link H) (config : ControllerConfig) (room : Room)
        → HasNewController config room l (after_move answer_of after (RestartController config room) l)
    restarts_controller l config room = record {
      others = refl;
      controller = record { state = refl; config = refl; number = refl; greatest = refl; waiting = refl; capacity = refl; room = refl };
    }

-- ---- an event is withdrawn

withdrawn_by : (capacity room : ℕ) (offered ever : Bool) (front : List Event) (event : Event) (rest : List Event) → length front ≡ (if ever then 1 else 0)
    → let q : EventQueue = record { events = front ++ event ∷ rest; capacity = capacity; room = room; offered = offered; ever_offered = ever } in
    (withdrawn q).events ≡ front ++ rest
withdrawn_by capacity room offered false [] event rest few = refl
withdrawn_by capacity room offered false (f ∷ front) event rest few = absurd (omega (arith, few))
withdrawn_by capacity room offered true [] event rest few = absurd (omega (arith, few))
withdrawn_by capacity room offered true (f ∷ []) event rest few = refl
withdrawn_by capacity room offered true (f ∷ g ∷ front) event rest few = absurd (omega (arith, few))

none_by : (events : List Event) (capacity room : ℕ) (offered ever : Bool) → length events ≤ (if ever then 1 else 0)
    → let q : EventQueue = record { events = events; capacity = capacity; room = room; offered = offered; ever_offered = ever } in
    (withdrawn q).events ≡ events
none_by [] capacity room offered false few = refl
none_by (e ∷ events) capacity room offered false few = absurd (omega (arith, few))
none_by [] capacity room offered true few = refl
none_by (e ∷ []) capacity room offered true few = refl
none_by (e ∷ f ∷ events) capacity room offered true few = absurd (omega (arith, few))

-- ---- an address is set

may_set : (state : State) (address : ℕ) → state ≡ Closed → address < 127 → controllers.or_no_device (controllers.refused_unless_closed state) address ≡ None
may_set state address closed small =
    ap (λ s. controllers.or_no_device (controllers.refused_unless_closed s) address) closed
    ∙ ap (λ b. cond b None (Some OutOfRange)) (lt-ltb address 127 small)

may_not : (state : State) (address : ℕ) → (state ≢ Closed) ⊎ (127 ≤ address)
    → (fault : ControllerFault) × (controllers.or_no_device (controllers.refused_unless_closed state) address ≡ Some fault)
may_not Closed address (inl unclosed) = absurd (unclosed refl)
may_not Closed address (inr large) = (OutOfRange, ap (λ b. cond b None (Some OutOfRange)) (le-ltb address 127 large))
may_not _ address why = (NotClosed, refl)

-- ---- a packet is lost

pub lost_there : {A : Type 0} (front : List A) (x : A) (rest : List A) → lost_at (length front) (front ++ x ∷ rest) ≡ front ++ rest
lost_there [] x rest = refl
lost_there (y ∷ front) x rest = ap (λ l. y ∷ l) (lost_there front x rest)

lost_beyond : {A : Type 0} (place : ℕ) (xs : List A) → length xs ≤ place → lost_at place xs ≡ xs
lost_beyond place [] le = refl
lost_beyond zero (x ∷ xs) le = absurd (omega (arith, le))
lost_beyond (suc place) (x ∷ xs) le = ap (λ l. x ∷ l) (lost_beyond place xs (omega (arith, le)))

loses_one : {A : Type 0} (place : ℕ) (xs : List A) → LosesOne place xs (lost_at place xs)
loses_one place xs = (
  λ front lost rest is at. ap (lost_at place) is ∙ subst (λ k. lost_at k (front ++ lost ∷ rest) ≡ front ++ rest) at (lost_there front lost rest),
  lost_beyond place xs,
)

module _ {H : Type 0} (answer_of : H → Command → Answer) (after : H → Command → H) where
  withdraws : Withdraws answer_of after
  withdraws = record {
    first = λ l c ws still is. record {
      others = refl;
      session = refl;
      waiting = first_back l.controller.session.state c ws l.controller.waiting still is;
      capacity = refl;
      room = refl;
    };
    none = λ l why. ap (λ ws. record l { controller = record l.controller { waiting = ws } }) (none_back l.controller.session.state l.controller.waiting why);
  }

  withdraws_events : WithdrawsEvents answer_of after
  withdraws_events = record {
    first = λ l front event rest is few.
        let q = l.reader.queue in
        record {
          others = refl;
          reader = ap (λ es. record l.reader { queue = record q { events = es } })
              (subst (λ es. (withdrawn (record q { events = es })).events ≡ front ++ rest) (sym is)
              (withdrawn_by q.capacity q.room q.offered q.ever_offered front event rest few));
        };
    none = λ l few.
        let q = l.reader.queue in
        ap (λ es. record l { reader = record l.reader { queue = record q { events = es } } })
        (none_by q.events q.capacity q.room q.offered q.ever_offered few);
  }

  lapses_events : LapsesEvents answer_of after
  lapses_events = record {
    front = λ l event rest is ever.
        let q = l.reader.queue in
        record {
          others = refl;
          reader = (λ i. record l.reader {
            queue = cond (ever i) (record q { events = drop 1 (is i); offered = false; ever_offered = false }) q;
          });
        };
    none = λ l never.
        let q = l.reader.queue in
        (λ i. record l {
          reader = record l.reader { queue = cond (never i) (record q { events = drop 1 q.events; offered = false; ever_offered = false }) q };
        });
  }

  retargets : Retargets answer_of after
  retargets = record {
    set = λ l address closed small.
        subst (λ fault. HasAddress address l (link.retargets fault address l)) (sym (may_set l.controller.session.state address closed small))
        (record { others = refl; address = refl; config = refl; state = closed; number = refl; greatest = refl; waiting = refl; capacity = refl; room = refl });
    refused = λ l address why. ap (λ fault. link.retargets fault address l) (may_not l.controller.session.state address why).1;
  }

  pub each_move_does : CountsRestarts answer_of after → EachMoveDoes answer_of after
  each_move_does counts = record {
    handler = λ l handler. (sets_handler answer_of after l handler, answers_by answer_of after handler l.reader);
    withdraw = withdraws;
    event = withdraws_events;
    lapse = lapses_events;
    retarget = retargets;
    reader = restarts_reader answer_of after;
    controller = restarts_controller answer_of after;
    losses = record {
      to_reader = λ l place. (loses_one place l.to_reader, refl);
      to_controller = λ l place. (loses_one place l.to_controller, refl);
    };
    restarts = counts;
  }
