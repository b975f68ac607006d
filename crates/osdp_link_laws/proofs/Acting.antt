-- What a frame does to the reader: which line of its table it meets, and what the reader keeps.
use Rattle.osdp_link_laws.proofs.Common.{◌≡◌, ◌≢◌, ◌<◌, ℕ, Bool, false, not, cond, eqb, List, [], ◌∷◌, ◌++◌, drop, Option, Some, None, refl, sym, subst, ap, ◌∙◌, inl, inr, arith, ◌||◌, is_some, option_to_list, eqb_tells, next_sequence, Command, Event, Reply, ControllerConfig, Exchange, Opening, Polling, Asking, event_in, ReaderConfig, Answer, Silent, Zero, Repeat, Taken, Busy, Wrong, Queue, event_for, released, ReaderState}
use Rattle.osdp_msg.specs.declared.command.Command.TheVariants as command
use Rattle.osdp_msg.specs.declared.event.Event.TheVariants as event
use Rattle.osdp_reader.specs.Table.{event_or_answer, kind_by_number, kind_of, moved}
use Rattle.osdp_link_laws.proofs.Numbers.{is_true, is_false, next_above_zero, next_differs}
use Rattle.osdp_link_laws.proofs.Stages.{HasActed, Offers, OffersEvent, frame, shown}

module _ (fixed : ControllerConfig) {H : Type 0} where
  -- a frame for another address
  pub kind_away : (r : ReaderState H) (x : Exchange) (n : ℕ) → r.config.address ≢ fixed.address → fixed.address < 127
      → kind_of r (frame fixed x n) ≡ Silent
  kind_away r x n differ device =
      let here = is_false fixed.address r.config.address (λ e. differ (sym e)) in
      let all = is_false fixed.address 127 (λ e. omega (arith, device, e)) in
      ap (λ a. cond (not (a || eqb fixed.address 127)) Silent (cond (eqb n 0) (cond r.busy Busy Zero) (kind_by_number r.last n r.busy))) here
      ∙ ap (λ b. cond (not b) Silent (cond (eqb n 0) (cond r.busy Busy Zero) (kind_by_number r.last n r.busy))) all

  -- a frame for this one
  kind_here : (r : ReaderState H) (x : Exchange) (n : ℕ) → r.config.address ≡ fixed.address
      → kind_of r (frame fixed x n) ≡ cond (eqb n 0) (cond r.busy Busy Zero) (kind_by_number r.last n r.busy)
  kind_here r x n here =
      ap (λ a. cond (not (a || eqb fixed.address 127)) Silent (cond (eqb n 0) (cond r.busy Busy Zero) (kind_by_number r.last n r.busy)))
      (is_true fixed.address r.config.address (sym here))

  pub kind_zero : (r : ReaderState H) (x : Exchange) → r.config.address ≡ fixed.address
      → kind_of r (frame fixed x 0) ≡ cond r.busy Busy Zero
  kind_zero r x here = kind_here r x 0 here

  kind_numbered : (r : ReaderState H) (x : Exchange) (n : ℕ) → r.config.address ≡ fixed.address → n ≢ 0
      → kind_of r (frame fixed x n) ≡ kind_by_number r.last n r.busy
  kind_numbered r x n here above =
      kind_here r x n here ∙ ap (λ b. cond b (cond r.busy Busy Zero) (kind_by_number r.last n r.busy)) (is_false n 0 above)

  -- a reader that knows no number refuses each but 0
  pub kind_unknown : (r : ReaderState H) (x : Exchange) (n : ℕ) → r.config.address ≡ fixed.address → n ≢ 0 → r.last ≡ None
      → kind_of r (frame fixed x n) ≡ Wrong
  kind_unknown r x n here above none = kind_numbered r x n here above ∙ ap (λ l. kind_by_number l n r.busy) none

  pub kind_again : (r : ReaderState H) (x : Exchange) (n : ℕ) → r.config.address ≡ fixed.address → n ≢ 0 → r.last ≡ Some n
      → kind_of r (frame fixed x n) ≡ Repeat
  kind_again r x n here above last =
      kind_numbered r x n here above
      ∙ ap (λ l. kind_by_number l n r.busy) last
      ∙ ap (λ b. cond b Repeat (cond (eqb n (next_sequence n)) (cond r.busy Busy Taken) Wrong)) (is_true n n refl)

  pub kind_next : (r : ReaderState H) (x : Exchange) (n : ℕ) → r.config.address ≡ fixed.address → r.last ≡ Some n
      → kind_of r (frame fixed x (next_sequence n)) ≡ cond r.busy Busy Taken
  kind_next r x n here last =
      kind_numbered r x (next_sequence n) here (next_above_zero n)
      ∙ ap (λ l. kind_by_number l (next_sequence n) r.busy) last
      ∙ ap (λ b. cond b Repeat (cond (eqb (next_sequence n) (next_sequence n)) (cond r.busy Busy Taken) Wrong)) (is_false (next_sequence n) n (next_differs n))
      ∙ ap (λ b. cond b (cond r.busy Busy Taken) Wrong) (is_true (next_sequence n) (next_sequence n) refl)

  -- a COMSET that moves the reader, or none
  pub moved_acted : (to : Option ℕ) (n : ℕ) (x : Exchange) (a : Reply) (r : ReaderState H) → r.config.address ≡ fixed.address
      → HasActed fixed n x a r → HasActed fixed n x a (moved to r)
  moved_acted None n x a r here acted = acted
  moved_acted (Some address) n x a r here acted =
      elim (eqb_tells address r.config.address) [
        | inl same ↦ subst (λ b. HasActed fixed n x a (cond b r (record r { config = record r.config { address = address }; last = None; stored = None }))) (sym same.0) acted
        | inr other ↦ subst (λ b. HasActed fixed n x a (cond b r (record r { config = record r.config { address = address }; last = None; stored = None }))) (sym other.0)
            (record { here = λ e. absurd (other.1 (e ∙ sym here)); offer = acted.offer })
      ]

  -- a POLL: the front is told and offered, or nothing is
  pub polled : (events : List Event) (capacity room : ℕ) (ever : Bool) (answer_of : H → Command → Answer) (after : H → Command → H) (config : ReaderConfig) (handler : H)
      → let told = event_for command.Poll events in
      let a = event_or_answer answer_of after told config handler command.Poll in
      Offers Polling a.reply (record { events = events; capacity = capacity; room = room; offered = is_some told; ever_offered = is_some told || ever }) × (a.handler ≡ handler)
  polled [] capacity room ever answer_of after config handler = (refl, refl)
  polled (event.LocalState s ∷ rest) capacity room ever answer_of after config handler = (inl (refl, refl, (rest, refl)), refl)
  polled (_ ∷ rest) capacity room ever answer_of after config handler = (inl (refl, refl, (rest, refl)), refl)

-- a command other than POLL has no event for its answer, and is taken as one
pub no_event : (c : Command) (events : List Event) → c ≢ command.Poll → event_for c events ≡ None
no_event command.Poll events other = absurd (other refl)
no_event c events other = refl

-- where nothing is offered, nothing leaves the queue when the next number is taken
leaves_none : (told : List Event) (q : Queue) → q.offered ≡ false → q.events ≡ cond q.offered told [] ++ (released q).events
leaves_none told q off = (λ i. cond (sym off i) told [] ++ cond (sym off i) (drop 1 q.events) q.events)

-- the event that an answer told leaves it then, where it is offered
leaves_event : (told : Option Event) (q : Queue) → OffersEvent told q → q.events ≡ cond q.offered (option_to_list told) [] ++ (released q).events
leaves_event None q off = leaves_none [] q off
leaves_event (Some e) q (inl (on, ever, (rest, is))) =
    is ∙ (λ i. e ∷ drop 1 (sym is i)) ∙ (λ i. cond (sym on i) (e ∷ []) [] ++ cond (sym on i) (drop 1 q.events) q.events)
leaves_event (Some e) q (inr off) = leaves_none (e ∷ []) q off

pub leaves_shown : (x : Exchange) (a : Reply) (q : Queue) → Offers x a q → q.events ≡ cond q.offered (shown x a) [] ++ (released q).events
leaves_shown Opening a q off = leaves_none [] q off
leaves_shown Polling a q offers = leaves_event (event_in a) q offers
leaves_shown (Asking c) a q off = leaves_none [] q off
