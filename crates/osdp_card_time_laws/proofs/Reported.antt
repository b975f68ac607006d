-- A card waits for the POLL that offers it, and then for its answer.
use Rattle.osdp_card_time_laws.proofs.Common.{◌≡◌, ◌∙◌, ap, sym, subst, inl, inr, ℕ, zero, suc, ◌+◌, ◌-◌, ◌*◌, ◌≤◌, true, false, List, [], ◌∷◌, Option, Some, None, refl, arith, ◌⊎◌, if◌then◌else◌, is_some, slice_get, Command, Poll, Event, BusState, Call, after_call, Begins, stands_after, GoesOutBy, IsUnderWay, EndsBy, NoneBegins, TurnsTake, turns_of, Well, well_call, same_turns, polls_go_out, Queue, event_for, queued, released, Calls, Queues, Serves, Step, accepted_in, accepts, asked_at, calls_of, taken, waiting_at, CardsAreReported, CardsInTime, ReportedBy, Reports, to_offer_before}
use Rattle.osdp_controller.specs.declared.report.Report.TheVariants as reports
use Rattle.osdp_bus_laws.specs.Exchanges.{IsOutstandingAt}
use Rattle.osdp_bus_laws.proofs.Exchanging.{has_one_exchange}
use Rattle.osdp_bus_time_laws.proofs.Told.{standing}
use Rattle.osdp_card_time_laws.proofs.Orders.{begun_takes, waits_as_accepted}
use Rattle.osdp_card_time_laws.proofs.Queues.{offers, queued_after, released_at}

-- ---- the exchanges that come before

module _ (last entry : ℕ) (call : Call) (calls : List Call) (b : BusState) (under : IsUnderWay entry b) where
  pub near : (before : ℕ) → GoesOutBy last before entry (call ∷ calls) b → (after_call call b).greatest ≤ last
  near zero goes = (goes under).0
  near (suc before) goes = (goes under).0

  pub still_goes : (before : ℕ) → (Begins call entry b → ⊥) → GoesOutBy last before entry (call ∷ calls) b → GoesOutBy last before entry calls (after_call call b)
  still_goes zero not goes = (goes under).1 not
  still_goes (suc before) not goes = (goes under).2 not

-- arithmetic on counts alone
few_left : (place waits orders : ℕ) → waits ≤ orders → place + waits ≤ place + orders
few_left place waits orders less = omega arith

still_left : (place waits next accepted later before : ℕ) → next ≤ waits + accepted → place + (waits + (accepted + later)) ≤ before → place + (next + later) ≤ before
still_left place waits next accepted later before less left = omega arith

order_left : (place waits next accepted later before : ℕ) → next + 1 ≤ waits → place + (waits + (accepted + later)) ≤ suc before → place + (next + later) ≤ before
order_left place waits next accepted later before less left = omega arith

no_order_left : (place waits next accepted later : ℕ) → next + 1 ≤ waits → place + (waits + (accepted + later)) ≤ 0 → ⊥
no_order_left place waits next accepted later less left = omega arith

poll_left : (place p after waits next accepted later before : ℕ) → place ≡ suc p → after ≡ suc p - 1 → next ≤ waits
    → place + (waits + (accepted + later)) ≤ suc before → after + (next + later) ≤ before
poll_left place p after waits next accepted later before is one less left = omega arith

no_poll_left : (place p waits : ℕ) → place ≡ suc p → place + waits ≤ 0 → ⊥
no_poll_left place p waits is left = omega arith

-- arithmetic on moments alone
pub within : (g last answer limit : ℕ) → g ≤ last → last + answer ≤ limit → g ≤ limit
within g last answer limit near fits = omega arith

pub answered_within : (g last answer limit : ℕ) → g ≤ last → last + answer ≤ limit → g + answer ≤ limit
answered_within g last answer limit near fits = omega arith

module _ (time : ℕ → ℕ) (entry limit last : ℕ) (event : Event) (fits : last + time entry ≤ limit) where
  -- ---- it is offered

  pub told_by : (e : ℕ) (steps : List Step) (b : BusState) (q : Queue) → Well b → e ≤ limit → IsOutstandingAt entry b → EndsBy e (calls_of steps) b
      → Serves entry q steps b → q.offered ≡ true → slice_get q.events 0 ≡ Some event → ReportedBy limit event 0 entry q steps b
  told_by e [] b q well soon out ends serves offered front = tt
  told_by e (Queues other ∷ steps) b q well soon out ends serves offered front =
      told_by e steps b (queued other q) well soon out ends serves offered (queued_after q.events other 0 event front)
  told_by e (Calls call ∷ steps) b q well soon out ends serves offered front = λ under.
      let now = ends entry out in
      let near_end : (after_call call b).greatest ≤ e = now.0 in
      let tells = serves.0 event out offered front in (
        omega arith,
        λ begun. absurd (tells.0 begun),
        λ not unreported.
            by_standing not unreported now.1 tells.1
            (λ still ends_then. told_by e steps (after_call call b) q (well_call call b well) soon still ends_then (serves.2 not) offered front)
            (standing entry (after_call call b)),
      )
    where
      by_standing : (Begins call entry b → ⊥) → (Reports call event 0 entry q b → ⊥)
          → (NoneBegins call b → EndsBy e (calls_of steps) (after_call call b))
          → ((IsOutstandingAt entry (after_call call b) → ⊥) → (after_call call b).devices.report ≡ Some (entry, reports.Event event))
          → (IsOutstandingAt entry (after_call call b) → EndsBy e (calls_of steps) (after_call call b) → ReportedBy limit event 0 entry q steps (after_call call b))
          → (IsOutstandingAt entry (after_call call b)) ⊎ (IsOutstandingAt entry (after_call call b) → ⊥) → ReportedBy limit event 0 entry q steps (after_call call b)
      by_standing not unreported ends_then tells on (inl still) =
          let none : NoneBegins call b = λ k begun.
          (let one = (has_one_exchange (after_call call b) (well_call call b well).sound).one k entry (stands_after call k b begun) still in
          not (subst (λ m. Begins call m b) one begun)) in
          on still (ends_then none)
      by_standing not unreported ends_then tells on (inr ended) =
          absurd (unreported (record { front = refl; offered = offered; outstanding = out; ended = ended; told = tells ended }))

  -- ---- it waits

  abbrev Left : ℕ → ℕ → Queue → List Call → BusState → Type 0
  Left before place q calls b = to_offer_before place q + (waiting_at entry b + accepted_in entry calls b) ≤ before

  -- the steps that follow
  abbrev On : List Step → BusState → Type 0
  On steps b = (before place : ℕ) (q : Queue) → GoesOutBy last before entry (calls_of steps) b → Serves entry q steps b → slice_get q.events place ≡ Some event
      → (q.offered ≡ true → 1 ≤ place) → Left before place q (calls_of steps) b → ReportedBy limit event place entry q steps b

  waits_by : (before place : ℕ) (steps : List Step) (b : BusState) (q : Queue) → Well b → GoesOutBy last before entry (calls_of steps) b
      → TurnsTake time (calls_of steps) b → Serves entry q steps b → slice_get q.events place ≡ Some event → (q.offered ≡ true → 1 ≤ place)
      → Left before place q (calls_of steps) b → ReportedBy limit event place entry q steps b
  waits_by before place [] b q well goes turns serves there not_offered left = tt
  waits_by before place (Queues other ∷ steps) b q well goes turns serves there not_offered left =
      waits_by before place steps b (queued other q) well goes turns serves (queued_after q.events other place event there) not_offered left
  waits_by before place (Calls call ∷ steps) b q well goes turns serves there not_offered left = λ under. (
    within (after_call call b).greatest last (time entry) limit (near last entry call (calls_of steps) b under before goes) fits,
    λ begun.
        begun_by
        (λ m p r goes_then serves_then there_then not_then left_then.
        waits_by m p steps (after_call call b) r (well_call call b well) goes_then turns.1 serves_then there_then not_then left_then)
        under begun (asked_at entry (after_call call b)) refl,
    λ not unreported.
        waits_by before place steps (after_call call b) q (well_call call b well) (still_goes last entry call (calls_of steps) b under before not goes) turns.1
        (serves.2 not) there not_offered
        (still_left (to_offer_before place q) (waiting_at entry b) (waiting_at entry (after_call call b)) (accepts call entry b)
        (accepted_in entry (calls_of steps) (after_call call b)) before (waits_as_accepted entry call b well under not) left),
  )
    where
      there_then : slice_get (released q).events (to_offer_before place q) ≡ Some event
      there_then = released_at q place event there not_offered

      -- an order
      by_order : On steps (after_call call b) → (m : ℕ) → GoesOutBy last m entry (call ∷ calls_of steps) b → Left m place q (call ∷ calls_of steps) b → IsUnderWay entry b → Begins call entry b
          → (command : Command) → asked_at entry (after_call call b) ≡ Some command → Serves entry (taken (Some command) q) steps (after_call call b)
          → ReportedBy limit event (to_offer_before place q) entry (taken (Some command) q) steps (after_call call b)
      by_order on zero goes_on left_on under begun command asks serves_then =
          absurd (no_order_left (to_offer_before place q) (waiting_at entry b) (waiting_at entry (after_call call b)) (accepts call entry b)
          (accepted_in entry (calls_of steps) (after_call call b)) ((begun_takes entry call b under begun).order command asks) left_on)
      by_order on (suc m) goes_on left_on under begun command asks serves_then =
          on m (to_offer_before place q) (taken (Some command) q) ((goes_on under).1 begun) serves_then there_then no_offer
          (order_left (to_offer_before place q) (waiting_at entry b) (waiting_at entry (after_call call b)) (accepts call entry b)
          (accepted_in entry (calls_of steps) (after_call call b)) m ((begun_takes entry call b under begun).order command asks) left_on)
        where
          no_offer : false ≡ true → 1 ≤ to_offer_before place q
          no_offer h = cc

      -- a POLL
      offered_then : is_some (event_for Poll (released q).events) ≡ true
      offered_then = offers (released q).events (to_offer_before place q) event there_then

      front_then : (p : ℕ) → to_offer_before place q ≡ p → slice_get (released q).events p ≡ Some event
      front_then p is = ap (slice_get (released q).events) (sym is) ∙ there_then

      by_poll : On steps (after_call call b) → (m p : ℕ) → GoesOutBy last m entry (call ∷ calls_of steps) b → Left m place q (call ∷ calls_of steps) b → to_offer_before place q ≡ p
          → IsUnderWay entry b → Begins call entry b → Serves entry (taken None q) steps (after_call call b)
          → ReportedBy limit event p entry (taken None q) steps (after_call call b)
      by_poll on m zero goes_on left_on is under begun serves_then =
          told_by ((after_call call b).greatest + time entry) steps (after_call call b) (taken None q) (well_call call b well)
          (answered_within (after_call call b).greatest last (time entry) limit (near last entry call (calls_of steps) b under m goes_on) fits)
          (stands_after call entry b begun) (turns.0 entry begun) serves_then offered_then (front_then zero is)
      by_poll on zero (suc p) goes_on left_on is under begun serves_then =
          absurd (no_poll_left (to_offer_before place q) p (waiting_at entry b + accepted_in entry (call ∷ calls_of steps) b) is left_on)
      by_poll on (suc m) (suc p) goes_on left_on is under begun serves_then =
          on m (suc p) (taken None q) ((goes_on under).1 begun) serves_then (front_then (suc p) is) (λ h. omega arith)
          (poll_left (to_offer_before place q) p (to_offer_before (suc p) (taken None q)) (waiting_at entry b) (waiting_at entry (after_call call b))
          (accepts call entry b) (accepted_in entry (calls_of steps) (after_call call b)) m is (ap (λ t. if t then suc p - 1 else suc p) offered_then)
          (begun_takes entry call b under begun).less left_on)

      begun_by : On steps (after_call call b) → IsUnderWay entry b → Begins call entry b → (asked : Option Command) → asked_at entry (after_call call b) ≡ asked
          → ReportedBy limit event (to_offer_before place q) entry (taken (asked_at entry (after_call call b)) q) steps (after_call call b)
      begun_by on under begun None asks =
          subst (λ (o : Option Command). ReportedBy limit event (to_offer_before place q) entry (taken o q) steps (after_call call b)) (sym asks)
          (by_poll on before (to_offer_before place q) goes left refl under begun
          (subst (λ (o : Option Command). Serves entry (taken o q) steps (after_call call b)) asks (serves.1 begun)))
      begun_by on under begun (Some command) asks =
          subst (λ (o : Option Command). ReportedBy limit event (to_offer_before place q) entry (taken o q) steps (after_call call b)) (sym asks)
          (by_order on before goes left under begun command asks
          (subst (λ (o : Option Command). Serves entry (taken o q) steps (after_call call b)) asks (serves.1 begun)))

-- ---- from any moment on

pub whole : (g all answer : ℕ) → (g + all) + answer ≤ g + (all + answer)
whole g all answer = omega arith

pub cards_are_reported : (b : BusState) → Well b → CardsAreReported b
cards_are_reported b well late time n entry place orders event q steps waits keeps =
    let before = to_offer_before place q + orders in
    let all = (before + 1) * (b.config.poll_interval + turns_of time late n) in
    waits_by time entry (b.greatest + (all + time entry)) (b.greatest + all) event (whole b.greatest all (time entry)) before place steps b q well
    (polls_go_out b well late time n entry before (calls_of steps) waits.under_way keeps.turns) keeps.turns.turns keeps.serves waits.there waits.not_offered
    (few_left (to_offer_before place q) (waiting_at entry b + accepted_in entry (calls_of steps) b) orders keeps.counted)

pub cards_in_time : (b : BusState) → Well b → CardsInTime b
cards_in_time b well late answered n entry place orders event q steps waits keeps =
    subst (λ (t : ℕ). ReportedBy (b.greatest + ((to_offer_before place q + orders + 1) * (b.config.poll_interval + t) + answered)) event place entry q steps b)
    (same_turns answered late n)
    (cards_are_reported b well late (λ k. answered) n entry place orders event q steps waits keeps)
