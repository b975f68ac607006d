-- A card among orders, where a POLL stands between any two of them.
use Rattle.osdp_card_time_laws.proofs.Common.{◌≡◌, ◌∙◌, ap, sym, subst, ℕ, zero, suc, ◌+◌, ◌-◌, ◌*◌, ◌≤◌, Bool, true, false, List, [], ◌∷◌, Option, Some, None, refl, arith, if◌then◌else◌, is_none, is_some, slice_get, Command, Poll, Event, BusState, after_call, Begins, stands_after, GoesOutBy, IsUnderWay, TurnsTake, turns_of, Well, well_call, polls_go_out, Queue, event_for, queued, released, Calls, Queues, Serves, Step, asked_at, calls_of, taken, ReportedBy, to_offer_before}
use Rattle.osdp_card_time_laws.specs.Among.{CardsAmongOrders, PollsBetween}
use Rattle.osdp_card_time_laws.proofs.Queues.{offers, queued_after, released_at}
use Rattle.osdp_card_time_laws.proofs.Reported.{answered_within, near, still_goes, told_by, whole, within}

-- arithmetic on counts alone
order_between : (place before : ℕ) → 2 * place + 1 ≤ suc before → 2 * place + 0 ≤ before
order_between place before left = omega arith

no_order_between : (place : ℕ) → 2 * place + 1 ≤ 0 → ⊥
no_order_between place left = omega arith

poll_between : (place p after may before : ℕ) → place ≡ suc p → after ≡ suc p - 1 → 2 * place + may ≤ suc before → 2 * after + 1 ≤ before
poll_between place p after may before is one left = omega arith

no_poll_between : (place p may : ℕ) → place ≡ suc p → 2 * place + may ≤ 0 → ⊥
no_poll_between place p may is left = omega arith

at_once : (count : ℕ) → count ≤ count
at_once count = omega arith

abbrev one_if : Bool → ℕ
one_if may = if may then 1 else 0

module _ (time : ℕ → ℕ) (entry limit last : ℕ) (event : Event) (fits : last + time entry ≤ limit) where
  -- the steps that follow
  abbrev On : List Step → BusState → Type 0
  On steps b = (before place : ℕ) (may : Bool) (q : Queue) → GoesOutBy last before entry (calls_of steps) b → Serves entry q steps b
      → PollsBetween may entry (calls_of steps) b → slice_get q.events place ≡ Some event → (q.offered ≡ true → 1 ≤ place)
      → 2 * to_offer_before place q + one_if may ≤ before → ReportedBy limit event place entry q steps b

  among : (before place : ℕ) (may : Bool) (steps : List Step) (b : BusState) (q : Queue) → Well b → GoesOutBy last before entry (calls_of steps) b
      → TurnsTake time (calls_of steps) b → Serves entry q steps b → PollsBetween may entry (calls_of steps) b → slice_get q.events place ≡ Some event
      → (q.offered ≡ true → 1 ≤ place) → 2 * to_offer_before place q + one_if may ≤ before → ReportedBy limit event place entry q steps b
  among before place may [] b q well goes turns serves between there not_offered left = tt
  among before place may (Queues other ∷ steps) b q well goes turns serves between there not_offered left =
      among before place may steps b (queued other q) well goes turns serves between (queued_after q.events other place event there) not_offered left
  among before place may (Calls call ∷ steps) b q well goes turns serves between there not_offered left = λ under. (
    within (after_call call b).greatest last (time entry) limit (near last entry call (calls_of steps) b under before goes) fits,
    λ begun.
        begun_by
        (λ m p k r goes_then serves_then between_then there_then not_then left_then.
        among m p k steps (after_call call b) r (well_call call b well) goes_then turns.1 serves_then between_then there_then not_then left_then)
        under begun (asked_at entry (after_call call b)) refl,
    λ not unreported.
        among before place may steps (after_call call b) q (well_call call b well) (still_goes last entry call (calls_of steps) b under before not goes) turns.1
        (serves.2 not) (between.1 not) there not_offered left,
  )
    where
      there_then : slice_get (released q).events (to_offer_before place q) ≡ Some event
      there_then = released_at q place event there not_offered

      -- an order
      by_order : On steps (after_call call b) → (m : ℕ) (k : Bool) → GoesOutBy last m entry (call ∷ calls_of steps) b
          → 2 * to_offer_before place q + one_if k ≤ m → k ≡ true → IsUnderWay entry b → Begins call entry b → (command : Command)
          → Serves entry (taken (Some command) q) steps (after_call call b) → PollsBetween false entry (calls_of steps) (after_call call b)
          → ReportedBy limit event (to_offer_before place q) entry (taken (Some command) q) steps (after_call call b)
      by_order on m false goes_on left_on may_be under begun command serves_then between_then = cc
      by_order on zero true goes_on left_on may_be under begun command serves_then between_then = absurd (no_order_between (to_offer_before place q) left_on)
      by_order on (suc m) true goes_on left_on may_be under begun command serves_then between_then =
          on m (to_offer_before place q) false (taken (Some command) q) ((goes_on under).1 begun) serves_then between_then there_then no_offer
          (order_between (to_offer_before place q) m left_on)
        where
          no_offer : false ≡ true → 1 ≤ to_offer_before place q
          no_offer h = cc

      -- a POLL
      offered_then : is_some (event_for Poll (released q).events) ≡ true
      offered_then = offers (released q).events (to_offer_before place q) event there_then

      front_then : (p : ℕ) → to_offer_before place q ≡ p → slice_get (released q).events p ≡ Some event
      front_then p is = ap (slice_get (released q).events) (sym is) ∙ there_then

      by_poll : On steps (after_call call b) → (m p : ℕ) → GoesOutBy last m entry (call ∷ calls_of steps) b → 2 * to_offer_before place q + one_if may ≤ m
          → to_offer_before place q ≡ p → IsUnderWay entry b → Begins call entry b → Serves entry (taken None q) steps (after_call call b)
          → PollsBetween true entry (calls_of steps) (after_call call b) → ReportedBy limit event p entry (taken None q) steps (after_call call b)
      by_poll on m zero goes_on left_on is under begun serves_then between_then =
          told_by time entry limit last event fits ((after_call call b).greatest + time entry) steps (after_call call b) (taken None q) (well_call call b well)
          (answered_within (after_call call b).greatest last (time entry) limit (near last entry call (calls_of steps) b under m goes_on) fits)
          (stands_after call entry b begun) (turns.0 entry begun) serves_then offered_then (front_then zero is)
      by_poll on zero (suc p) goes_on left_on is under begun serves_then between_then =
          absurd (no_poll_between (to_offer_before place q) p (one_if may) is left_on)
      by_poll on (suc m) (suc p) goes_on left_on is under begun serves_then between_then =
          on m (suc p) true (taken None q) ((goes_on under).1 begun) serves_then between_then (front_then (suc p) is) (λ h. omega arith)
          (poll_between (to_offer_before place q) p (to_offer_before (suc p) (taken None q)) (one_if may) m is (ap (λ t. if t then suc p - 1 else suc p) offered_then)
          left_on)

      begun_by : On steps (after_call call b) → IsUnderWay entry b → Begins call entry b → (asked : Option Command) → asked_at entry (after_call call b) ≡ asked
          → ReportedBy limit event (to_offer_before place q) entry (taken (asked_at entry (after_call call b)) q) steps (after_call call b)
      begun_by on under begun None asks =
          subst (λ (o : Option Command). ReportedBy limit event (to_offer_before place q) entry (taken o q) steps (after_call call b)) (sym asks)
          (by_poll on before (to_offer_before place q) goes left refl under begun
          (subst (λ (o : Option Command). Serves entry (taken o q) steps (after_call call b)) asks (serves.1 begun))
          (subst (λ (o : Option Command). PollsBetween (is_none o) entry (calls_of steps) (after_call call b)) asks (between.0 begun).1))
      begun_by on under begun (Some command) asks =
          subst (λ (o : Option Command). ReportedBy limit event (to_offer_before place q) entry (taken o q) steps (after_call call b)) (sym asks)
          (by_order on before may goes left ((between.0 begun).0 command asks) under begun command
          (subst (λ (o : Option Command). Serves entry (taken o q) steps (after_call call b)) asks (serves.1 begun))
          (subst (λ (o : Option Command). PollsBetween (is_none o) entry (calls_of steps) (after_call call b)) asks (between.0 begun).1))

pub cards_among_orders : (b : BusState) → Well b → CardsAmongOrders b
cards_among_orders b well late time n entry place may event q steps waits keeps =
    let before = 2 * to_offer_before place q + one_if may in
    let all = (before + 1) * (b.config.poll_interval + turns_of time late n) in
    among time entry (b.greatest + (all + time entry)) (b.greatest + all) event (whole b.greatest all (time entry)) before place may steps b q well
    (polls_go_out b well late time n entry before (calls_of steps) waits.under_way keeps.turns) keeps.turns.turns keeps.serves keeps.between waits.there
    waits.not_offered (at_once before)
