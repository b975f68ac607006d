-- While something that has a moment hasn't happened, the clock doesn't pass this moment.
use Rattle.osdp_controller.specs.declared.state.State.{State}
use Rattle.osdp_controller.specs.declared.state.State.TheVariants.{Closed, Quiet, Idle, Waiting, Pausing}
use Rattle.osdp_controller.specs.States.{is_closed}
use Rattle.osdp_time_laws.specs.Laws.{is_quiet}
use Rattle.osdp_time_laws.specs.Orders.{is_under_way}
use Rattle.osdp_plan_laws.proofs.Common.{[], ◌∷◌, ◌≡◌, ℕ, zero, suc, ◌≤◌, List, BusState, after_calls, arith}
use Rattle.std.specs.Prelude.{Bool, true, false, nat_le}
use Rattle.std.proofs.Common.{refl}
use Rattle.std.proofs.lemmas.Bool.{leb-false, leb-true}
use Rattle.osdp_msg.specs.declared.event.Event.{Event}
use Rattle.osdp_bus_laws.specs.Calls.{Call, after_call}
use Rattle.osdp_bus_time_laws.specs.Laws.{GoesOutBy}
use Rattle.osdp_bus_time_laws.specs.Telling.{ToldBy}
use Rattle.osdp_card_time_laws.specs.Beside.{Calls, Queues, Step, asked_at, calls_of, taken}
use Rattle.osdp_card_time_laws.specs.Cards.{ReportedBy, to_offer_before}
use Rattle.osdp_reader.specs.Queue.{Queue, queued}
use Rattle.osdp_plan_laws.specs.Passed.{BeginAtMost, CardsWaitWithin, GoesOn, ReportNot, SilenceLastsWithin, StandingIsUnderWay, TellNoLoss, TurnsWaitWithin}

standing : (state : State) → is_closed state ≡ false → is_quiet state ≡ false → is_under_way state ≡ true
standing Closed stands loud = cc
standing (Quiet until) stands loud = cc
standing (Idle due) stands loud = refl
standing (Waiting until sends o) stands loud = refl
standing (Pausing until o) stands loud = refl

pub standing_is_under_way : (b : BusState) → StandingIsUnderWay b
standing_is_under_way b entry d there stands loud =
    record { device = d; there = there; under_way = standing d.controller.session.state stands loud }

-- whatever happens or not, a moment is within a limit where it is in both cases
either_case : {A : Type 0} (n limit : ℕ) → (A → n ≤ limit) → ((A → ⊥) → n ≤ limit) → n ≤ limit
either_case n limit where_so where_not = by_test (nat_le n limit) refl
  where
    by_test : (test : Bool) → nat_le n limit ≡ test → n ≤ limit
    by_test true is = leb-true n limit is
    by_test false is = let past = leb-false n limit is in absurd (let within = where_not (λ so. let also = where_so so in omega (arith, past, also)) in omega (arith, past, within))

turns_within : (limit before entry : ℕ) (calls : List Call) (b : BusState) → GoesOutBy limit before entry calls b → GoesOn entry calls b
    → BeginAtMost before entry calls b → b.greatest ≤ limit → (after_calls calls b).greatest ≤ limit
turns_within limit before entry [] b goes on few within = within
turns_within limit zero entry (call ∷ calls) b goes on few within =
    let now = goes on.0 in turns_within limit zero entry calls (after_call call b) (now.1 few.0) on.1 few.1 now.0
turns_within limit (suc before) entry (call ∷ calls) b goes on few within =
    let now = goes on.0 in
    either_case (after_calls calls (after_call call b)).greatest limit
    (λ begun. turns_within limit before entry calls (after_call call b) (now.1 begun) on.1 (few.0 begun) now.0)
    (λ none. turns_within limit (suc before) entry calls (after_call call b) (now.2 none) on.1 (few.1 none) now.0)

pub turns_wait_within : (b : BusState) → TurnsWaitWithin b
turns_wait_within b limit before entry calls goes on few within = turns_within limit before entry calls b goes on few within

silence_within : (limit entry : ℕ) (calls : List Call) (b : BusState) → ToldBy limit entry calls b → TellNoLoss entry calls b → b.greatest ≤ limit
    → (after_calls calls b).greatest ≤ limit
silence_within limit entry [] b told none within = within
silence_within limit entry (call ∷ calls) b told none within = silence_within limit entry calls (after_call call b) (told.1 none.0) none.1 told.0

pub silence_lasts_within : (b : BusState) → SilenceLastsWithin b
silence_lasts_within b limit entry calls told none within = silence_within limit entry calls b told none within

cards_within : (limit place entry : ℕ) (event : Event) (q : Queue) (steps : List Step) (b : BusState) → ReportedBy limit event place entry q steps b
    → GoesOn entry (calls_of steps) b → ReportNot event entry steps b → b.greatest ≤ limit → (after_calls (calls_of steps) b).greatest ≤ limit
cards_within limit place entry event q [] b by on none within = within
cards_within limit place entry event q (Queues other ∷ steps) b by on none within =
    cards_within limit place entry event (queued other q) steps b by on none within
cards_within limit place entry event q (Calls call ∷ steps) b by on none within =
    let now = by on.0 in
    either_case (after_calls (calls_of steps) (after_call call b)).greatest limit
    (λ begun.
    cards_within limit (to_offer_before place q) entry event (taken (asked_at entry (after_call call b)) q) steps (after_call call b) (now.1 begun) on.1 none.1 now.0)
    (λ not. cards_within limit place entry event q steps (after_call call b) (now.2 not (λ reports. none.0 reports.told)) on.1 none.1 now.0)

pub cards_wait_within : (b : BusState) → CardsWaitWithin b
cards_wait_within b limit place entry event q steps by on none within = cards_within limit place entry event q steps b by on none within
