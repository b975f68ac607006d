-- The figure of a plan for a card is no less than a card takes.
use Rattle.osdp_card_time_laws.proofs.Common.{subst, ℕ, ◌+◌, ◌*◌, ◌≤◌, List, [], ◌∷◌, length, arith, Event, BusState, after_call, time_of, Well, lines_add_up, Queue, queued, Calls, Queues, Step, asked_at, taken, CardsByFigures, ReportedBy, to_offer_before}
use Rattle.std.proofs.Math.Nat.{mul-le-mul_left}
use Rattle.osdp_time_laws.specs.Lines.{turns_time}
use Rattle.osdp_card_time_laws.proofs.Reported.{cards_are_reported}

-- what is reported by a moment is so by a later one
later : (g limit more : ℕ) → g ≤ limit → limit ≤ more → g ≤ more
later g limit more near less = omega arith

pub reported_later : (limit more : ℕ) → limit ≤ more → (event : Event) (place entry : ℕ) (q : Queue) (steps : List Step) (b : BusState)
    → ReportedBy limit event place entry q steps b → ReportedBy more event place entry q steps b
reported_later limit more less event place entry q [] b by = tt
reported_later limit more less event place entry q (Queues other ∷ steps) b by = reported_later limit more less event place entry (queued other q) steps b by
reported_later limit more less event place entry q (Calls call ∷ steps) b by = λ under.
    let now = by under in (
      later (after_call call b).greatest limit more now.0 less,
      λ begun.
          reported_later limit more less event (to_offer_before place q) entry (taken (asked_at entry (after_call call b)) q) steps (after_call call b)
          (now.1 begun),
      λ not unreported. reported_later limit more less event place entry q steps (after_call call b) (now.2 not unreported),
    )

-- arithmetic on moments alone
with_late : (interval late turns : ℕ) → interval + turns ≤ interval + late + turns
with_late interval late turns = omega arith

answer_after : (g rounds more answer : ℕ) → rounds ≤ more → g + (rounds + answer) ≤ g + (more + answer)
answer_after g rounds more answer less = omega arith

pub cards_by_figures : (b : BusState) → Well b → CardsByFigures b
cards_by_figures b well late entry place orders exchanges event q steps waits keeps =
    let time = time_of exchanges in
    let count = to_offer_before place q + orders + 1 in
    let turns = turns_time late exchanges in
    let interval = b.config.poll_interval in
    reported_later (b.greatest + (count * (interval + turns) + time entry)) (b.greatest + (count * (interval + late + turns) + time entry))
    (answer_after b.greatest (count * (interval + turns)) (count * (interval + late + turns)) (time entry)
    (mul-le-mul_left count (with_late interval late turns)))
    event place entry q steps b
    (subst (λ (t : ℕ). ReportedBy (b.greatest + (count * (interval + t) + time entry)) event place entry q steps b) (lines_add_up late exchanges).all
    (cards_are_reported b well late time (length exchanges) entry place orders event q steps waits keeps))
