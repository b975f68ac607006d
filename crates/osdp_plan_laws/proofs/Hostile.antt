-- Turns of a hostile line.
use Rattle.osdp_plan_laws.proofs.Common.{◌≡◌, ap, sym, subst, arith, zero, suc, ℕ, ◌+◌, List, [], ◌∷◌, refl, BusState, Well, Plan}
use Rattle.std.specs.Prelude.{◌<◌, replicate}
use Rattle.osdp_bus_laws.proofs.Fairness.{stands_after}
use Rattle.osdp_bus_laws.specs.Calls.{Call, after_call}
use Rattle.osdp_bus_time_laws.proofs.Outstanding.{exchanges_end}
use Rattle.osdp_bus_time_laws.proofs.Turning.{is_there}
use Rattle.osdp_bus_time_laws.specs.Laws.{exchange_of, time_of}
use Rattle.osdp_bus_time_laws.specs.Turns.{EndsBy, HasFew, OutstandingTakes, TurnsTake}
use Rattle.osdp_plan.specs.Plans.{config_of}
use Rattle.osdp_time_laws.specs.Bounds.{longest_exchange}
use Rattle.osdp_plan_laws.specs.Hostile.{HostileTurnsHold}

-- each entry has the same time
time_is : (count time entry : ℕ) → entry < count → time_of (replicate count time) entry ≡ time
time_is zero time entry below = absurd (omega (arith, below))
time_is (suc count) time zero below = refl
time_is (suc count) time (suc entry) below = time_is count time entry (omega (arith, below))

turns_take : (count time : ℕ) (calls : List Call) (b : BusState) → HasFew count calls b → TurnsTake (λ entry. time) calls b
    → TurnsTake (time_of (replicate count time)) calls b
turns_take count time [] b few take = tt
turns_take count time (call ∷ calls) b few take = (
  λ entry begun.
      let out = stands_after call entry b begun in
      subst (λ (t : ℕ). EndsBy ((after_call call b).greatest + t) calls (after_call call b))
      (sym (time_is count time entry (is_there count entry out.device calls (after_call call b) few.1 out.there))) (take.0 entry begun),
  turns_take count time calls (after_call call b) few.1 take.1,
)

outstanding_takes : (count time : ℕ) (calls : List Call) (b : BusState) → HasFew count calls b → OutstandingTakes (λ entry. time) calls b
    → OutstandingTakes (time_of (replicate count time)) calls b
outstanding_takes count time calls b few take entry out =
    subst (λ (t : ℕ). EndsBy (b.greatest + t) calls b) (sym (time_is count time entry (is_there count entry out.device calls b few out.there))) (take entry out)

pub hostile_turns_hold : (p : Plan) (b : BusState) → Well b → HostileTurnsHold p b
hostile_turns_hold p b well calls planned in_time few =
    let ends = exchanges_end b well in
    let time : exchange_of b p.late ≡ longest_exchange (config_of p) p.late = ap (λ c. longest_exchange c p.late) planned.config in
    record {
      in_time = in_time;
      turns = turns_take p.readers (longest_exchange (config_of p) p.late) calls b few (subst (λ (t : ℕ). TurnsTake (λ entry. t) calls b) time (ends.begun p.late calls in_time));
      outstanding = outstanding_takes p.readers (longest_exchange (config_of p) p.late) calls b few
          (subst (λ (t : ℕ). OutstandingTakes (λ entry. t) calls b) time (ends.outstanding p.late calls in_time));
      few = few;
    }
