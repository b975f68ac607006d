-- What a call that hears comes to, by what the handle held.
use Rattle.osdp_c.proofs.Common.{◌≡◌, ℕ, Option, Some, None, refl, sym, subst, LineEvent, Status, HeldMonitor, EventEnds, EventEndsIn, number}

pub heard_in : (event : LineEvent) (m m' : HeldMonitor) (ended : Status) (held after : Option HeldMonitor) (answer : ℕ) → Some m ≡ held → EventEnds event m ended m'
    → answer ≡ number ended → after ≡ Some m' → EventEndsIn event held answer after
heard_in event m m' ended held after answer there ends told left =
    subst (λ (h : Option HeldMonitor). EventEndsIn event h answer after) there (ended, m', ends, told, left)
