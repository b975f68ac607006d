-- An event that waits in the queue of a reader, as packets are taken and other events come.
use Rattle.osdp_card_time_laws.proofs.Common.{◌≡◌, ◌∙◌, ap, ℕ, zero, suc, ◌-◌, ◌≤◌, Bool, true, false, List, [], ◌∷◌, ◌++◌, Some, refl, arith, drop, if◌then◌else◌, is_some, slice_get, Poll, Event, Queue, event_for, released, to_offer_before}

-- others come after it
pub queued_after : (events : List Event) (other : Event) (place : ℕ) (event : Event) → slice_get events place ≡ Some event
    → slice_get (events ++ other ∷ []) place ≡ Some event
queued_after [] other place event there = absurd cc
queued_after (x ∷ events) other zero event there = there
queued_after (x ∷ events) other (suc place) event there = queued_after events other place event there

one_less : (place : ℕ) → suc place - 1 ≡ place
one_less place = omega arith

-- an offered front leaves
left_at : (offered : Bool) (events : List Event) (place : ℕ) (event : Event) → slice_get events place ≡ Some event → (offered ≡ true → 1 ≤ place)
    → slice_get (if offered then drop 1 events else events) (if offered then place - 1 else place) ≡ Some event
left_at false events place event there not = there
left_at true [] place event there not = absurd cc
left_at true (x ∷ events) zero event there not = absurd (let some = not refl in omega arith)
left_at true (x ∷ events) (suc place) event there not = ap (slice_get events) (one_less place) ∙ there

pub released_at : (q : Queue) (place : ℕ) (event : Event) → slice_get q.events place ≡ Some event → (q.offered ≡ true → 1 ≤ place)
    → slice_get (released q).events (to_offer_before place q) ≡ Some event
released_at q place event there not = left_at q.offered q.events place event there not

-- a POLL offers the front where some event waits
pub offers : (events : List Event) (place : ℕ) (event : Event) → slice_get events place ≡ Some event → is_some (event_for Poll events) ≡ true
offers [] place event there = absurd cc
offers (x ∷ events) place event there = refl
