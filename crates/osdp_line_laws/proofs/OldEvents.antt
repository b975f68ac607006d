-- Events that are too old leave, and they are the oldest.
use Rattle.osdp_line_laws.proofs.Common.{◌≡◌, ◌∙◌, ap, sym, refl, ℕ, zero, suc, ◌≤◌, Bool, true, false, cond, Option, Some, option_map, slice_get, List, [], ◌∷◌, ◌++◌, drop, length, map, max, arith, AgesState, after_expiry, after_removal, expired, expired_front, expires, Expired, DeviceStatus, ReaderState, LetGo, goes_first, keeps_all, lets_some_go}
use Rattle.osdp_msg.specs.declared.event.Event.{Event}
use Rattle.osdp_line_calls.proofs.LettingGo.{front_gone, none_here}
use Rattle.osdp_line_laws.specs.OldEvents.{OldEventsAlwaysLeave, event_of}

abbrev Reader : Type 0
Reader = ReaderState DeviceStatus

event_told : (ever : Bool) (event : Event) → event_of (expired ever event) ≡ event
event_told true event = refl
event_told false event = refl

-- of so many events at most, where no more wait
record Left (n now limit : ℕ) (r : Reader) (a : AgesState) : Type 0 where
  none : let g = lets_some_go n now limit r a in expires now limit (length g.reader.queue.events) g.ages ≡ false
  oldest : let g = lets_some_go n now limit r a in r.queue.events ≡ map event_of g.expired ++ g.reader.queue.events

left_none : (now limit : ℕ) (r : Reader) (a : AgesState) → length r.queue.events ≤ 0 → Left 0 now limit r a
left_none now limit r a few =
    let none_wait : length r.queue.events ≡ 0 = omega (arith, few) in
    record { none = ap (λ m. expires now limit m a) none_wait ∙ none_here now limit a; oldest = refl }

-- one leaves, and one less waits
one_less : (n : ℕ) (r : Reader) → length r.queue.events ≤ suc n → length (after_expiry r).queue.events ≤ n
one_less n r few = by_events r.queue.events refl
  where
    by_events : (events : List Event) → r.queue.events ≡ events → length (after_expiry r).queue.events ≤ n
    by_events [] is = let e = ap length (front_gone r) ∙ ap (λ (xs : List Event). length (drop 1 xs)) is in omega (arith, e)
    by_events (event ∷ later) is =
        let e = ap length (front_gone r) ∙ ap (λ (xs : List Event). length (drop 1 xs)) is in omega (arith, e, few, ap length is)

abbrev later_ages : Reader → AgesState → AgesState
later_ages r a = after_removal false (length r.queue.events) a

left_more : (n now limit : ℕ) (r : Reader) (a : AgesState) → Left n now limit (after_expiry r) (later_ages r a) → Left (suc n) now limit r a
left_more n now limit r a more = record {
  none = none_by (expires now limit (length r.queue.events) a) refl r.queue.events refl;
  oldest = oldest_by (expires now limit (length r.queue.events) a) refl r.queue.events refl;
}
  where
    rest : LetGo
    rest = lets_some_go n now limit (after_expiry r) (later_ages r a)

    whole : Bool → Option Expired → LetGo
    whole test front = cond test (goes_first front rest) (keeps_all r a)

    none_wait : r.queue.events ≡ [] → expires now limit (length r.queue.events) a ≡ false
    none_wait is = ap (λ (xs : List Event). expires now limit (length xs) a) is ∙ none_here now limit a

    front : (event : Event) (later : List Event) → r.queue.events ≡ event ∷ later → expired_front r.queue ≡ Some (expired r.queue.ever_offered event)
    front event later is = ap (λ (xs : List Event). option_map (expired r.queue.ever_offered) (slice_get xs 0)) is

    none_by : (test : Bool) → expires now limit (length r.queue.events) a ≡ test → (events : List Event) → r.queue.events ≡ events
        → let g = whole test (expired_front r.queue) in expires now limit (length g.reader.queue.events) g.ages ≡ false
    none_by false is events waits = is
    none_by true is [] waits = absurd (let e = sym is ∙ none_wait waits in cc)
    none_by true is (event ∷ later) waits =
        ap (λ (f : Option Expired). expires now limit (length (whole true f).reader.queue.events) (whole true f).ages) (front event later waits) ∙ more.none

    oldest_by : (test : Bool) → expires now limit (length r.queue.events) a ≡ test → (events : List Event) → r.queue.events ≡ events
        → let g = whole test (expired_front r.queue) in r.queue.events ≡ map event_of g.expired ++ g.reader.queue.events
    oldest_by false is events waits = refl
    oldest_by true is [] waits = absurd (let e = sym is ∙ none_wait waits in cc)
    oldest_by true is (event ∷ later) waits =
        let told : ◌≡◌ {A = List Event} later (map event_of rest.expired ++ rest.reader.queue.events) =
        sym (front_gone r ∙ ap (drop 1) waits) ∙ more.oldest in
        waits ∙ (λ i. sym (event_told r.queue.ever_offered event) i ∷ told i)
        ∙ sym (ap (λ (f : Option Expired). map event_of (whole true f).expired ++ (whole true f).reader.queue.events) (front event later waits))

left : (n now limit : ℕ) (r : Reader) (a : AgesState) → length r.queue.events ≤ n → Left n now limit r a
left zero now limit r a few = left_none now limit r a few
left (suc n) now limit r a few = left_more n now limit r a (left n now limit (after_expiry r) (later_ages r a) (one_less n r few))

pub old_events_leave : OldEventsAlwaysLeave
old_events_leave later s =
    let l = left (length s.reader.queue.events) (max s.now later) s.absence.expire s.reader s.ages (omega arith) in
    record { none = l.none; oldest = l.oldest }
