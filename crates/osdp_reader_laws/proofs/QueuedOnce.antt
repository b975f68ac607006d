-- Lists of events with an event that they have once at most, and what becomes of it in a queue.
use Rattle.std.proofs.Common.{◌≡◌, ◌≢◌, ◌||◌, ℕ, zero, suc, Bool, true, false, cond, List, [], ◌∷◌, ◌++◌, drop, take, Option, Some, None, refl, ap, sym, ◌∙◌, is_some, option_map, slice_get}
use Rattle.osdp_reader_laws.proofs.Common.{Event, event_in, event_reply, Queue, in_doubt, HasNone}
use Rattle.osdp_msg.specs.declared.event.Event.TheVariants as events
use Rattle.osdp_msg.specs.declared.reply.Reply.TheVariants as reply

-- ---- an event and the reply that tells it

pub told_event : (e : Event) → event_in (event_reply e) ≡ Some e
told_event (events.LocalState s) = refl
told_event _ = refl

pub same_some : {A : Type 0} (a b : A) → Some a ≡ Some b → a ≡ b
same_some a b e = cc

pub same_event : (a b : Event) → event_reply a ≡ event_reply b → a ≡ b
same_event a b e = same_some a b (sym (told_event a) ∙ (ap event_in e ∙ told_event b))

pub ack_is_no_event : (e : Event) → Some reply.Ack ≡ Some (event_reply e) → ⊥
ack_is_no_event e is =
    let both : None ≡ Some e = ap event_in (same_some reply.Ack (event_reply e) is) ∙ told_event e in cc

-- ---- lists that have no such event, or have it once at most

abbrev pub once : Event → List Event → Type 0
once e [] = Unit {0}
once e (x ∷ xs) = (x ≡ e → HasNone e xs) × once e xs

pub none_append : (e : Event) (xs ys : List Event) → HasNone e xs → HasNone e ys → HasNone e (xs ++ ys)
none_append e [] ys h k = k
none_append e (x ∷ xs) ys h k = (h.0, none_append e xs ys h.1 k)

pub none_drop : (e : Event) (xs : List Event) → HasNone e xs → HasNone e (drop 1 xs)
none_drop e [] h = tt
none_drop e (x ∷ xs) h = h.1

pub none_rest : (e : Event) (x : Event) (xs : List Event) → HasNone e (drop 1 xs) → x ≢ e → HasNone e (drop 1 (xs ++ x ∷ []))
none_rest e x [] h other = tt
none_rest e x (y ∷ ys) h other = none_append e ys (x ∷ []) h (other, tt)

pub none_there : (e : Event) (xs : List Event) (k : ℕ) → HasNone e xs → slice_get xs k ≡ Some e → ⊥
none_there e [] k h is = absurd cc
none_there e (x ∷ xs) zero h is = h.0 (same_some x e is)
none_there e (x ∷ xs) (suc k) h is = none_there e xs k h.1 is

pub once_none : (e : Event) (xs : List Event) → HasNone e xs → once e xs
once_none e [] h = tt
once_none e (x ∷ xs) h = ((λ is. h.1), once_none e xs h.1)

pub once_drop : (e : Event) (xs : List Event) → once e xs → once e (drop 1 xs)
once_drop e [] h = tt
once_drop e (x ∷ xs) h = h.1

pub once_append : (e : Event) (x : Event) (xs : List Event) → once e xs → x ≢ e → once e (xs ++ x ∷ [])
once_append e x [] h other = ((λ is. tt), tt)
once_append e x (y ∷ ys) h other = ((λ is. none_append e ys (x ∷ []) (h.0 is) (other, tt)), once_append e x ys h.1 other)

pub once_last : (e : Event) (x : Event) (xs : List Event) → HasNone e xs → once e (xs ++ x ∷ [])
once_last e x [] h = ((λ is. tt), tt)
once_last e x (y ∷ ys) h = ((λ is. absurd (h.0 is)), once_last e x ys h.1)

pub none_withdrawn : (e : Event) (xs : List Event) → HasNone e xs → HasNone e (take 1 xs ++ drop 2 xs)
none_withdrawn e [] h = tt
none_withdrawn e (x ∷ []) h = h
none_withdrawn e (x ∷ y ∷ ys) h = (h.0, h.1.1)

pub once_withdrawn : (e : Event) (xs : List Event) → once e xs → once e (take 1 xs ++ drop 2 xs)
once_withdrawn e [] h = tt
once_withdrawn e (x ∷ []) h = h
once_withdrawn e (x ∷ y ∷ ys) h = ((λ is. (h.0 is).1), h.1.1)

pub rest_withdrawn : (e : Event) (xs : List Event) → HasNone e (drop 1 xs) → HasNone e (drop 1 (take 1 xs ++ drop 2 xs))
rest_withdrawn e [] h = tt
rest_withdrawn e (x ∷ []) h = tt
rest_withdrawn e (x ∷ y ∷ ys) h = h.1

-- the front is this event, or the one after it is: it is none of the others
pub gone_front : (e : Event) (xs : List Event) → once e xs → slice_get xs 0 ≡ Some e → HasNone e (drop 1 xs)
gone_front e [] h is = absurd cc
gone_front e (x ∷ xs) h is = h.0 (same_some x e is)

pub gone_second : (e : Event) (xs : List Event) → once e xs → slice_get xs 1 ≡ Some e → HasNone e (take 1 xs ++ drop 2 xs)
gone_second e [] h is = absurd cc
gone_second e (x ∷ []) h is = absurd cc
gone_second e (x ∷ y ∷ ys) h is =
    let same = same_some y e is in
    ((λ front. (h.0 front).0 same), h.1.0 same)

-- ---- the events of a queue that were never offered

abbrev pub fresh : Bool → List Event → List Event
fresh ever xs = cond ever (drop 1 xs) xs

pub by_cond : {X : Type 0} (P : X → Type 0) (test : Bool) (x y : X) → P x → P y → P (cond test x y)
by_cond P true x y h k = h
by_cond P false x y h k = k

pub past_released : (e : Event) (offered ever : Bool) (xs : List Event) → HasNone e (fresh ever xs)
    → HasNone e (fresh (cond offered false ever) (cond offered (drop 1 xs) xs))
past_released e true true xs h = h
past_released e true false xs h = none_drop e xs h
past_released e false ever xs h = h

pub past_offering : (e : Event) (told ever : Bool) (xs : List Event) → HasNone e (fresh ever xs) → HasNone e (fresh (told || ever) xs)
past_offering e true true xs h = h
past_offering e true false xs h = none_drop e xs h
past_offering e false ever xs h = h

pub past_queued : (e x : Event) (ever : Bool) (xs : List Event) → HasNone e (fresh ever xs) → x ≢ e → HasNone e (fresh ever (xs ++ x ∷ []))
past_queued e x true xs h other = none_rest e x xs h other
past_queued e x false xs h other = none_append e xs (x ∷ []) h (other, tt)

pub past_withdrawn : (e : Event) (ever : Bool) (xs : List Event) → HasNone e (fresh ever xs)
    → HasNone e (fresh ever (cond ever (take 1 xs ++ drop 2 xs) (drop 1 xs)))
past_withdrawn e true xs h = rest_withdrawn e xs h
past_withdrawn e false xs h = none_drop e xs h

pub past_lapsed : (e : Event) (q : Queue) (ever : Bool) → HasNone e (fresh ever q.events)
    → let l = cond ever (record { events = drop 1 q.events; capacity = q.capacity; room = q.room; offered = false; ever_offered = false }) (record q { ever_offered = ever }) in
    HasNone e (fresh l.ever_offered l.events)
past_lapsed e q true h = h
past_lapsed e q false h = h

pub past_there : (e : Event) (ever : Bool) (xs : List Event) → HasNone e (fresh ever xs) → slice_get xs (cond ever 1 0) ≡ Some e → ⊥
past_there e true [] h is = absurd cc
past_there e true (x ∷ xs) h is = none_there e xs 0 h is
past_there e false xs h is = none_there e xs 0 h is

pub doubt_past : (e : Event) (ever : Bool) (xs : List Event) (k : ℕ) → HasNone e (fresh ever xs) → slice_get xs k ≡ Some e
    → cond ever (slice_get xs 0) None ≡ Some e
doubt_past e false xs k h is = absurd (none_there e xs k h is)
doubt_past e true [] k h is = absurd cc
doubt_past e true (x ∷ xs) zero h is = is
doubt_past e true (x ∷ xs) (suc k) h is = absurd (none_there e xs k h is)

-- ---- what was ever offered waits

pub never_true : false ≡ true → ⊥
never_true is = cc

pub waits_released : (offered ever : Bool) (xs : List Event) → (ever ≡ true → (event : Event) × (slice_get xs 0 ≡ Some event))
    → cond offered false ever ≡ true → (event : Event) × (slice_get (cond offered (drop 1 xs) xs) 0 ≡ Some event)
waits_released true ever xs h is = absurd cc
waits_released false ever xs h is = h is

pub waits_offering : (front : Option Event) (q : Queue) → slice_get q.events 0 ≡ front
    → (q.ever_offered ≡ true → (event : Event) × (slice_get q.events 0 ≡ Some event))
    → (is_some (option_map event_reply front) || q.ever_offered) ≡ true → (event : Event) × (slice_get q.events 0 ≡ Some event)
waits_offering None q is h ever = h ever
waits_offering (Some x) q is h ever = (x, is)

pub waits_withdrawn : (ever : Bool) (xs : List Event) → (ever ≡ true → (event : Event) × (slice_get xs 0 ≡ Some event))
    → ever ≡ true → (event : Event) × (slice_get (cond ever (take 1 xs ++ drop 2 xs) (drop 1 xs)) 0 ≡ Some event)
waits_withdrawn false xs h is = absurd cc
waits_withdrawn true [] h is = h refl
waits_withdrawn true (x ∷ xs) h is = (x, refl)

pub doubt_released : (e : Event) (offered ever : Bool) (xs : List Event)
    → cond (cond offered false ever) (slice_get (cond offered (drop 1 xs) xs) 0) None ≡ Some e → cond ever (slice_get xs 0) None ≡ Some e
doubt_released e true ever xs is = absurd cc
doubt_released e false ever xs is = is

pub doubt_queued : (e x : Event) (ever : Bool) (xs : List Event) → (ever ≡ true → (event : Event) × (slice_get xs 0 ≡ Some event))
    → cond ever (slice_get (xs ++ x ∷ []) 0) None ≡ Some e → cond ever (slice_get xs 0) None ≡ Some e
doubt_queued e x false xs h is = is
doubt_queued e x true [] h is = let none : None ≡ Some (h refl).0 = (h refl).1 in absurd cc
doubt_queued e x true (y ∷ ys) h is = is

pub doubt_withdrawn : (e : Event) (ever : Bool) (xs : List Event)
    → cond ever (slice_get (cond ever (take 1 xs ++ drop 2 xs) (drop 1 xs)) 0) None ≡ Some e → cond ever (slice_get xs 0) None ≡ Some e
doubt_withdrawn e false xs is = is
doubt_withdrawn e true [] is = is
doubt_withdrawn e true (x ∷ xs) is = is

pub doubt_lapsed : (e : Event) (ever : Bool) (q : Queue)
    → in_doubt (cond ever (record { events = drop 1 q.events; capacity = q.capacity; room = q.room; offered = false; ever_offered = false }) q) ≡ Some e
    → in_doubt q ≡ Some e
doubt_lapsed e true q is = let none : None ≡ Some e = is in absurd cc
doubt_lapsed e false q is = is

-- taken back, it waits no more
pub withdrawn_gone : (e : Event) (ever : Bool) (xs : List Event) → once e xs → slice_get xs (cond ever 1 0) ≡ Some e
    → HasNone e (cond ever (take 1 xs ++ drop 2 xs) (drop 1 xs))
withdrawn_gone e true xs h is = gone_second e xs h is
withdrawn_gone e false xs h is = gone_front e xs h is

pub lapsed_gone : (e : Event) (ever : Bool) (q : Queue) → cond ever (slice_get q.events 0) None ≡ Some e → HasNone e (drop 1 q.events)
    → HasNone e (cond ever (record { events = drop 1 q.events; capacity = q.capacity; room = q.room; offered = false; ever_offered = false }) q).events
lapsed_gone e true q is h = h
lapsed_gone e false q is h = absurd cc
