-- Events that leave because they are too old, one after the other.
use Rattle.osdp_line_calls.proofs.Common.{◌≡◌, ◌-◌, ℕ, zero, suc, Bool, true, false, cond, List, [], ◌∷◌, ◌++◌, drop, take, length, Option, Some, None, option_map, slice_get, refl, sym, ap, ◌∙◌, arith, append_assoc, ◌&&◌, drop_all, ReaderState, after_lapse_event, after_withdraw_event, AgesState, after_expiry, after_removal, expired, expired_front, expires, is_offline, is_past, DeviceState, DeviceStatus, LetGo, goes_first, keeps_all, lets_go, lets_some_go, expired_line, expired_lines}
use Rattle.osdp_msg.specs.declared.event.Event.{Event}
use Rattle.osdp_device.specs.declared.events.Expired.{Expired}

abbrev Reader : Type 0
Reader = ReaderState DeviceStatus

-- whether the oldest event leaves, and the reader and the moments after it
abbrev pub leaves : ℕ → ℕ → Reader → AgesState → Bool
leaves now limit r a = expires now limit (length r.queue.events) a

abbrev removed : Reader → AgesState → AgesState
removed r a = after_removal false (length r.queue.events) a

-- the oldest event is gone
pub front_gone : (r : Reader) → (after_expiry r).queue.events ≡ drop 1 r.queue.events
front_gone r = by_ever r.queue.ever_offered refl
  where
    by_ever : (ever : Bool) → r.queue.ever_offered ≡ ever → (cond ever (after_lapse_event r) (after_withdraw_event r)).queue.events ≡ drop 1 r.queue.events
    by_ever true is =
        ap (λ b. (cond b (record { events = drop 1 r.queue.events; capacity = r.queue.capacity; room = r.queue.room; offered = false; ever_offered = false }) r.queue).events) is
    by_ever false is = ap (λ b. cond b (take 1 r.queue.events ++ drop 2 r.queue.events) (drop 1 r.queue.events)) is

-- none leaves where none waits
pub none_here : (now limit : ℕ) (a : AgesState) → expires now limit 0 a ≡ false
none_here now limit a =
    ap (λ (moments : List ℕ). is_offline now a && is_past limit (option_map (λ (moment : ℕ). now - moment) (slice_get moments 0)))
    (drop_all (length a.moments - 0) a.moments (omega arith))
    ∙ and_false (is_offline now a)
  where
    and_false : (x : Bool) → (x && false) ≡ false
    and_false true = refl
    and_false false = refl

-- where nothing is told, none leaves
pub none_left : (now limit : ℕ) (r : Reader) (a : AgesState) → None ≡ cond (leaves now limit r a) (expired_front r.queue) None → leaves now limit r a ≡ false
none_left now limit r a none = by_events r.queue.events refl
  where
    by_test : (test : Bool) (e : Expired) → None ≡ cond test (Some e) None → test ≡ false
    by_test true e is = cc
    by_test false e is = refl

    by_events : (events : List Event) → r.queue.events ≡ events → leaves now limit r a ≡ false
    by_events [] is = ap (λ (xs : List Event). expires now limit (length xs) a) is ∙ none_here now limit a
    by_events (event ∷ later) is =
        by_test (leaves now limit r a) (expired r.queue.ever_offered event)
        (none ∙ ap (λ (xs : List Event). cond (leaves now limit r a) (option_map (expired r.queue.ever_offered) (slice_get xs 0)) None) is)

-- then all stay
all_stay : (n now limit : ℕ) (r : Reader) (a : AgesState) → leaves now limit r a ≡ false → lets_some_go n now limit r a ≡ keeps_all r a
all_stay zero now limit r a stays = refl
all_stay (suc n) now limit r a stays =
    ap (λ b. cond b (goes_first (expired_front r.queue) (lets_some_go n now limit (after_expiry r) (removed r a))) (keeps_all r a)) stays

-- what a call of the device that tells one leaves: that one goes first, and then those that go of the others, which are one less
pub record Goes (now limit : ℕ) (e : Expired) (r q : Reader) (a b : AgesState) : Type 0 where
  pub all : lets_go now limit r a ≡ goes_first (Some e) (lets_go now limit q b)
  pub fewer : length r.queue.events ≡ suc (length q.queue.events)

pub goes : (now limit : ℕ) (e : Expired) (r q : Reader) (a b : AgesState) → Some e ≡ cond (leaves now limit r a) (expired_front r.queue) None
    → q ≡ cond (leaves now limit r a) (after_expiry r) r → b ≡ cond (leaves now limit r a) (removed r a) a → Goes now limit e r q a b
goes now limit e r q a b some reader ages = by_events r.queue.events refl
  where
    leaves_here : (test : Bool) (front : Option Expired) → Some e ≡ cond test front None → test ≡ true
    leaves_here true front is = refl
    leaves_here false front is = cc

    test : leaves now limit r a ≡ true
    test = leaves_here (leaves now limit r a) (expired_front r.queue) some

    front : Some e ≡ expired_front r.queue
    front = some ∙ ap (λ t. cond t (expired_front r.queue) None) test

    q_is : q ≡ after_expiry r
    q_is = reader ∙ ap (λ t. cond t (after_expiry r) r) test

    b_is : b ≡ removed r a
    b_is = ages ∙ ap (λ t. cond t (removed r a) a) test

    q_events : q.queue.events ≡ drop 1 r.queue.events
    q_events = ap (λ (x : Reader). x.queue.events) q_is ∙ front_gone r

    by_events : (events : List Event) → r.queue.events ≡ events → Goes now limit e r q a b
    by_events [] is =
        absurd (let nothing : Some e ≡ None = front ∙ ap (λ (xs : List Event). option_map (expired r.queue.ever_offered) (slice_get xs 0)) is in cc)
    by_events (event ∷ later) is =
        let fewer : length r.queue.events ≡ suc (length q.queue.events) =
        ap length is ∙ ap (λ (xs : List Event). suc (length xs)) (sym (q_events ∙ ap (drop 1) is)) in
        record {
          all = ap (λ n. lets_some_go n now limit r a) fewer
              ∙ ap (λ t. cond t (goes_first (expired_front r.queue) (lets_some_go (length q.queue.events) now limit (after_expiry r) (removed r a))) (keeps_all r a)) test
              ∙ (λ i. goes_first (sym front i) (lets_some_go (length q.queue.events) now limit (sym q_is i) (sym b_is i)));
          fewer = fewer;
        }

-- what a call leaves of a device that changes or stays, part by part
pub reader_of : (test : Bool) (changed same next : DeviceState DeviceStatus) → next ≡ cond test changed same → next.reader ≡ cond test changed.reader same.reader
reader_of true changed same next is = ap (λ d. d.reader) is
reader_of false changed same next is = ap (λ d. d.reader) is

pub ages_of : (test : Bool) (changed same next : DeviceState DeviceStatus) → next ≡ cond test changed same → next.ages ≡ cond test changed.ages same.ages
ages_of true changed same next is = ap (λ d. d.ages) is
ages_of false changed same next is = ap (λ d. d.ages) is

-- a call that changes neither line nor command
pub line_of : (test : Bool) (changed same next : DeviceState DeviceStatus) → changed.line ≡ same.line → next ≡ cond test changed same → next.line ≡ same.line
line_of true changed same next alike is = ap (λ d. d.line) is ∙ alike
line_of false changed same next alike is = ap (λ d. d.line) is

-- where nothing is told, all stay
pub none_goes : (now limit : ℕ) (r : Reader) (a : AgesState) → None ≡ cond (leaves now limit r a) (expired_front r.queue) None → lets_go now limit r a ≡ keeps_all r a
none_goes now limit r a none = all_stay (length r.queue.events) now limit r a (none_left now limit r a none)

-- the event was written
pub wrote_one : (text next start : List ℕ) (e : Expired) (later all : LetGo) → next ≡ text ++ expired_line e → all ≡ goes_first (Some e) later
    → text ++ expired_lines all.expired ≡ start → next ++ expired_lines later.expired ≡ start
wrote_one text next start e later all writes is so_far =
    ap (λ t. t ++ expired_lines later.expired) writes ∙ append_assoc text (expired_line e) (expired_lines later.expired)
    ∙ sym (ap (λ (g : LetGo). text ++ expired_lines g.expired) is) ∙ so_far
