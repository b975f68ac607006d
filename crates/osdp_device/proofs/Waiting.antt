-- The moments of the events that wait.
use Rattle.osdp_device.proofs.Common.{◌≡◌, ◌+◌, ◌-◌, ◌<◌, ◌≤◌, ◌&&◌, ltb, leb, ℕ, zero, suc, Bool, true, false, cond, List, [], ◌∷◌, ◌++◌, drop, take, length, map, refl, ap, sym, ◌∙◌, option_map, slice_get, arith, length-append, length-drop, length-take, ltb-true, drop-drop, Event, Queue, bytes_waiting, event_size, has_room, ReaderState, after_withdraw_event}
use Rattle.std.proofs.lemmas.List.{drop-map, drop_all, length-map, map-append}
use Rattle.osdp_device.specs.Ages.{AgesState, after_expiry, after_removal, last_of, waiting_moments}
use Rattle.osdp_device.specs.AgesLaws.{ArrivesWithItsMoment, Came, LeavesWithItsMoment, TellsAge, TellsAges, Waits}

-- no more than so many
whole : (n : ℕ) (xs : List ℕ) → length xs ≤ n → last_of n xs ≡ xs
whole n xs few =
    let none : length xs - n ≡ 0 = omega (arith, few) in
    ap (λ (k : ℕ). drop k xs) none

abbrev event_of : Came → Event
event_of c = c.0

abbrev moment_of : Came → ℕ
moment_of c = c.1

both_lengths : (came : List Came) → length (map moment_of came) ≡ length (map event_of came)
both_lengths came = length-map came moment_of ∙ sym (length-map came event_of)

-- one less of the last ones is the last ones without the first
one_less : (n : ℕ) (xs : List ℕ) → length (last_of n xs) ≡ n → last_of (n - 1) xs ≡ drop 1 (last_of n xs)
one_less zero xs same =
    drop_all (length xs - (zero - 1)) xs (omega arith)
    ∙ sym (ap (drop 1) (drop_all (length xs - zero) xs (omega arith)))
one_less (suc m) xs same =
    let size : length xs - (length xs - suc m) ≡ suc m = sym (length-drop (length xs - suc m) xs) ∙ same in
    let more : length xs - (suc m - 1) ≡ (length xs - suc m) + 1 = omega (arith, size) in
    ap (λ (k : ℕ). drop k xs) more ∙ sym (drop-drop 1 (length xs - suc m) xs)

-- without the first, or without the second
abbrev less : {X : Type 0} → Bool → List X → List X
less second xs = cond second (take 1 xs ++ drop 2 xs) (drop 1 xs)

less-map : {X Y : Type 0} (second : Bool) (f : X → Y) (xs : List X) → less second (map f xs) ≡ map f (less second xs)
less-map true f [] = refl
less-map true f (x ∷ []) = refl
less-map true f (x ∷ y ∷ ys) = refl
less-map false f [] = refl
less-map false f (x ∷ xs) = refl

less_as_long : {X Y : Type 0} (second : Bool) (xs : List X) (ys : List Y) → length xs ≡ length ys → length (less second xs) ≡ length (less second ys)
less_as_long true xs ys same = grind (arith, length-append, length-take, length-drop)
less_as_long false xs ys same = grind (arith, length-drop)

less_is_less : {X : Type 0} (second : Bool) (xs : List X) → length (less second xs) ≤ length xs
less_is_less true xs = grind (arith, length-append, length-take, length-drop)
less_is_less false xs = grind (arith, length-drop)

module _ {H : Type 0} where
  size_is : (came : List Came) (r : ReaderState H) (a : AgesState) → Waits came r a
      → length (waiting_moments (length r.queue.events) a) ≡ length r.queue.events
  size_is came r a w = ap length w.moments ∙ both_lengths came ∙ ap length (sym w.events)

  -- an event left, and its moment with it
  removed : (second : Bool) (came : List Came) (r next : ReaderState H) (a : AgesState) → Waits came r a
      → next.queue.events ≡ less second r.queue.events → next.queue.capacity ≡ r.queue.capacity
      → Waits (less second came) next (after_removal second (length r.queue.events) a)
  removed second came r next a w is room =
      let moments = waiting_moments (length r.queue.events) a in
      let long : length (less second moments) ≡ length next.queue.events =
      less_as_long second moments r.queue.events (size_is came r a w) ∙ ap length (sym is) in
      let shorter : length (less second r.queue.events) ≤ length r.queue.events = less_is_less second r.queue.events in
      let size : length next.queue.events ≡ length (less second r.queue.events) = ap length is in
      let within = w.within in
      record {
        events = is ∙ ap (less second) w.events ∙ less-map second event_of came;
        moments = whole (length next.queue.events) (less second moments) (omega (arith, long)) ∙ ap (less second) w.moments ∙ less-map second moment_of came;
        room = w.room ∙ sym room;
        within = omega (arith, shorter, size, within, room);
      }

  -- the oldest event was released by a packet
  pub released : (came : List Came) (r next : ReaderState H) (a : AgesState) → Waits came r a
      → next.queue.events ≡ drop 1 r.queue.events → next.queue.capacity ≡ r.queue.capacity → Waits (drop 1 came) next a
  released came r next a w is room =
      let size : length next.queue.events ≡ length r.queue.events - 1 = ap length is ∙ length-drop 1 r.queue.events in
      let within = w.within in
      record {
        events = is ∙ ap (drop 1) w.events ∙ drop-map event_of 1 came;
        moments = ap (λ (n : ℕ). waiting_moments n a) size ∙ one_less (length r.queue.events) a.moments (size_is came r a w)
            ∙ ap (drop 1) w.moments ∙ drop-map moment_of 1 came;
        room = w.room ∙ sym room;
        within = omega (arith, size, within, room);
      }

  pub stayed : (came : List Came) (r next : ReaderState H) (a : AgesState) → Waits came r a
      → next.queue.events ≡ r.queue.events → next.queue.capacity ≡ r.queue.capacity → Waits came next a
  stayed came r next a w is room =
      let size : length next.queue.events ≡ length r.queue.events = ap length is in
      let within = w.within in
      record {
        events = is ∙ w.events;
        moments = ap (λ (n : ℕ). waiting_moments n a) size ∙ w.moments;
        room = w.room ∙ sym room;
        within = omega (arith, size, within, room);
      }

  expiry_events : (ever : Bool) (r : ReaderState H)
      → (after_expiry (record r { queue = record r.queue { ever_offered = ever } })).queue.events ≡ drop 1 r.queue.events
  expiry_events true r = refl
  expiry_events false r = refl

  expiry_room : (ever : Bool) (r : ReaderState H)
      → (after_expiry (record r { queue = record r.queue { ever_offered = ever } })).queue.capacity ≡ r.queue.capacity
  expiry_room true r = refl
  expiry_room false r = refl

  tells_age : (came : List Came) (r : ReaderState H) (a : AgesState) → Waits came r a → TellsAge came r a
  tells_age came r a w =
      let age = λ (now : ℕ) (moments : List ℕ). option_map (λ (moment : ℕ). now - moment) (slice_get moments 0) in
      record {
        none = λ is now. ap (age now) (w.moments ∙ ap (map moment_of) is);
        oldest = λ first later is now. ap (age now) (w.moments ∙ ap (map moment_of) is);
      }

first_true : (a b : Bool) → (a && b) ≡ true → a ≡ true
first_true true b e = cc
first_true false b e = absurd cc

has_place : (event : Event) (q : Queue) → has_room event q ≡ true → length q.events < q.capacity
has_place event q fits =
    ltb-true (length q.events) q.capacity (first_true (ltb (length q.events) q.capacity) (leb (event_size event) (q.room - bytes_waiting q.events)) fits)

pub tells_ages : (H : Type 0) → TellsAges H
tells_ages H = tells_age

pub arrives : (H : Type 0) → ArrivesWithItsMoment H
arrives H came r a event now w fits =
    let n = length r.queue.events in
    let all = waiting_moments n a ++ now ∷ [] in
    let size = size_is came r a w in
    let within = w.within in
    let free = has_place event r.queue fits in
    let room = w.room in
    let long : length all ≡ n + 1 = length-append (waiting_moments n a) (now ∷ []) ∙ ap (λ (k : ℕ). k + 1) size in
    let next : length (r.queue.events ++ event ∷ []) ≡ n + 1 = length-append r.queue.events (event ∷ []) in
    record {
      events = ap (λ xs. xs ++ event ∷ []) w.events ∙ sym (map-append event_of came ((event, now) ∷ []));
      moments = ap (last_of (length (r.queue.events ++ event ∷ []))) (whole a.room all (omega (arith, long, within, room, free)))
          ∙ whole (length (r.queue.events ++ event ∷ [])) all (omega (arith, long, next))
          ∙ ap (λ xs. xs ++ now ∷ []) w.moments ∙ sym (map-append moment_of came ((event, now) ∷ []));
      room = room;
      within = omega (arith, next, within, free);
    }

pub leaves : (H : Type 0) → LeavesWithItsMoment H
leaves H came r a w = (
  removed r.queue.ever_offered came r (after_withdraw_event r) a w refl refl,
  removed false came r (after_expiry r) a w (expiry_events r.queue.ever_offered r) (expiry_room r.queue.ever_offered r),
)
