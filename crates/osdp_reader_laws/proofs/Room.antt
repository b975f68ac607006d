-- No more events wait than there is room for, nor more bytes of them.
use Rattle.osdp_reader_laws.proofs.Common.{◌≡◌, ◌≤◌, ◌+◌, ◌-◌, ◌&&◌, ltb, leb, ℕ, zero, suc, Bool, true, false, cond, List, [], ◌∷◌, ◌++◌, drop, take, length, length-append, length-drop, length-take, arith, leb-true, ltb-true, Event, Queue, bytes_waiting, event_size, has_room, ReaderState, after_lapse_event, after_submit, after_withdraw_event, HasRoom}
use Rattle.osdp_reader_laws.proofs.Outcomes.{IsKeptByEffects}

-- ---- bytes of some of the events

pub bytes_append : (xs ys : List Event) → bytes_waiting (xs ++ ys) ≡ bytes_waiting xs + bytes_waiting ys
bytes_append [] ys = omega arith
bytes_append (x ∷ xs) ys = let rest = bytes_append xs ys in omega (arith, rest)

bytes_drop : (n : ℕ) (xs : List Event) → bytes_waiting (drop n xs) ≤ bytes_waiting xs
bytes_drop zero xs = omega arith
bytes_drop (suc n) [] = omega arith
bytes_drop (suc n) (x ∷ xs) = let rest = bytes_drop n xs in omega (arith, rest)

bytes_others : (xs : List Event) → bytes_waiting (take 1 xs ++ drop 2 xs) ≤ bytes_waiting xs
bytes_others [] = omega arith
bytes_others (x ∷ xs) = let rest = bytes_drop 1 xs in omega (arith, rest)

-- ---- what each call leaves

abbrev Fits : List Event → ℕ → ℕ → Type 0
Fits events capacity room = (length events ≤ capacity) × (bytes_waiting events ≤ room)

fewer : (events : List Event) (capacity room : ℕ) → Fits events capacity room → Fits (drop 1 events) capacity room
fewer events capacity room fits = (omega (arith, fits.0, length-drop 1 events), omega (arith, fits.1, bytes_drop 1 events))

released_room : (offered : Bool) (events : List Event) (capacity room : ℕ) → Fits events capacity room
    → Fits (cond offered (drop 1 events) events) capacity room
released_room true events capacity room fits = fewer events capacity room fits
released_room false events capacity room fits = fits

withdrawn_room : (ever : Bool) (events : List Event) (capacity room : ℕ) → Fits events capacity room
    → Fits (cond ever (take 1 events ++ drop 2 events) (drop 1 events)) capacity room
withdrawn_room true events capacity room fits =
    (omega (arith, fits.0, length-append (take 1 events) (drop 2 events), length-take 1 events, length-drop 2 events), omega (arith, fits.1, bytes_others events))
withdrawn_room false events capacity room fits = fewer events capacity room fits

lapsed_room : (ever : Bool) (q : Queue) → Fits q.events q.capacity q.room
    → let l = cond ever (record { events = drop 1 q.events; capacity = q.capacity; room = q.room; offered = false; ever_offered = false }) q in
    Fits l.events l.capacity l.room
lapsed_room true q fits = fewer q.events q.capacity q.room fits
lapsed_room false q fits = fits

both_true : (a b : Bool) → (a && b) ≡ true → (a ≡ true) × (b ≡ true)
both_true true true e = (cc, cc)
both_true true false e = absurd cc
both_true false b e = absurd cc

one_more : (event : Event) (q : Queue) → has_room event q ≡ true → Fits q.events q.capacity q.room → Fits (q.events ++ event ∷ []) q.capacity q.room
one_more event q free fits =
    let both = both_true (ltb (length q.events) q.capacity) (leb (event_size event) (q.room - bytes_waiting q.events)) free in
    let place = ltb-true (length q.events) q.capacity both.0 in
    let bytes = leb-true (event_size event) (q.room - bytes_waiting q.events) both.1 in
    let sum = bytes_append q.events (event ∷ []) in
    (omega (arith, place, length-append q.events (event ∷ [])), omega (arith, bytes, sum, fits.1))

module _ {H : Type 0} where
  pub withdraw_room : (r : ReaderState H) → HasRoom r → HasRoom (after_withdraw_event r)
  withdraw_room r room = withdrawn_room r.queue.ever_offered r.queue.events r.queue.capacity r.queue.room room

  pub lapse_room : (r : ReaderState H) → HasRoom r → HasRoom (after_lapse_event r)
  lapse_room r room = lapsed_room r.queue.ever_offered r.queue room

  pub submit_room : (r : ReaderState H) (event : Event) → has_room event r.queue ≡ true → HasRoom r → HasRoom (after_submit event r)
  submit_room r event free room = one_more event r.queue free room

  pub keeps_room : IsKeptByEffects (HasRoom {H = H})
  keeps_room = record {
    moved = λ r address within room. room;
    zero = λ r handler room. room;
    next = λ r number back told handler room. released_room r.queue.offered r.queue.events r.queue.capacity r.queue.room room;
  }
