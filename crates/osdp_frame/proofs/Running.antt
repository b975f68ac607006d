-- Running checks: what a state is gone over, and what they say of the check of a piece.
use Rattle.osdp_frame.proofs.Common.{◌≡◌, ℕ, zero, suc, ◌+◌, ◌-◌, ◌*◌, ◌/◌, ◌%◌, ◌<◌, ◌≤◌, List, [], ◌∷◌, ◌++◌, All, length, take, drop, get_or, slice_range, refl, sym, ap, subst, ◌∙◌, arith, fold, take-add, take-take, get_or_default, get_or-take, get_or-drop, length-take, length-drop, drop-take, drop-drop, sum_from, crc_from, AreBytes, GoesBy, GoesOver, IsRunning}
use Rattle.std.proofs.lemmas.List.Elements.{All-nil, All-cons}
use Rattle.std.proofs.lemmas.List.Sums.{fold-append, sum_by-append}
use Rattle.osdp_check.proofs.Pieces.{crc_from-append}

-- ---- pieces

pub get_or-slice : {C : Type 0} (s : List C) (i j k : ℕ) (d : C) → k < j - i → get_or (slice_range s i j) k d ≡ get_or s (i + k) d
get_or-slice s i j k d h = get_or-take (j - i) (drop i s) k d h ∙ get_or-drop i s k d

pub length-slice : (b : List ℕ) (from to : ℕ) → from ≤ to → to ≤ length b → length (slice_range b from to) ≡ to - from
length-slice b from to order within = omega (arith, length-take (to - from) (drop from b), length-drop from b)

-- a piece of what is the same up to its end is the same
pub slice-same : (a b : List ℕ) (from n : ℕ) → take (from + n) a ≡ take (from + n) b → slice_range a from (from + n) ≡ slice_range b from (from + n)
slice-same a b from n same =
    let count : from + n - from ≡ n = omega arith in
    ap (λ m. take m (drop from a)) count ∙ sym (drop-take from n a) ∙ ap (drop from) same ∙ drop-take from n b
    ∙ ap (λ m. take m (drop from b)) (sym count)

-- a piece of a piece
pub slice-slice : (b : List ℕ) (from to at n : ℕ) → at + n ≤ to - from → slice_range (slice_range b from to) at (at + n) ≡ slice_range b (from + at) (from + at + n)
slice-slice b from to at n h =
    let count : at + n - at ≡ n = omega arith in
    let whole : from + at + n - (from + at) ≡ n = omega arith in
    ap (λ m. take m (drop at (take (to - from) (drop from b)))) count ∙ sym (drop-take at n (take (to - from) (drop from b)))
    ∙ ap (drop at) (take-take (at + n) (to - from) (drop from b) h) ∙ drop-take at n (drop from b)
    ∙ ap (take n) (drop-drop at from b) ∙ ap (λ m. take m (drop (from + at) b)) (sym whole)

-- two pieces that meet
pub slice-join : (b : List ℕ) (from n m : ℕ) → slice_range b from (from + n) ++ slice_range b (from + n) (from + n + m) ≡ slice_range b from (from + n + m)
slice-join b from n m =
    let whole : from + n + m - from ≡ n + m = omega arith in
    let front : n ≡ from + n - from = omega arith in
    let back : m ≡ from + n + m - (from + n) = omega arith in
    sym (ap (λ k. take k (drop from b)) whole ∙ take-add n m (drop from b)
    ∙ (λ i. take (front i) (drop from b) ++ take (back i) (drop-drop n from b i)))

-- ---- a state that goes over bytes one by one

pub goes_on : {C : Type 0} (since : C → List ℕ → C → Type 0) (front middle last : C) (bytes : List ℕ) (b : ℕ)
    → GoesOver since front bytes middle → since middle (b ∷ []) last → GoesOver since front (bytes ++ b ∷ []) last
goes_on since front middle last [] b over next = (last, subst (λ s. since s (b ∷ []) last) over next, refl)
goes_on since front middle last (a ∷ bytes) b over next = (over.0, over.1, goes_on since over.0 middle last bytes b over.2 next)

-- ---- what a state is, gone over bytes

abbrev step : (ℕ → List ℕ → ℕ) → ℕ → ℕ → ℕ
step go state b = go state (b ∷ [])

pub over_is : (go : ℕ → List ℕ → ℕ) (front last : ℕ) (bytes : List ℕ) → GoesOver (GoesBy go) front bytes last → last ≡ fold (step go) front bytes
over_is go front last [] over = over
over_is go front last (b ∷ bytes) over =
    over_is go over.0 last bytes over.2 ∙ ap (λ s. fold (step go) s bytes) over.1

-- what goes on by one byte, and then by more, goes on by them all
abbrev pub Joins : (ℕ → List ℕ → ℕ) → Type 0
Joins go = (front b : ℕ) (bytes : List ℕ) → All (λ n. n < 256) bytes → go (go front (b ∷ [])) bytes ≡ go front (b ∷ bytes)

all_bytes : (bytes : List ℕ) → AreBytes bytes → All (λ n. n < 256) bytes
all_bytes [] h = All-nil (λ n. n < 256)
all_bytes (b ∷ bytes) h = All-cons (λ n. n < 256) b bytes (h 0) (all_bytes bytes (λ k. h (suc k)))

fold_is : (go : ℕ → List ℕ → ℕ) (front : ℕ) (bytes : List ℕ) → Joins go → AreBytes bytes → 0 < length bytes → fold (step go) front bytes ≡ go front bytes
fold_is go front [] join h some = absurd (omega arith)
fold_is go front (b ∷ []) join h some = refl
fold_is go front (b ∷ c ∷ bytes) join h some =
    fold_is go (go front (b ∷ [])) (c ∷ bytes) join (λ k. h (suc k)) (omega arith)
    ∙ join front b (c ∷ bytes) (all_bytes (c ∷ bytes) (λ k. h (suc k)))

pub sum_joins : Joins sum_from
sum_joins front b bytes h = omega (arith, sum_by-append (λ x. x) (b ∷ []) bytes)

pub crc_joins : Joins crc_from
crc_joins front b bytes h = sym (crc_from-append front (b ∷ []) bytes h)

-- ---- the state at a place is the first, gone over the bytes before it

-- of the states that are kept
kept_is : (go : ℕ → List ℕ → ℕ) (states bytes : List ℕ) (from to j : ℕ) → IsRunning (GoesBy go) states bytes from to → from + j ≤ to
    → get_or states (from + j) 0 ≡ fold (step go) (get_or states from 0) (slice_range bytes (16 * from) (16 * from + 16 * j))
kept_is go states bytes from to zero run h =
    let here : from + 0 ≡ from = omega arith in
    let none : 16 * from + 16 * 0 - 16 * from ≡ 0 = omega arith in
    ap (λ n. get_or states n 0) here ∙ sym (ap (λ n. fold (step go) (get_or states from 0) (take n (drop (16 * from) bytes))) none)
kept_is go states bytes from to (suc j) run h =
    let here : from + suc j ≡ from + j + 1 = omega arith in
    let first : 16 * (from + j) ≡ 16 * from + 16 * j = omega arith in
    let next : 16 * (from + j + 1) ≡ 16 * from + 16 * j + 16 = omega arith in
    let last : 16 * from + 16 * j + 16 ≡ 16 * from + 16 * suc j = omega arith in
    let base = 16 * from in
    ap (λ n. get_or states n 0) here
    ∙ over_is go (get_or states (from + j) 0) (get_or states (from + j + 1) 0) (slice_range bytes (16 * (from + j)) (16 * (from + j + 1))) (run (from + j) 0 (omega arith) (omega arith))
    ∙ (λ i. fold (step go) (kept_is go states bytes from to j run (omega arith) i) (slice_range bytes (first i) (next i)))
    ∙ sym (fold-append (step go) (get_or states from 0) (slice_range bytes base (base + 16 * j)) (slice_range bytes (base + 16 * j) (base + 16 * j + 16)))
    ∙ ap (fold (step go) (get_or states from 0)) (slice-join bytes base (16 * j) 16)
    ∙ ap (λ n. fold (step go) (get_or states from 0) (slice_range bytes base n)) last

-- the state before a place, as it is found: the one that is kept before it, gone over the bytes from there
abbrev pub IsStateAt : (ℕ → List ℕ → ℕ) → List ℕ → List ℕ → ℕ → ℕ → Type 0
IsStateAt go states bytes place state = GoesOver (GoesBy go) (get_or states (place / 16) state) (slice_range bytes (place - place % 16) place) state

state_at_is : (go : ℕ → List ℕ → ℕ) (states bytes : List ℕ) (from to place state : ℕ) → IsRunning (GoesBy go) states bytes from to → from ≤ place / 16 → place / 16 ≤ to → to < length states
    → IsStateAt go states bytes place state → state ≡ fold (step go) (get_or states from 0) (slice_range bytes (16 * from) place)
state_at_is go states bytes from to place state run first last room is =
    let base = 16 * from in
    let start = get_or states from 0 in
    let j = place / 16 - from in
    let m = place % 16 in
    let number : place / 16 ≡ from + j = omega arith in
    let begin : place - place % 16 ≡ base + 16 * j = omega arith in
    let end : place ≡ base + 16 * j + m = omega arith in
    over_is go (get_or states (place / 16) state) state (slice_range bytes (place - place % 16) place) is
    ∙ ap (λ s. fold (step go) s (slice_range bytes (place - place % 16) place)) (get_or_default states (place / 16) state 0 (omega arith))
    ∙ (λ i. fold (step go) (get_or states (number i) 0) (slice_range bytes (begin i) (end i)))
    ∙ ap (λ s. fold (step go) s (slice_range bytes (base + 16 * j) (base + 16 * j + m))) (kept_is go states bytes from to j run (omega arith))
    ∙ sym (fold-append (step go) start (slice_range bytes base (base + 16 * j)) (slice_range bytes (base + 16 * j) (base + 16 * j + m)))
    ∙ ap (fold (step go) start) (slice-join bytes base (16 * j) m)
    ∙ ap (λ n. fold (step go) start (slice_range bytes base n)) (sym end)

-- from the state before a piece to the one after it
pub state_since : (go : ℕ → List ℕ → ℕ) (states bytes : List ℕ) (from to count front whole : ℕ) → Joins go → IsRunning (GoesBy go) states bytes (from / 16) (to / 16) → to / 16 < length states
    → AreBytes (slice_range bytes from (from + count)) → length (slice_range bytes from (from + count)) ≡ count → 0 < count → from + count ≤ to
    → IsStateAt go states bytes from front → IsStateAt go states bytes (from + count) whole → whole ≡ go front (slice_range bytes from (from + count))
state_since go states bytes from to count front whole join run room fits size some within first last =
    let base = 16 * (from / 16) in
    let m = from % 16 in
    let piece = slice_range bytes from (from + count) in
    let start = get_or states (from / 16) 0 in
    let begin : from ≡ base + m = omega arith in
    let joined : slice_range bytes base from ++ piece ≡ slice_range bytes base (from + count) =
    subst (λ n. slice_range bytes base n ++ slice_range bytes n (n + count) ≡ slice_range bytes base (n + count)) (sym begin) (slice-join bytes base m count) in
    state_at_is go states bytes (from / 16) (to / 16) (from + count) whole run (omega arith) (omega arith) room last
    ∙ ap (fold (step go) start) (sym joined) ∙ fold-append (step go) start (slice_range bytes base from) piece
    ∙ ap (λ s. fold (step go) s piece) (sym (state_at_is go states bytes (from / 16) (to / 16) from front run (omega arith) (omega arith) room first))
    ∙ fold_is go front piece join fits (omega arith)
