-- What is left of a run whose decided items were taken off, and what a framer that holds it takes.
use Rattle.osdp_frame_laws.proofs.Common.{◌≡◌, ℕ, ◌+◌, ◌-◌, ◌<◌, ◌≤◌, ◌==◌, ◌&&◌, not, Bool, true, false, cond, min, List, [], ◌∷◌, ◌++◌, length, drop, None, refl, sym, subst, ap, ◌∙◌, arith, ne_eqb, append-nil, drop-append-le, drop-drop, AreBytes, RunItem, item_size, total_size, Held, decided, later, taken_count, AreBytes-drop, AreBytes-front}
use Rattle.osdp_frame.specs.Items.{items, reading, left_over}
use Rattle.osdp_frame_laws.proofs.Readings.{decided_nothing, items_undecided, items-append, undecided_small, sizes_reading, is_reading}

pub items_nothing : (ended : Bool) → items ended [] ≡ []
items_nothing ended = items_undecided ended [] (decided_nothing ended)

pub total_size-append : (xs ys : List RunItem) → total_size (xs ++ ys) ≡ total_size xs + total_size ys
total_size-append [] ys = omega arith
total_size-append (x ∷ xs) ys = omega (arith, total_size-append xs ys)

-- ---- what is left

pub left_is : (bytes : List ℕ) → drop (total_size (items false bytes)) bytes ≡ left_over bytes
unfolding left_over
left_is bytes = refl

pub left_nothing : left_over [] ≡ []
unfolding left_over
left_nothing = ap (λ parts. drop (total_size parts) []) (items_nothing false)

-- all of it, where nothing is decided
pub left_same : (bytes : List ℕ) → decided false bytes ≡ None → left_over bytes ≡ bytes
unfolding left_over
left_same bytes none = ap (λ parts. drop (total_size parts) bytes) (items_undecided false bytes none)

pub left_bytes : (bytes : List ℕ) → AreBytes bytes → AreBytes (left_over bytes)
unfolding left_over
left_bytes bytes fits = AreBytes-drop (total_size (items false bytes)) bytes fits

-- the reading of a run is what is decided of it, and the reading of what is left
pub reading_split : (bytes : List ℕ) → AreBytes bytes → reading bytes ≡ items false bytes ++ items true (left_over bytes)
reading_split bytes fits =
    ap (items true) (sym (append-nil bytes)) ∙ items-append true bytes [] (subst AreBytes (sym (append-nil bytes)) fits)
    ∙ ap (λ l. items false bytes ++ items true l) (append-nil (left_over bytes))

decided_short : (bytes : List ℕ) → AreBytes bytes → total_size (items false bytes) ≤ length bytes
decided_short bytes fits =
    let all = sizes_reading bytes (reading bytes) (is_reading bytes fits) in
    let parts = ap total_size (reading_split bytes fits) in
    omega (arith, total_size-append (items false bytes) (items true (left_over bytes)))

-- what a whole run leaves is what its last piece leaves, after what the piece before left
pub left_over-append : (xs ys : List ℕ) → AreBytes (xs ++ ys) → left_over (xs ++ ys) ≡ left_over (left_over xs ++ ys)
unfolding left_over
left_over-append xs ys fits =
    let a = total_size (items false xs) in
    let rest = drop a xs in
    let b = total_size (items false (rest ++ ys)) in
    let both : total_size (items false (xs ++ ys)) ≡ a + b =
    ap total_size (items-append false xs ys fits) ∙ total_size-append (items false xs) (items false (rest ++ ys)) in
    ap (λ n. drop n (xs ++ ys)) both ∙ sym (drop-drop b a (xs ++ ys))
    ∙ ap (drop b) (drop-append-le a xs ys (decided_short xs (AreBytes-front xs ys fits)))

-- ---- the end of a run

-- a run of which bytes are held has ended, else nothing of it is left
pub some_ended : (b : ℕ) (bytes : List ℕ) → not (length (b ∷ bytes) == 0) ≡ true
some_ended b bytes = ap not (ne_eqb (length (b ∷ bytes)) 0 (λ h. omega arith))

pub gap_items : (bytes : List ℕ) → items (not (length bytes == 0)) bytes ≡ items true bytes
gap_items [] = items_nothing (not (length {A = ℕ} [] == 0)) ∙ sym (items_nothing true)
gap_items (b ∷ bytes) = ap (λ t. items t (b ∷ bytes)) (some_ended b bytes)

-- ---- what a framer takes

min_some : (a b : ℕ) → 0 < a → 0 < b → 0 < min a b
min_some a b p q = omega arith

-- something, where something comes and nothing that is held is decided
pub takes_some : (held : Held) (given : List ℕ) → held.ended ≡ false → decided false held.bytes ≡ None → 0 < length given
    → 0 < taken_count held given
takes_some held given on undecided some =
    let small = undecided_small held.bytes undecided in
    subst (λ (e : Bool). 0 < cond e 0 (min (length given) (1440 - length held.bytes))) (sym on)
    (min_some (length given) (1440 - length held.bytes) some (omega arith))

pub takes_within : (held : Held) (given : List ℕ) → taken_count held given ≤ length given
takes_within held given = by_ended held.ended
  where
    by_ended : (e : Bool) → cond e 0 (min (length given) (1440 - length held.bytes)) ≤ length given
    by_ended true = omega arith
    by_ended false = omega arith
