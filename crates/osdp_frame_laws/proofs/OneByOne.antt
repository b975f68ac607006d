-- Items taken off one by one.
use Rattle.osdp_frame_laws.proofs.Common.{◌≡◌, ℕ, zero, suc, ◌<◌, ◌≤◌, ◌==◌, ◌&&◌, not, Bool, true, false, List, [], ◌∷◌, length, drop, Option, Some, None, refl, sym, ap, ◌∙◌, arith, option_map_or, length-drop, ne_eqb, Held, after_advance, later, after_first, decided, RunItem, item_size}
use Rattle.osdp_frame.specs.Items.{items, items_within}
use Rattle.osdp_frame_laws.proofs.Readings.{item_size-positive, decided_nothing, items_undecided}

-- a byte or more goes with an item
some_goes : (n : ℕ) (bytes : List ℕ) (part : RunItem) → length bytes ≤ suc n → length (drop (item_size part) bytes) ≤ n
some_goes n bytes part h = let some = item_size-positive part in omega (arith, length-drop (item_size part) bytes)

nothing_within : (most : ℕ) (ended : Bool) (bytes : List ℕ) → length bytes ≤ 0 → items_within most ended bytes ≡ []
nothing_within zero ended bytes h = refl
nothing_within (suc most) ended [] h =
    ap (λ o. option_map_or (λ part. part ∷ items_within most ended (drop (item_size part) [])) o []) (decided_nothing ended)
nothing_within (suc most) ended (b ∷ bytes) h = absurd (omega arith)

within_same : (n m : ℕ) (ended : Bool) (bytes : List ℕ) → length bytes ≤ n → length bytes ≤ m → items_within n ended bytes ≡ items_within m ended bytes
within_same zero m ended bytes a b = sym (nothing_within m ended bytes a)
within_same (suc n) zero ended bytes a b = nothing_within (suc n) ended bytes b
within_same (suc n) (suc m) ended bytes a b =
    by_answer (decided ended bytes) (λ part. within_same n m ended (drop (item_size part) bytes) (some_goes n bytes part a) (some_goes m bytes part b))
  where
    with : ℕ → Option RunItem → List RunItem
    with k o = option_map_or (λ part. part ∷ items_within k ended (drop (item_size part) bytes)) o []

    by_answer : (o : Option RunItem)
        → ((part : RunItem) → items_within n ended (drop (item_size part) bytes) ≡ items_within m ended (drop (item_size part) bytes))
        → with n o ≡ with m o
    by_answer None same = refl
    by_answer (Some part) same = ap (λ l. part ∷ l) (same part)

pub items_after : (ended : Bool) (bytes : List ℕ) (part : RunItem) → decided ended bytes ≡ Some part → items ended bytes ≡ part ∷ items ended (drop (item_size part) bytes)
unfolding items
items_after ended [] part is = absurd (let e = sym (decided_nothing ended) ∙ is in cc)
items_after ended (b ∷ bytes) part is =
    ap (λ o. option_map_or (λ x. x ∷ items_within (length bytes) ended (drop (item_size x) (b ∷ bytes))) o []) is
    ∙ ap (λ l. part ∷ l) (within_same (length bytes) (length (drop (item_size part) (b ∷ bytes))) ended (drop (item_size part) (b ∷ bytes)) (some_goes (length bytes) (b ∷ bytes) part (omega arith)) (omega arith))

-- of a run that has ended nothing but its end is left where no byte is
pub still_ended : (ended : Bool) (rest : List ℕ) → items (ended && not (length rest == 0)) rest ≡ items ended rest
still_ended ended [] = items_undecided (ended && false) [] (decided_nothing (ended && false)) ∙ sym (items_undecided ended [] (decided_nothing ended))
still_ended true (b ∷ rest) = ap (λ t. items (true && not t) (b ∷ rest)) (ne_eqb (length (b ∷ rest)) 0 (λ h. omega arith))
still_ended false (b ∷ rest) = refl

-- fewer bytes are held after it
pub fewer_held : (held next : Held) (part : RunItem) → decided held.ended held.bytes ≡ Some part → next ≡ after_advance held → length next.bytes < length held.bytes
fewer_held held next part is advanced =
    let here : next ≡ later held part = advanced ∙ ap (after_first held) is in
    let bytes_are : length next.bytes ≡ length (drop (item_size part) held.bytes) = ap (λ (h : Held). length h.bytes) here in
    let some = item_size-positive part in
    let any = some_held held.ended held.bytes part is in
    omega (arith, length-drop (item_size part) held.bytes)
  where
    some_held : (ended : Bool) (bytes : List ℕ) (first : RunItem) → decided ended bytes ≡ Some first → 0 < length bytes
    some_held ended [] first e = absurd (let f = sym (decided_nothing ended) ∙ e in cc)
    some_held ended (b ∷ bytes) first e = omega arith

-- the first item is taken off
pub items_on : (held : Held) (part : RunItem) → decided held.ended held.bytes ≡ Some part
    → items held.ended held.bytes ≡ part ∷ items (after_advance held).ended (after_advance held).bytes
items_on held part is =
    let next = later held part in
    items_after held.ended held.bytes part is
    ∙ ap (λ parts. part ∷ parts) (sym (still_ended held.ended (drop (item_size part) held.bytes)))
    ∙ ap (λ o. part ∷ items (after_first held o).ended (after_first held o).bytes) (sym is)
