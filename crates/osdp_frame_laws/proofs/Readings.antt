-- Each run has one reading, and it can be read in pieces.
use Rattle.osdp_frame_laws.proofs.Common.{◌≡◌, ℕ, zero, suc, ◌+◌, ◌<◌, ◌≤◌, Bool, true, false, List, [], ◌∷◌, ◌++◌, length, drop, Option, Some, None, refl, sym, ap, subst, ◌∙◌, arith, inl, inr, length-drop, append-nil, drop-append-le, drop-drop, option_map_or, AreBytes, RunItem, PacketItem, SkippedItem, RefusedItem, item_size, total_size, Stands, IsReading, IsFirst, Tells-Begins, AreBytes-drop, AreBytes-front, decided_more, undecided_ended, one_item, first_decided, decided_first, undecided_none, none_undecided, stands_first, WantsMore}
use Rattle.osdp_frame.specs.Held.{decided}
use Rattle.osdp_frame.specs.Items.{items, items_within, reading, left_over, Drains}

pub item_size-positive : (part : RunItem) → 0 < item_size part
item_size-positive (PacketItem p) = omega arith
item_size-positive (SkippedItem b) = omega arith
item_size-positive (RefusedItem f) = omega arith

pub item_size-Stands : (rest : List ℕ) (part : RunItem) → Stands rest part → item_size part ≤ length rest
item_size-Stands rest (PacketItem p) s = (Tells-Begins p rest s).long
item_size-Stands rest (SkippedItem b) s = omega (arith, ap length s.1)
item_size-Stands rest (RefusedItem f) s = omega (arith, ap length s.1)

pub item_size-decided : (ended : Bool) (bytes : List ℕ) (part : RunItem) → AreBytes bytes → decided ended bytes ≡ Some part → item_size part ≤ length bytes
item_size-decided ended bytes part fits e = item_size-Stands bytes part (stands_first ended bytes part (first_decided ended bytes part fits e))

-- in a run that has ended, what stands there is first
pub first_stands : (bytes : List ℕ) (part : RunItem) → Stands bytes part → IsFirst true bytes part
first_stands bytes part s = λ more none. subst (λ l. Stands l part) (sym (ap (λ l. bytes ++ l) (none refl) ∙ append-nil bytes)) s

pub decided_nothing : (ended : Bool) → decided ended [] ≡ None
unfolding decided
decided_nothing ended = refl

-- ---- one reading

pub one_reading : (rest : List ℕ) (xs ys : List RunItem) → IsReading rest xs → IsReading rest ys → xs ≡ ys
one_reading rest [] [] r s = refl
one_reading rest [] (y ∷ ys) r s =
    absurd (let short = item_size-Stands rest y s.0 in let some = item_size-positive y in omega (arith, ap length r))
one_reading rest (x ∷ xs) [] r s =
    absurd (let short = item_size-Stands rest x r.0 in let some = item_size-positive x in omega (arith, ap length s))
one_reading rest (x ∷ xs) (y ∷ ys) r s =
    let same : x ≡ y = one_item rest x y r.0 s.0 in
    let tail : xs ≡ ys = one_reading (drop (item_size y) rest) xs ys (subst (λ p. IsReading (drop (item_size p) rest) xs) same r.1) s.1 in
    (λ i. same i ∷ tail i)

pub sizes_reading : (rest : List ℕ) (parts : List RunItem) → IsReading rest parts → total_size parts ≡ length rest
sizes_reading rest [] r = sym (ap length r)
sizes_reading rest (part ∷ parts) r =
    let tail = sizes_reading (drop (item_size part) rest) parts r.1 in
    let short = item_size-Stands rest part r.0 in
    omega (arith, length-drop (item_size part) rest)

-- a reading goes on by the rest alone
pub reading_after : (rest : List ℕ) (front back : List RunItem) → IsReading rest (front ++ back) → IsReading (drop (total_size front) rest) back
reading_after rest [] back r = r
reading_after rest (part ∷ front) back r =
    subst (λ l. IsReading l back) (drop-drop (total_size front) (item_size part) rest) (reading_after (drop (item_size part) rest) front back r.1)

-- ---- items by a bound on their number

nil_of : (bytes : List ℕ) → length bytes ≤ 0 → bytes ≡ []
nil_of [] h = refl
nil_of (b ∷ bytes) h = absurd (omega arith)

items_within-nil : (most : ℕ) (ended : Bool) → items_within most ended [] ≡ []
items_within-nil zero ended = refl
items_within-nil (suc most) ended = ap (λ o. option_map_or (λ part. part ∷ items_within most ended (drop (item_size part) [])) o []) (decided_nothing ended)

items_within_step : (n m : ℕ) (ended : Bool) (bytes : List ℕ) → AreBytes bytes → length bytes ≤ suc n → length bytes ≤ suc m
    → ((rest : List ℕ) → AreBytes rest → length rest ≤ n → length rest ≤ m → items_within n ended rest ≡ items_within m ended rest)
    → items_within (suc n) ended bytes ≡ items_within (suc m) ended bytes
items_within_step n m ended bytes fits a b tails = by_answer (decided ended bytes) refl
  where
    with : ℕ → Option RunItem → List RunItem
    with k o = option_map_or (λ part. part ∷ items_within k ended (drop (item_size part) bytes)) o []

    by_answer : (o : Option RunItem) → decided ended bytes ≡ o → with n (decided ended bytes) ≡ with m (decided ended bytes)
    by_answer None is = ap (with n) is ∙ sym (ap (with m) is)
    by_answer (Some part) is =
        let short = item_size-decided ended bytes part fits is in
        let some = item_size-positive part in
        let size = length-drop (item_size part) bytes in
        let tail : items_within n ended (drop (item_size part) bytes) ≡ items_within m ended (drop (item_size part) bytes) =
        tails (drop (item_size part) bytes) (AreBytes-drop (item_size part) bytes fits) (omega arith) (omega arith) in
        ap (with n) is ∙ ap (λ l. part ∷ l) tail ∙ sym (ap (with m) is)

pub items_within-same : (n m : ℕ) (ended : Bool) (bytes : List ℕ) → AreBytes bytes → length bytes ≤ n → length bytes ≤ m → items_within n ended bytes ≡ items_within m ended bytes
items_within-same zero m ended bytes fits a b =
    let nil = nil_of bytes a in
    ap (items_within zero ended) nil ∙ sym (items_within-nil m ended) ∙ ap (items_within m ended) (sym nil)
items_within-same (suc n) zero ended bytes fits a b =
    let nil = nil_of bytes b in
    ap (items_within (suc n) ended) nil ∙ items_within-nil (suc n) ended
items_within-same (suc n) (suc m) ended bytes fits a b =
    items_within_step n m ended bytes fits a b (λ rest fit x y. items_within-same n m ended rest fit x y)

-- ---- items, one by one

pub items_undecided : (ended : Bool) (bytes : List ℕ) → decided ended bytes ≡ None → items ended bytes ≡ []
unfolding items
items_undecided ended bytes is = by_length (length bytes)
  where
    by_length : (n : ℕ) → items_within n ended bytes ≡ []
    by_length zero = refl
    by_length (suc n) = ap (λ o. option_map_or (λ x. x ∷ items_within n ended (drop (item_size x) bytes)) o []) is

pub items_decided : (ended : Bool) (bytes : List ℕ) (part : RunItem) → AreBytes bytes → decided ended bytes ≡ Some part → items ended bytes ≡ part ∷ items ended (drop (item_size part) bytes)
unfolding items
items_decided ended bytes part fits is = by_length (length bytes) (omega arith)
  where
    by_length : (n : ℕ) → length bytes ≤ n → items_within n ended bytes ≡ part ∷ items_within (length (drop (item_size part) bytes)) ended (drop (item_size part) bytes)
    by_length zero h =
        absurd (let short = item_size-decided ended bytes part fits is in let some = item_size-positive part in omega arith)
    by_length (suc n) h =
        let short = item_size-decided ended bytes part fits is in
        let some = item_size-positive part in
        let size = length-drop (item_size part) bytes in
        ap (λ o. option_map_or (λ x. x ∷ items_within n ended (drop (item_size x) bytes)) o []) is
        ∙ ap (λ l. part ∷ l) (items_within-same n (length (drop (item_size part) bytes)) ended (drop (item_size part) bytes) (AreBytes-drop (item_size part) bytes fits) (omega arith) (omega arith))

-- ---- a reading exists

is_reading_within : (n : ℕ) (rest : List ℕ) → AreBytes rest → length rest ≤ n → IsReading rest (items_within n true rest)
is_reading_within zero rest fits h = nil_of rest h
is_reading_within (suc n) rest fits h =
    by_answer (λ part short. is_reading_within n (drop (item_size part) rest) (AreBytes-drop (item_size part) rest fits) short) (decided true rest) refl
  where
    with : Option RunItem → List RunItem
    with o = option_map_or (λ part. part ∷ items_within n true (drop (item_size part) rest)) o []

    by_answer : ((part : RunItem) → length (drop (item_size part) rest) ≤ n → IsReading (drop (item_size part) rest) (items_within n true (drop (item_size part) rest)))
        → (o : Option RunItem) → decided true rest ≡ o → IsReading rest (with (decided true rest))
    by_answer tails None is = subst (λ o. IsReading rest (with o)) (sym is) (undecided_ended rest (undecided_none true rest is))
    by_answer tails (Some part) is =
        let some = item_size-positive part in
        let size = length-drop (item_size part) rest in
        subst (λ o. IsReading rest (with o)) (sym is) (stands_first true rest part (first_decided true rest part fits is), tails part (omega arith))

pub is_reading : (run : List ℕ) → AreBytes run → IsReading run (reading run)
unfolding items
is_reading run fits = is_reading_within (length run) run fits (omega arith)

pub reading_is : (run : List ℕ) (parts : List RunItem) → AreBytes run → IsReading run parts → parts ≡ reading run
reading_is run parts fits r = one_reading run parts (reading run) r (is_reading run fits)

-- ---- in pieces

pieces_within : (n : ℕ) (ended : Bool) (bytes more : List ℕ) → AreBytes (bytes ++ more) → length bytes ≤ n
    → items ended (bytes ++ more) ≡ items false bytes ++ items ended (drop (total_size (items false bytes)) bytes ++ more)
pieces_within n ended bytes more fits h = by_bound n bytes fits h
  where
    InPieces : List ℕ → Type 0
    InPieces bytes = items ended (bytes ++ more) ≡ items false bytes ++ items ended (drop (total_size (items false bytes)) bytes ++ more)

    by_answer : (n : ℕ) (bytes : List ℕ) → AreBytes (bytes ++ more) → length bytes ≤ n
        → ((part : RunItem) → decided false bytes ≡ Some part → InPieces (drop (item_size part) bytes))
        → (o : Option RunItem) → decided false bytes ≡ o → InPieces bytes
    by_answer n bytes fits h tails None is =
        let none : items false bytes ≡ [] = items_undecided false bytes is in
        sym (ap (λ xs. xs ++ items ended (drop (total_size xs) bytes ++ more)) none)
    by_answer n bytes fits h tails (Some part) is =
        let k = item_size part in
        let front = AreBytes-front bytes more fits in
        let short : k ≤ length bytes = item_size-decided false bytes part front is in
        let first : items false bytes ≡ part ∷ items false (drop k bytes) = items_decided false bytes part front is in
        let whole : items ended (bytes ++ more) ≡ part ∷ items ended (drop k (bytes ++ more)) = items_decided ended (bytes ++ more) part fits (decided_more ended bytes more part fits is) in
        let later : drop k (bytes ++ more) ≡ drop k bytes ++ more = drop-append-le k bytes more short in
        let there : drop (total_size (items false (drop k bytes))) (drop k bytes) ≡ drop (k + total_size (items false (drop k bytes))) bytes = drop-drop (total_size (items false (drop k bytes))) k bytes in
        whole ∙ ap (λ l. part ∷ items ended l) later ∙ ap (λ xs. part ∷ xs) (tails part is)
        ∙ ap (λ l. part ∷ (items false (drop k bytes) ++ items ended (l ++ more))) there
        ∙ sym (ap (λ xs. xs ++ items ended (drop (total_size xs) bytes ++ more)) first)

    by_bound : (n : ℕ) (bytes : List ℕ) → AreBytes (bytes ++ more) → length bytes ≤ n → InPieces bytes
    by_bound zero bytes fits h = by_answer zero bytes fits h (λ part is.
        let short = item_size-decided false bytes part (AreBytes-front bytes more fits) is in
        let some = item_size-positive part in
        absurd (omega arith)) (decided false bytes) refl
    by_bound (suc n) bytes fits h = by_answer (suc n) bytes fits h (λ part is.
        let k = item_size part in
        let short = item_size-decided false bytes part (AreBytes-front bytes more fits) is in
        let some = item_size-positive part in
        let later : drop k (bytes ++ more) ≡ drop k bytes ++ more = drop-append-le k bytes more short in
        let fit : AreBytes (drop k bytes ++ more) = subst (λ l. AreBytes l) later (AreBytes-drop k (bytes ++ more) fits) in
        by_bound n (drop k bytes) fit (omega (arith, length-drop k bytes))) (decided false bytes) refl

-- the items of the whole are those that the first piece decides and those of what it leaves with the rest
pub items-append : (ended : Bool) (bytes more : List ℕ) → AreBytes (bytes ++ more) → items ended (bytes ++ more) ≡ items false bytes ++ items ended (left_over bytes ++ more)
unfolding left_over
items-append ended bytes more fits = pieces_within (length bytes) ended bytes more fits (omega arith)

left_within : (n : ℕ) (bytes : List ℕ) → AreBytes bytes → length bytes ≤ n → decided false (drop (total_size (items false bytes)) bytes) ≡ None
left_within n bytes fits h = by_bound n bytes fits h
  where
    NoneLeft : List ℕ → Type 0
    NoneLeft bytes = decided false (drop (total_size (items false bytes)) bytes) ≡ None

    by_answer : (bytes : List ℕ) → AreBytes bytes → ((part : RunItem) → decided false bytes ≡ Some part → NoneLeft (drop (item_size part) bytes))
        → (o : Option RunItem) → decided false bytes ≡ o → NoneLeft bytes
    by_answer bytes fits tails None is =
        ap (λ xs. decided false (drop (total_size xs) bytes)) (items_undecided false bytes is) ∙ is
    by_answer bytes fits tails (Some part) is =
        let k = item_size part in
        ap (λ xs. decided false (drop (total_size xs) bytes)) (items_decided false bytes part fits is)
        ∙ ap (decided false) (sym (drop-drop (total_size (items false (drop k bytes))) k bytes)) ∙ tails part is

    by_bound : (n : ℕ) (bytes : List ℕ) → AreBytes bytes → length bytes ≤ n → NoneLeft bytes
    by_bound zero bytes fits h = by_answer bytes fits (λ part is.
        let short = item_size-decided false bytes part fits is in
        let some = item_size-positive part in
        absurd (omega arith)) (decided false bytes) refl
    by_bound (suc n) bytes fits h = by_answer bytes fits (λ part is.
        let k = item_size part in
        let short = item_size-decided false bytes part fits is in
        let some = item_size-positive part in
        by_bound n (drop k bytes) (AreBytes-drop k bytes fits) (omega (arith, length-drop k bytes))) (decided false bytes) refl

-- nothing of what is left is decided
pub left_undecided : (bytes : List ℕ) → AreBytes bytes → decided false (left_over bytes) ≡ None
unfolding left_over
left_undecided bytes fits = left_within (length bytes) bytes fits (omega arith)

-- ---- item after item

-- whoever takes off what is shown until nothing is, has seen the items
pub drained_items : (ended : Bool) (bytes : List ℕ) (parts : List RunItem) → AreBytes bytes → Drains ended bytes parts → parts ≡ items ended bytes
drained_items ended bytes [] fits d = sym (items_undecided ended bytes (none_undecided ended bytes fits d))
drained_items ended bytes (part ∷ parts) fits d =
    let tail = drained_items ended (drop (item_size part) bytes) parts (AreBytes-drop (item_size part) bytes fits) d.1 in
    ap (λ xs. part ∷ xs) tail ∙ sym (items_decided ended bytes part fits (decided_first ended bytes part fits d.0))

pub drained_reading : (run : List ℕ) (parts : List RunItem) → Drains true run parts → IsReading run parts
drained_reading run [] d = undecided_ended run d
drained_reading run (part ∷ parts) d =
    (stands_first true run part d.0, drained_reading (drop (item_size part) run) parts d.1)

pub reading_drained : (run : List ℕ) (parts : List RunItem) → IsReading run parts → Drains true run parts
reading_drained run [] r = inl r
reading_drained run (part ∷ parts) r =
    (first_stands run part r.0, reading_drained (drop (item_size part) run) parts r.1)

-- what is undecided of a run that goes on leaves room in a framer
pub undecided_small : (bytes : List ℕ) → decided false bytes ≡ None → length bytes < 1440
undecided_small bytes is = elim (undecided_none false bytes is) [
  | inl nil ↦ omega (arith, ap length nil)
  | inr w ↦ small bytes w.2
]
  where
    small : (bytes : List ℕ) → WantsMore bytes → length bytes < 1440
    small bytes wants = elim wants [
      | inl few ↦ omega arith
      | inr less ↦ omega (arith, less.1, less.2)
    ]

-- each rest of a run has a first item
pub some_item : (b : ℕ) (rest : List ℕ) → AreBytes (b ∷ rest) → (part : RunItem) × Stands (b ∷ rest) part
some_item b rest fits = by_answer (decided true (b ∷ rest)) refl
  where
    by_answer : (o : Option RunItem) → decided true (b ∷ rest) ≡ o → (part : RunItem) × Stands (b ∷ rest) part
    by_answer None is = absurd (let nil = undecided_ended (b ∷ rest) (undecided_none true (b ∷ rest) is) in omega (arith, ap length nil))
    by_answer (Some part) is = (part, stands_first true (b ∷ rest) part (first_decided true (b ∷ rest) part fits is))

-- what is taken off a run that goes on begins the reading of all that it may become
pub reading_begins : (bytes more : List ℕ) (parts all : List RunItem) → AreBytes (bytes ++ more) → Drains false bytes parts → IsReading (bytes ++ more) all → (others : List RunItem) × (all ≡ parts ++ others)
reading_begins bytes more parts all fits d r =
    let front = AreBytes-front bytes more fits in (
      items true (left_over bytes ++ more),
      reading_is (bytes ++ more) all fits r ∙ items-append true bytes more fits ∙ ap (λ xs. xs ++ items true (left_over bytes ++ more)) (sym (drained_items false bytes parts front d)),
    )
