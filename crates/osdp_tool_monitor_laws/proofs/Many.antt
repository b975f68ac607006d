-- How many of a list are so: none, one, two, or all that are something else.
use Rattle.osdp_tool_monitor_laws.proofs.Common.{◌≡◌, ◌≢◌, inl, inr, ◌<◌, ◌≤◌, ◌+◌, ℕ, zero, suc, Bool, true, false, cond, List, [], ◌∷◌, length, get_or, count_by, refl, sym, ap, ◌∙◌, arith, both_ways, cases_Bool, cases_lt, sum_by-cons}

pub count_yes : {X : Type 0} (p : X → Bool) (x : X) (xs : List X) → p x ≡ true → count_by p (x ∷ xs) ≡ 1 + count_by p xs
count_yes p x xs fits = sum_by-cons (λ y. cond (p y) 1 0) x xs ∙ ap (λ t. cond t 1 0 + count_by p xs) fits

pub count_no : {X : Type 0} (p : X → Bool) (x : X) (xs : List X) → p x ≡ false → count_by p (x ∷ xs) ≡ count_by p xs
count_no p x xs misses = sum_by-cons (λ y. cond (p y) 1 0) x xs ∙ ap (λ t. cond t 1 0 + count_by p xs) misses ∙ omega arith

module _ {X : Type 0} (p : X → Bool) (d : X) where
  abbrev pub IsAt : List X → ℕ → Type 0
  IsAt xs i = (i < length xs) × (p (get_or xs i d) ≡ true)

  pub some : (xs : List X) → 1 ≤ count_by p xs → (i : ℕ) × IsAt xs i
  some [] few = absurd (omega (arith, few))
  some (x ∷ xs) few = elim (cases_Bool (p x)) [
    | inl fits ↦ (0, (omega arith, fits))
    | inr misses ↦ let rest = some xs (let is = count_no p x xs misses in omega (arith, few, is)) in (suc rest.0, ((let within = rest.1.0 in omega (arith, within)), rest.1.1))
  ]

  pub at_least : (xs : List X) (i : ℕ) → IsAt xs i → 1 ≤ count_by p xs
  at_least [] i is = absurd (let within = is.0 in omega (arith, within))
  at_least (x ∷ xs) zero is = let one = count_yes p x xs is.1 in omega (arith, one)
  at_least (x ∷ xs) (suc i) is =
      let rest = at_least xs i ((let within = is.0 in omega (arith, within)), is.1) in
      let more = sum_by-cons (λ y. cond (p y) 1 0) x xs in
      omega (arith, rest, more)

  pub two : (xs : List X) → 2 ≤ count_by p xs → (i j : ℕ) × IsAt xs i × IsAt xs j × (i ≢ j)
  two [] few = absurd (omega (arith, few))
  two (x ∷ xs) few = elim (cases_Bool (p x)) [
    | inl fits ↦
        let rest = some xs (let is = count_yes p x xs fits in omega (arith, few, is)) in
        (0, suc rest.0, (omega arith, fits), ((let within = rest.1.0 in omega (arith, within)), rest.1.1), (λ same. omega (arith, same)))
    | inr misses ↦
        let rest = two xs (let is = count_no p x xs misses in omega (arith, few, is)) in
        let i = rest.0 in let j = rest.1 in let other = rest.4 in (
          suc i,
          suc j,
          ((let within = rest.2.0 in omega (arith, within)), rest.2.1),
          ((let within = rest.3.0 in omega (arith, within)), rest.3.1),
          (λ same. other (omega (arith, same))),
        )
  ]

  pub at_least_two : (xs : List X) (i j : ℕ) → IsAt xs i → IsAt xs j → i ≢ j → 2 ≤ count_by p xs
  at_least_two [] i j is also other = absurd (let within = is.0 in omega (arith, within))
  at_least_two (x ∷ xs) zero zero is also other = absurd (other refl)
  at_least_two (x ∷ xs) zero (suc j) is also other =
      let rest = at_least xs j ((let within = also.0 in omega (arith, within)), also.1) in
      let one = count_yes p x xs is.1 in
      omega (arith, rest, one)
  at_least_two (x ∷ xs) (suc i) zero is also other =
      let rest = at_least xs i ((let within = is.0 in omega (arith, within)), is.1) in
      let one = count_yes p x xs also.1 in
      omega (arith, rest, one)
  at_least_two (x ∷ xs) (suc i) (suc j) is also other =
      let rest = at_least_two xs i j ((let within = is.0 in omega (arith, within)), is.1) ((let within = also.0 in omega (arith, within)), also.1) (λ same. other (ap suc same)) in
      let more = sum_by-cons (λ y. cond (p y) 1 0) x xs in
      omega (arith, rest, more)

  -- exactly one
  pub only_one : (xs : List X) (i j : ℕ) → count_by p xs ≡ 1 → IsAt xs i → IsAt xs j → j ≡ i
  only_one xs i j one is also = elim (cases_lt i j) [
    | inl below ↦ absurd (let many = at_least_two xs i j is also (λ same. omega (arith, below, same)) in omega (arith, many, one))
    | inr from ↦ elim (cases_lt j i) [
      | inl below ↦ absurd (let many = at_least_two xs i j is also (λ same. omega (arith, below, same)) in omega (arith, many, one))
      | inr up ↦ omega (arith, from, up)
    ]
  ]

  pub one_only : (xs : List X) (i : ℕ) → IsAt xs i → ((j : ℕ) → IsAt xs j → j ≡ i) → count_by p xs ≡ 1
  one_only xs i is alone =
      let least = at_least xs i is in
      elim (cases_lt (count_by p xs) 2) [
        | inl few ↦ omega (arith, least, few)
        | inr many ↦ let both = two xs many in absurd (both.4 (alone both.0 both.2 ∙ sym (alone both.1 both.3)))
      ]

-- ---- those that are so among those that are something else

module _ {X : Type 0} (p q : X → Bool) (d : X) (among : (x : X) → p x ≡ true → q x ≡ true) where
  pub no_more : (xs : List X) → count_by p xs ≤ count_by q xs
  no_more [] = omega arith
  no_more (x ∷ xs) = elim (cases_Bool (p x)) [
    | inl fits ↦
        let mine = count_yes p x xs fits in
        let other = count_yes q x xs (among x fits) in
        let rest = no_more xs in
        omega (arith, mine, other, rest)
    | inr misses ↦
        let mine = count_no p x xs misses in
        let other = sum_by-cons (λ y. cond (q y) 1 0) x xs in
        let rest = no_more xs in
        omega (arith, mine, other, rest)
  ]

  head_is : (x : X) (xs : List X) → count_by p (x ∷ xs) ≡ count_by q (x ∷ xs) → q x ≡ true → p x ≡ true
  head_is x xs as_many is_so = elim (cases_Bool (p x)) [
    | inl fits ↦ fits
    | inr misses ↦ absurd (let mine = count_no p x xs misses in let other = count_yes q x xs is_so in let most = no_more xs in omega (arith, mine, other, most, as_many))
  ]

  tail_is : (x : X) (xs : List X) → count_by p (x ∷ xs) ≡ count_by q (x ∷ xs) → count_by p xs ≡ count_by q xs
  tail_is x xs as_many = elim (cases_Bool (q x)) [
    | inl is ↦ let mine = count_yes p x xs (head_is x xs as_many is) in let other = count_yes q x xs is in omega (arith, mine, other, as_many)
    | inr isnt ↦ elim (cases_Bool (p x)) [
      | inl fits ↦ absurd (both_ways (q x) isnt (among x fits))
      | inr misses ↦ let mine = count_no p x xs misses in let other = count_no q x xs isnt in omega (arith, mine, other, as_many)
    ]
  ]

  pub all_are : (xs : List X) (i : ℕ) → count_by p xs ≡ count_by q xs → i < length xs → q (get_or xs i d) ≡ true → p (get_or xs i d) ≡ true
  all_are [] i as_many within is = absurd (omega (arith, within))
  all_are (x ∷ xs) zero as_many within is = head_is x xs as_many is
  all_are (x ∷ xs) (suc i) as_many within is = all_are xs i (tail_is x xs as_many) (omega (arith, within)) is

  pub as_many : (xs : List X) → ((i : ℕ) → i < length xs → q (get_or xs i d) ≡ true → p (get_or xs i d) ≡ true) → count_by p xs ≡ count_by q xs
  as_many [] all = refl
  as_many (x ∷ xs) all =
      let rest = as_many xs (λ i within is. all (suc i) (omega (arith, within)) is) in
      elim (cases_Bool (q x)) [
        | inl is ↦ let mine = count_yes p x xs (all 0 (omega arith) is) in let other = count_yes q x xs is in omega (arith, mine, other, rest)
        | inr isnt ↦ elim (cases_Bool (p x)) [
          | inl fits ↦ absurd (both_ways (q x) isnt (among x fits))
          | inr misses ↦ let mine = count_no p x xs misses in let other = count_no q x xs isnt in omega (arith, mine, other, rest)
        ]
      ]
