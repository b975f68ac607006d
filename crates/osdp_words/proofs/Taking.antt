-- Words taken from the front, one value after another.
use Rattle.osdp_words.proofs.Common.{◌≡◌, ℕ, zero, suc, ◌+◌, ◌<◌, ◌≤◌, ◌^◌, List, [], ◌∷◌, ◌++◌, length, get_or, take, drop, map, Option, Some, None, refl, sym, ap, subst, ◌∙◌, arith, decimal_injective, drop_all, drop_more, take_all, AllByRecursion, IfSome, IsBytes, Reads, Takes, AllStandFor, StandsFor, Word, number}
use Rattle.osdp_words.proofs.Lists.{HasTakenAll}

-- ---- a word

one_value : {A : Type 0} (word : A → Word) (Allowed : A → Type 0) (given left : List (List ℕ)) (text : List ℕ) (r : Option A)
    → given ≡ text ∷ left → IfSome r (λ a. StandsFor (word a) text × Allowed a)
    → IfSome r (λ a. (first : List (List ℕ)) × (given ≡ first ++ left) × AllStandFor (word a ∷ []) first × Allowed a)
one_value word Allowed given left text (Some a) e h = (text ∷ [], e, (h.0, tt), h.1)
one_value word Allowed given left text None e h = tt

one_only : {A : Type 0} (word : A → Word) (Allowed : A → Type 0) (given left : List (List ℕ)) (text : List ℕ) (r : Option A)
    → given ≡ text ∷ left → Reads word Allowed text r
    → (a : A) (first rest : List (List ℕ)) → Allowed a → given ≡ first ++ rest → AllStandFor (word a ∷ []) first → (r ≡ Some a) × (left ≡ rest)
one_only word Allowed given left text r e h a [] rest allowed same stands = absurd stands
one_only word Allowed given left text r e h a (other ∷ []) rest allowed same stands =
    let whole : text ∷ left ≡ other ∷ rest = sym e ∙ same in
    let front : text ≡ other = cc whole in
    (h.only a allowed (rw front stands.0), cc whole)
one_only word Allowed given left text r e h a (other ∷ more ∷ others) rest allowed same stands = absurd stands.1

-- a word that is read is taken
pub one_taken : {A : Type 0} (word : A → Word) (Allowed : A → Type 0) (given left : List (List ℕ)) (text : List ℕ) (r : Option A)
    → given ≡ text ∷ left → Reads word Allowed text r → Takes (λ a. word a ∷ []) Allowed given left r
one_taken word Allowed given left text r e h = record {
  value = one_value word Allowed given left text r e h.value;
  only = one_only word Allowed given left text r e h;
}

-- ---- numbers, each a word of its own

-- the numbers that were taken
abbrev pub HasTaken : List (List ℕ) → List ℕ → List (List ℕ) → Type 0
HasTaken = HasTakenAll number (λ n. n < 2 ^ 8)

are_bytes : (ns : List ℕ) → AllByRecursion (λ n. n < 2 ^ 8) ns → IsBytes ns
are_bytes [] h k = omega arith
are_bytes (n ∷ ns) h zero = h.0
are_bytes (n ∷ ns) h (suc k) = are_bytes ns h.1 k

-- what else may have been given for numbers that begin with those
rest_of : (ns ms : List ℕ) (front mid first rest : List (List ℕ)) → IsBytes ns → IsBytes ms → length ns ≤ length ms
    → AllStandFor (map number ns) front → AllStandFor (map number ms) first → front ++ mid ≡ first ++ rest
    → (ns ≡ take (length ns) ms) × ((others : List (List ℕ)) × (mid ≡ others ++ rest) × AllStandFor (map number (drop (length ns) ms)) others)
rest_of [] ms [] mid first rest hn hm fits a b e = (refl, (first, e, b))
rest_of [] ms (text ∷ front) mid first rest hn hm fits a b e = absurd a
rest_of (n ∷ ns) ms [] mid first rest hn hm fits a b e = absurd a
rest_of (n ∷ ns) [] (text ∷ front) mid first rest hn hm fits a b e = absurd (omega arith)
rest_of (n ∷ ns) (m ∷ ms) (text ∷ front) mid [] rest hn hm fits a b e = absurd b
rest_of (n ∷ ns) (m ∷ ms) (text ∷ front) mid (other ∷ first) rest hn hm fits a b e =
    let one : text ≡ other = cc e in
    let same = decimal_injective n m (omega (arith, hn 0)) (omega (arith, hm 0)) (sym a.0 ∙ one ∙ b.0) in
    let more = rest_of ns ms front mid first rest (λ k. hn (suc k)) (λ k. hm (suc k)) (omega arith) a.1 b.1 (cc e) in
    (cc (same, more.0), more.1)

nothing_left : (ms : List ℕ) (others : List (List ℕ)) → ms ≡ [] → AllStandFor (map number ms) others → others ≡ []
nothing_left [] [] e h = refl
nothing_left [] (text ∷ others) e h = absurd h
nothing_left (m ∷ ms) others e h = cc e

one_left : (m : ℕ) (ms : List ℕ) (others : List (List ℕ)) → AllStandFor (map number (m ∷ ms)) others
    → (text : List ℕ) × (more : List (List ℕ)) × (others ≡ text ∷ more) × StandsFor (number m) text
one_left m ms [] h = absurd h
one_left m ms (text ∷ more) h = (text, more, refl, h.0)

first_of : (others mid rest : List (List ℕ)) (text : List ℕ) (more : List (List ℕ)) → mid ≡ others ++ rest → others ≡ text ∷ more
    → mid ≡ (text ∷ []) ++ (more ++ rest)
first_of others mid rest text more e split = e ∙ ap (λ (all : List (List ℕ)). all ++ rest) split

-- all of them
pub all_taken : (given left : List (List ℕ)) (found : List ℕ) (n : ℕ) → HasTaken given found left → length found ≡ n
    → Takes (λ ns. map number ns) (λ ns. (length ns ≡ n) × IsBytes ns) given left (Some found)
all_taken given left found n h len = record {
  value = (h.front, h.whole, h.stand, (len, are_bytes found h.allowed));
  only = λ ms first rest allowed e stands.
      let r = rest_of found ms h.front left first rest (are_bytes found h.allowed) allowed.1 (omega arith) h.stand stands (sym h.whole ∙ e) in
      let done : drop (length found) ms ≡ [] = drop_all (length found) ms (omega arith) in
      let none = nothing_left (drop (length found) ms) r.1.0 done r.1.2 in
      (ap Some (r.0 ∙ take_all (length found) ms (omega arith)), r.1.1 ∙ ap (λ (others : List (List ℕ)). others ++ rest) none);
}

-- a word that is no such number
pub one_missing : (given mid left : List (List ℕ)) (ns : List ℕ) (n : ℕ) → HasTaken given ns mid → length ns < n
    → Takes (λ m. number m ∷ []) (λ m. m < 2 ^ 8) mid left None
    → Takes (λ ms. map number ms) (λ ms. (length ms ≡ n) × IsBytes ms) given left None
one_missing given mid left ns n h short unread = record {
  value = tt;
  only = λ ms first rest allowed e stands.
      let r = rest_of ns ms h.front mid first rest (are_bytes ns h.allowed) allowed.1 (omega arith) h.stand stands (sym h.whole ∙ e) in
      let next : drop (length ns) ms ≡ get_or ms (length ns) 0 ∷ drop (length ns + 1) ms = drop_more ms (length ns) 0 (omega arith) in
      let P : List ℕ → Type 0 = λ xs. AllStandFor (map number xs) r.1.0 in
      let one = one_left (get_or ms (length ns) 0) (drop (length ns + 1) ms) r.1.0 (subst P next r.1.2) in
      let mid_is : mid ≡ (one.0 ∷ []) ++ (one.1 ++ rest) = first_of r.1.0 mid rest one.0 one.1 r.1.1 one.2 in
      let read = unread.only (get_or ms (length ns) 0) (one.0 ∷ []) (one.1 ++ rest) (allowed.1 (length ns)) mid_is (one.3, tt) in
      cc (read.0);
}
