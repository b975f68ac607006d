-- What has become of orders, as lists: how these lists go on.
use Rattle.std.proofs.Common.{◌≡◌, ◌∙◌, ap, sym, subst, inl, inr, refl, arith, append_assoc, ℕ, suc, ◌+◌, ◌-◌, ◌≤◌, List, [], ◌∷◌, ◌++◌, drop, length, map}
use Rattle.std.proofs.lemmas.List.{length-append, map-append}
use Rattle.circular_buffer.specs.Buffer.{keep_last}
use Rattle.osdp_msg.specs.declared.command.Command.{Command}
use Rattle.osdp_panel_laws.specs.Outcome.{AreNumbered, Ended, Order, Shares, ended_of}

abbrev pub commands : List Order → List Command
commands os = map (λ (o : Order). o.command) os

abbrev pub untils : List Order → List ℕ
untils os = map (λ (o : Order). o.until) os

-- ---- what is kept of a list

pub keep_all : (xs : List ℕ) (n : ℕ) → length xs ≤ n → keep_last n xs ≡ xs
keep_all xs n within = let none : length xs - n ≡ 0 = omega (arith, within) in ap (λ m. drop m xs) none

pub keep_rest : (x : ℕ) (xs : List ℕ) (n : ℕ) → length xs ≡ n → keep_last n (x ∷ xs) ≡ xs
keep_rest x xs n same = let one : suc (length xs) - n ≡ 1 = omega (arith, same) in ap (λ m. drop m (x ∷ xs)) one

map_length : {A B : Type 0} (f : A → B) (xs : List A) → length (map f xs) ≡ length xs
map_length f [] = refl
map_length f (x ∷ xs) = ap suc (map_length f xs)

-- ---- numbers

pub number_at : (n : ℕ) (first : List Order) (o : Order) (rest : List Order) → AreNumbered n (first ++ o ∷ rest) → o.number ≡ n + length first
number_at n [] o rest are = let same : o.number ≡ n = are.0 in omega (arith, same)
number_at n (x ∷ first) o rest are = let same : o.number ≡ suc n + length first = number_at (suc n) first o rest are.1 in omega (arith, same)

pub numbered_on : (n : ℕ) (os : List Order) (o : Order) → AreNumbered n os → o.number ≡ n + length os → AreNumbered n (os ++ o ∷ [])
numbered_on n [] o are is = (omega (arith, is), tt)
numbered_on n (x ∷ os) o are is = (are.0, numbered_on (suc n) os o are.1 (omega (arith, is)))

-- ---- how orders ended

pub share_told : (os : List Order) (o : Order) (told : List Ended) (back : List Command) → Shares os told back → Shares (os ++ o ∷ []) (told ++ ended_of o ∷ []) back
share_told [] o told back are = inl ([], ap (λ l. l ++ ended_of o ∷ []) are.0, (refl, are.1))
share_told (x ∷ os) o told back (inl (rest, is, more)) =
    inl (rest ++ ended_of o ∷ [], ap (λ l. l ++ ended_of o ∷ []) is, share_told os o rest back more)
share_told (x ∷ os) o told back (inr (rest, is, more)) = inr (rest, is, share_told os o told rest more)

pub share_back : (os : List Order) (o : Order) (told : List Ended) (back : List Command) → Shares os told back → Shares (os ++ o ∷ []) told (back ++ o.command ∷ [])
share_back [] o told back are = inr ([], ap (λ l. l ++ o.command ∷ []) are.1, (are.0, refl))
share_back (x ∷ os) o told back (inl (rest, is, more)) = inl (rest, is, share_back os o rest back more)
share_back (x ∷ os) o told back (inr (rest, is, more)) =
    inr (rest ++ o.command ∷ [], ap (λ l. l ++ o.command ∷ []) is, share_back os o told rest more)

-- ---- orders, those that have ended, and those that have not

pub record Stands (accepted : List Order) (told : List Ended) (back pending : List Command) (moments : List ℕ) : Type 0 where
  pub ended : List Order
  pub still : List Order
  pub whole : accepted ≡ ended ++ still
  pub each : Shares ended told back
  pub ahead : commands still ≡ pending
  pub until : untils still ≡ moments

module _ (accepted : List Order) (told : List Ended) (back pending : List Command) (moments : List ℕ) (s : Stands accepted told back pending moments) where
  sizes : length moments ≡ length pending
  sizes =
      ap length (sym s.until) ∙ map_length (λ (o : Order). o.until) s.still ∙ sym (map_length (λ (o : Order). o.command) s.still) ∙ ap length s.ahead

  -- as many moments are kept as orders have no end
  pub stands_same : Stands accepted told back pending (keep_last (length pending) moments)
  stands_same = subst (Stands accepted told back pending) (sym (keep_all moments (length pending) (omega (arith, sizes)))) s

  -- one is accepted
  pub stands_new : (o : Order) → Stands (accepted ++ o ∷ []) told back (pending ++ o.command ∷ []) (moments ++ o.until ∷ [])
  stands_new o = record {
    ended = s.ended;
    still = s.still ++ o ∷ [];
    whole = ap (λ l. l ++ o ∷ []) s.whole ∙ append_assoc s.ended s.still (o ∷ []);
    each = s.each;
    ahead = map-append (λ (x : Order). x.command) s.still (o ∷ []) ∙ ap (λ l. l ++ o.command ∷ []) s.ahead;
    until = map-append (λ (x : Order). x.until) s.still (o ∷ []) ∙ ap (λ l. l ++ o.until ∷ []) s.until;
  }

  -- .. and the moment of the new one is kept, where there is room
  pub size_new : (o : Order) → length (moments ++ o.until ∷ []) ≡ length (pending ++ o.command ∷ [])
  size_new o = let same = sizes in omega (arith, same, length-append moments (o.until ∷ []), length-append pending (o.command ∷ []))

-- the front order ends
module _ (accepted : List Order) (told : List Ended) (back : List Command) (c : Command) (rest : List Command) (moments : List ℕ) where
  -- the front order, and those after it
  pub record Front (s : Stands accepted told back (c ∷ rest) moments) : Type 0 where
    pub order : Order
    pub later : List Order
    pub still : s.still ≡ order ∷ later
    pub command : order.command ≡ c
    pub ahead : commands later ≡ rest
    pub until : moments ≡ order.until ∷ untils later

  pub front_of : (s : Stands accepted told back (c ∷ rest) moments) → Front s
  front_of s = by_still s.still refl
    where
      by_still : (os : List Order) → s.still ≡ os → Front s
      by_still [] is = absurd (let e : [] ≡ c ∷ rest = sym (ap commands is) ∙ s.ahead in cc)
      by_still (o ∷ os) is =
          let e : o.command ∷ commands os ≡ c ∷ rest = sym (ap commands is) ∙ s.ahead in
          record { order = o; later = os; still = is; command = cc; ahead = cc; until = sym s.until ∙ ap untils is }

  module _ (s : Stands accepted told back (c ∷ rest) moments) (f : Front s) where
    pub whole_is : accepted ≡ (s.ended ++ f.order ∷ []) ++ f.later
    whole_is = s.whole ∙ ap (λ l. s.ended ++ l) f.still ∙ sym (append_assoc s.ended (f.order ∷ []) f.later)

    kept_is : untils f.later ≡ keep_last (length rest) moments
    kept_is =
        let same : length (untils f.later) ≡ length rest =
        map_length (λ (o : Order). o.until) f.later ∙ sym (map_length (λ (o : Order). o.command) f.later) ∙ ap length f.ahead in
        sym (ap (keep_last (length rest)) f.until ∙ keep_rest f.order.until (untils f.later) (length rest) same)

    front_ends : (told' : List Ended) (back' : List Command) → Shares (s.ended ++ f.order ∷ []) told' back'
        → Stands accepted told' back' rest (keep_last (length rest) moments)
    front_ends told' back' each = record {
      ended = s.ended ++ f.order ∷ [];
      still = f.later;
      whole = whole_is;
      each = each;
      ahead = f.ahead;
      until = kept_is;
    }

    -- it is taken back
    pub stands_back : Stands accepted told (back ++ c ∷ []) rest (keep_last (length rest) moments)
    stands_back =
        front_ends told (back ++ c ∷ [])
        (subst (λ x. Shares (s.ended ++ f.order ∷ []) told (back ++ x ∷ [])) f.command (share_back s.ended f.order told back s.each))

    -- it is told: its number is that of the next order, less those that still have no end, less one
    number_is : (first next : ℕ) → AreNumbered first accepted → next ≡ first + length accepted → next - length rest - 1 ≡ f.order.number
    number_is first next are is =
        let numbered : f.order.number ≡ first + length s.ended =
        number_at first s.ended f.order f.later (subst (AreNumbered first) (whole_is ∙ append_assoc s.ended (f.order ∷ []) f.later) are) in
        let size : length accepted ≡ length ((s.ended ++ f.order ∷ []) ++ f.later) = ap length whole_is in
        let later : length f.later ≡ length rest = sym (map_length (λ (o : Order). o.command) f.later) ∙ ap length f.ahead in
        omega (arith, is, numbered, size, later, length-append (s.ended ++ f.order ∷ []) f.later, length-append s.ended (f.order ∷ []))

    pub stands_told : (first next : ℕ) → AreNumbered first accepted → next ≡ first + length accepted
        → Stands accepted (told ++ record { number = next - length rest - 1; command = c } ∷ []) back rest (keep_last (length rest) moments)
    stands_told first next are is =
        let same : ◌≡◌ {A = Ended} (ended_of f.order) (record { number = next - length rest - 1; command = c }) =
        (λ i. record { number = sym (number_is first next are is) i; command = f.command i }) in
        front_ends (told ++ record { number = next - length rest - 1; command = c } ∷ []) back
        (subst (λ (x : Ended). Shares (s.ended ++ f.order ∷ []) (told ++ x ∷ []) back) same (share_told s.ended f.order told back s.each))
