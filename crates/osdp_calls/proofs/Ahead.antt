-- What an end may still read: as it reads on, as more is said, and as a session opens.
use Rattle.osdp_calls.proofs.Common.{◌≡◌, ◌≢◌, ◌≤◌, ◌<◌, ℕ, zero, suc, ◌+◌, not, Bool, true, false, cond, List, [], ◌∷◌, ◌++◌, length, Some, refl, sym, ap, ◌∙◌, inl, inr, arith, append-nil, leb_tells, Packet, is_false, is_true, Each, site_at, Burst, Opening, ahead_of_device, ahead_of_panel, concerns, is_ahead_of_device, is_ahead_of_panel, is_before, is_past_for_device, is_past_for_panel, those}
use Rattle.std.proofs.lemmas.Bool.{le-leb, or_right}
use Rattle.std.specs.Prelude.{◌&&◌, ◌||◌, ◌==◌, nat_le, nat_lt}
use Rattle.std.specs.List.{list_any}
use Rattle.osdp_shared_line.proofs.Changing.{or_false}
use Rattle.osdp_calls.proofs.Losing.{Sub, those_sub}

-- ---- tests

pub and_false : (a : Bool) → a && false ≡ false
and_false true = refl
and_false false = refl

pub any_false : {A : Type 0} (test : A → Bool) (xs : List A) → Each (λ x. test x ≡ false) xs → list_any test xs ≡ false
any_false test [] none = refl
any_false test (x ∷ xs) none = ap (λ b. b || list_any test xs) none.0 ∙ any_false test xs none.1

pub later_no : (a b : ℕ) → b ≤ a → nat_lt a b ≡ false
later_no a b le = elim (leb_tells (suc a) b) [ inl is ↦ absurd (let h = is.1 in omega (arith, h, le)) | inr other ↦ other.0 ]

pub before_no : (from i : ℕ) → i < from → nat_le from i ≡ false
before_no from i lt = elim (leb_tells from i) [ inl is ↦ absurd (let h = is.1 in omega (arith, h, lt)) | inr other ↦ other.0 ]

abbrev pub AreWithin : ℕ → List Opening → Type 0
AreWithin count os = Each (λ (o : Opening). o.place ≤ count) os

not_past : (count : ℕ) (b : Burst) (o : Opening) → o.place ≤ count → is_before o count b ≡ false
not_past count b o le = ap (λ x. x && concerns o b) (later_no count o.place le)

pub none_past_for_panel : (count : ℕ) (b : Burst) (os : List Opening) → AreWithin count os → is_past_for_panel os count b ≡ false
none_past_for_panel count b [] within = refl
none_past_for_panel count b (o ∷ os) within =
    ap (λ x. x || is_past_for_panel os count b) (not_past count b o within.0) ∙ none_past_for_panel count b os within.1

pub none_past_for_device : (k count : ℕ) (b : Burst) (os : List Opening) → AreWithin count os → is_past_for_device k os count b ≡ false
none_past_for_device k count b [] within = refl
none_past_for_device k count b (o ∷ os) within =
    ap (λ x. ((o.entry == k) && x) || is_past_for_device k os count b) (not_past count b o within.0)
    ∙ ap (λ x. x || is_past_for_device k os count b) (and_false (o.entry == k)) ∙ none_past_for_device k count b os within.1

-- ---- reading on

further : (a c : Bool) (from i j : ℕ) → from ≤ i → a && (nat_le i j && c) ≡ true → a && (nat_le from j && c) ≡ true
further true c from i j le is =
    elim (leb_tells i j) [
      | inl here ↦ let h = here.1 in ap (λ x. x && c) (le-leb from j (omega (arith, h, le))) ∙ sym (ap (λ x. x && c) here.0) ∙ is
      | inr other ↦ absurd (let e = sym (ap (λ x. x && c) other.0) ∙ is in cc)
    ]
further false c from i j le is = absurd cc

pub device_further : (k from i : ℕ) (os : List Opening) (said : List Burst) → from ≤ i → Sub (ahead_of_device k i os said) (ahead_of_device k from os said)
device_further k from i os said le =
    those_sub (is_ahead_of_device k i os) (is_ahead_of_device k from os) 0 said (λ j b is. further b.by_panel (not (is_past_for_device k os j b)) from i j le is)

pub panel_further : (from i : ℕ) (os : List Opening) (said : List Burst) → from ≤ i → Sub (ahead_of_panel i os said) (ahead_of_panel from os said)
panel_further from i os said le =
    those_sub (is_ahead_of_panel i os) (is_ahead_of_panel from os) 0 said (λ j b is. further (not b.by_panel) (not (is_past_for_panel os j b)) from i j le is)

-- the front, where nothing before it passes
pub front_of_those : (f : ℕ → Burst → Bool) (i m j : ℕ) (b : Burst) (bs : List Burst) → j ≡ i + m → site_at m bs ≡ Some b → f j b ≡ true
    → ((x : ℕ) (c : Burst) → x < j → f x c ≡ false) → (rest : List (ℕ × Packet)) × (those f i bs ≡ (b.entry, b.packet) ∷ rest)
front_of_those f i m j b [] at is passes none = absurd cc
front_of_those f i zero j b (c ∷ bs) at is passes none =
    let here : i ≡ j = omega (arith, at) in
    let same : c ≡ b = cc in (
      those f (suc i) bs,
      ap (λ x. cond x ((c.entry, c.packet) ∷ those f (suc i) bs) (those f (suc i) bs))
          (ap (λ x. f x c) here ∙ ap (f j) same ∙ passes) ∙ ap (λ (d : Burst). (d.entry, d.packet) ∷ those f (suc i) bs) same,
    )
front_of_those f i (suc m) j b (c ∷ bs) at is passes none =
    let rest = front_of_those f (suc i) m j b bs (omega (arith, at)) is passes none in (
      rest.0,
      ap (λ x. cond x ((c.entry, c.packet) ∷ those f (suc i) bs) (those f (suc i) bs)) (none i c (omega (arith, at))) ∙ rest.1,
    )

none_before : (a c : Bool) (from i : ℕ) → i < from → a && (nat_le from i && c) ≡ false
none_before a c from i lt = ap (λ x. a && (x && c)) (before_no from i lt) ∙ and_false a

all_pass : (a p : Bool) (from : ℕ) → a ≡ true → p ≡ false → a && (nat_le from from && not p) ≡ true
all_pass a p from is fails =
    ap (λ x. x && (nat_le from from && not p)) is ∙ ap (λ x. x && not p) (le-leb from from (omega arith)) ∙ ap not fails

pub device_front : (k i : ℕ) (os : List Opening) (said : List Burst) (b : Burst) → site_at i said ≡ Some b → b.by_panel ≡ true
    → is_past_for_device k os i b ≡ false → (rest : List (ℕ × Packet)) × (ahead_of_device k i os said ≡ (b.entry, b.packet) ∷ rest)
device_front k i os said b is by fails =
    front_of_those (is_ahead_of_device k i os) 0 i i b said (omega arith) is (all_pass b.by_panel (is_past_for_device k os i b) i by fails)
    (λ x c lt. none_before c.by_panel (not (is_past_for_device k os x c)) i x lt)

pub panel_front : (i : ℕ) (os : List Opening) (said : List Burst) (b : Burst) → site_at i said ≡ Some b → b.by_panel ≡ false
    → is_past_for_panel os i b ≡ false → (rest : List (ℕ × Packet)) × (ahead_of_panel i os said ≡ (b.entry, b.packet) ∷ rest)
panel_front i os said b is by fails =
    front_of_those (is_ahead_of_panel i os) 0 i i b said (omega arith) is (all_pass (not b.by_panel) (is_past_for_panel os i b) i (ap not by) fails)
    (λ x c lt. none_before (not c.by_panel) (not (is_past_for_panel os x c)) i x lt)

-- ---- more is said

abbrev pub one_if : Bool → ℕ × Packet → List (ℕ × Packet)
one_if true q = q ∷ []
one_if false q = []

one_more : (f : ℕ → Burst → Bool) (i n : ℕ) (b : Burst) (bs : List Burst) → n ≡ i + length bs
    → those f i (bs ++ b ∷ []) ≡ those f i bs ++ one_if (f n b) (b.entry, b.packet)
one_more f i n b [] at =
    let here : i ≡ n = omega (arith, at) in by_test (f i b) ∙ ap (λ x. one_if (f x b) (b.entry, b.packet)) here
  where
    by_test : (x : Bool) → cond x ((b.entry, b.packet) ∷ those f (suc i) []) (those f (suc i) []) ≡ one_if x (b.entry, b.packet)
    by_test true = refl
    by_test false = refl
one_more f i n b (c ∷ bs) at = by_test (f i c) (one_more f (suc i) n b bs (omega (arith, at)))
  where
    by_test : (x : Bool) → those f (suc i) (bs ++ b ∷ []) ≡ those f (suc i) bs ++ one_if (f n b) (b.entry, b.packet)
        → cond x ((c.entry, c.packet) ∷ those f (suc i) (bs ++ b ∷ [])) (those f (suc i) (bs ++ b ∷ []))
        ≡ cond x ((c.entry, c.packet) ∷ those f (suc i) bs) (those f (suc i) bs) ++ one_if (f n b) (b.entry, b.packet)
    by_test true rest = ap (λ l. (c.entry, c.packet) ∷ l) rest
    by_test false rest = rest

new_passes : (p : Bool) (from count : ℕ) → from ≤ count → p ≡ false → nat_le from count && not p ≡ true
new_passes p from count le fails = ap (λ x. x && not p) (le-leb from count le) ∙ ap not fails

abbrev pub from_panel : ℕ → Packet → Burst
from_panel k p = record { by_panel = true; entry = k; packet = p }

abbrev pub from_device : ℕ → Packet → Burst
from_device k p = record { by_panel = false; entry = k; packet = p }

pub panel_told_device : (j from k : ℕ) (p : Packet) (os : List Opening) (said : List Burst) → from ≤ length said → AreWithin (length said) os
    → ahead_of_device j from os (said ++ from_panel k p ∷ []) ≡ ahead_of_device j from os said ++ (k, p) ∷ []
panel_told_device j from k p os said le within =
    one_more (is_ahead_of_device j from os) 0 (length said) (from_panel k p) said (omega arith)
    ∙ ap (λ x. ahead_of_device j from os said ++ one_if x (k, p))
    (new_passes (is_past_for_device j os (length said) (from_panel k p)) from (length said) le (none_past_for_device j (length said) (from_panel k p) os within))

pub panel_told_panel : (from k : ℕ) (p : Packet) (os : List Opening) (said : List Burst)
    → ahead_of_panel from os (said ++ from_panel k p ∷ []) ≡ ahead_of_panel from os said
panel_told_panel from k p os said =
    one_more (is_ahead_of_panel from os) 0 (length said) (from_panel k p) said (omega arith) ∙ append-nil (ahead_of_panel from os said)

pub device_told_device : (j from k : ℕ) (p : Packet) (os : List Opening) (said : List Burst)
    → ahead_of_device j from os (said ++ from_device k p ∷ []) ≡ ahead_of_device j from os said
device_told_device j from k p os said =
    one_more (is_ahead_of_device j from os) 0 (length said) (from_device k p) said (omega arith) ∙ append-nil (ahead_of_device j from os said)

pub device_told_panel : (from k : ℕ) (p : Packet) (os : List Opening) (said : List Burst) → from ≤ length said → AreWithin (length said) os
    → ahead_of_panel from os (said ++ from_device k p ∷ []) ≡ ahead_of_panel from os said ++ (k, p) ∷ []
device_told_panel from k p os said le within =
    one_more (is_ahead_of_panel from os) 0 (length said) (from_device k p) said (omega arith)
    ∙ ap (λ x. ahead_of_panel from os said ++ one_if x (k, p))
    (new_passes (is_past_for_panel os (length said) (from_device k p)) from (length said) le (none_past_for_panel (length said) (from_device k p) os within))

-- ---- a session opens: what was said before it

kept_by : (a x y : Bool) → a && (x && not y) ≡ true → (a ≡ true) × (x ≡ true) × (y ≡ false)
kept_by true true false is = (refl, refl, refl)
kept_by true true true is = absurd cc
kept_by true false y is = absurd cc
kept_by false x y is = absurd cc

less_past : (a x p q : Bool) → (q ≡ true → p ≡ true) → a && (x && not p) ≡ true → a && (x && not q) ≡ true
less_past a x true q fewer is = absurd (let e = (kept_by a x true is).2 in cc)
less_past a x false true fewer is = absurd (let e = fewer refl in cc)
less_past a x false false fewer is = is

pub device_opened : (k from : ℕ) (o : Opening) (os : List Opening) (said : List Burst)
    → Sub (ahead_of_device k from (o ∷ os) said) (ahead_of_device k from os said)
device_opened k from o os said =
    those_sub (is_ahead_of_device k from (o ∷ os)) (is_ahead_of_device k from os) 0 said
    (λ j b is. less_past b.by_panel (nat_le from j) (is_past_for_device k (o ∷ os) j b) (is_past_for_device k os j b)
    (or_right ((o.entry == k) && is_before o j b) (is_past_for_device k os j b)) is)

pub panel_opened : (from : ℕ) (o : Opening) (os : List Opening) (said : List Burst) → Sub (ahead_of_panel from (o ∷ os) said) (ahead_of_panel from os said)
panel_opened from o os said =
    those_sub (is_ahead_of_panel from (o ∷ os)) (is_ahead_of_panel from os) 0 said
    (λ j b is. less_past (not b.by_panel) (nat_le from j) (is_past_for_panel (o ∷ os) j b) (is_past_for_panel os j b)
    (or_right (is_before o j b) (is_past_for_panel os j b)) is)

-- it is nothing to the devices of other entries
those_same : (f g : ℕ → Burst → Bool) (i : ℕ) (bs : List Burst) → ((j : ℕ) (b : Burst) → f j b ≡ g j b) → those f i bs ≡ those g i bs
those_same f g i [] same = refl
those_same f g i (b ∷ bs) same =
    ap (λ x. cond x ((b.entry, b.packet) ∷ those f (suc i) bs) (those f (suc i) bs)) (same i b)
    ∙ ap (λ l. cond (g i b) ((b.entry, b.packet) ∷ l) l) (those_same f g (suc i) bs same)

pub others_opened : (k from : ℕ) (o : Opening) (os : List Opening) (said : List Burst) → o.entry ≢ k
    → ahead_of_device k from (o ∷ os) said ≡ ahead_of_device k from os said
others_opened k from o os said other =
    those_same (is_ahead_of_device k from (o ∷ os)) (is_ahead_of_device k from os) 0 said
    (λ j b. ap (λ x. b.by_panel && (nat_le from j && not ((x && is_before o j b) || is_past_for_device k os j b))) (is_false o.entry k other))

-- nothing of it is left
those_all : (Q : ℕ × Packet → Type 0) (f : ℕ → Burst → Bool) (i n : ℕ) (bs : List Burst) → n ≡ i + length bs
    → ((j : ℕ) (b : Burst) → j < n → f j b ≡ true → Q (b.entry, b.packet)) → Each Q (those f i bs)
those_all Q f i n [] at all = tt
those_all Q f i n (b ∷ bs) at all = by_test (f i b) refl (those_all Q f (suc i) n bs (omega (arith, at)) all)
  where
    by_test : (x : Bool) → f i b ≡ x → Each Q (those f (suc i) bs) → Each Q (cond x ((b.entry, b.packet) ∷ those f (suc i) bs) (those f (suc i) bs))
    by_test true is rest = (all i b (omega (arith, at)) is, rest)
    by_test false is rest = rest

not_concerned : (o : Opening) (j : ℕ) (b : Burst) → j < o.place → is_before o j b ≡ false → (b.entry ≢ o.entry) × (b.packet.address ≢ o.address)
not_concerned o j b lt is =
    let tests = or_false (b.entry == o.entry) (b.packet.address == o.address) (sym (ap (λ x. x && concerns o b) (le-leb (suc j) o.place (omega (arith, lt)))) ∙ is) in (
      λ e. absurd (let a = tests.0 in let t = is_true b.entry o.entry e in cc),
      λ e. absurd (let a = tests.1 in let t = is_true b.packet.address o.address e in cc),
    )

mine_past : (m y : Bool) → m ≡ true → m && y ≡ false → y ≡ false
mine_past true y mine is = is
mine_past false y mine is = absurd cc

pub device_quiet : (k from : ℕ) (o : Opening) (os : List Opening) (said : List Burst) → o.entry ≡ k → o.place ≡ length said
    → Each (λ (q : ℕ × Packet). q.0 ≢ k) (ahead_of_device k from (o ∷ os) said)
device_quiet k from o os said mine at =
    those_all (λ q. q.0 ≢ k) (is_ahead_of_device k from (o ∷ os)) 0 (length said) said (omega arith) (λ j b lt is.
    let kept = kept_by b.by_panel (nat_le from j) (is_past_for_device k (o ∷ os) j b) is in
    let both = or_false ((o.entry == k) && is_before o j b) (is_past_for_device k os j b) kept.2 in
    let gone = not_concerned o j b (omega (arith, lt, at)) (mine_past (o.entry == k) (is_before o j b) (is_true o.entry k mine) both.0) in
    (λ e. gone.0 (e ∙ sym mine)))

pub panel_quiet : (from : ℕ) (o : Opening) (os : List Opening) (said : List Burst) → o.place ≡ length said
    → Each (λ (q : ℕ × Packet). (q.0 ≢ o.entry) × (q.1.address ≢ o.address)) (ahead_of_panel from (o ∷ os) said)
panel_quiet from o os said at =
    those_all (λ q. (q.0 ≢ o.entry) × (q.1.address ≢ o.address)) (is_ahead_of_panel from (o ∷ os)) 0 (length said) said (omega arith) (λ j b lt is.
    let kept = kept_by (not b.by_panel) (nat_le from j) (is_past_for_panel (o ∷ os) j b) is in
    let both = or_false (is_before o j b) (is_past_for_panel os j b) kept.2 in
    not_concerned o j b (omega (arith, lt, at)) both.0)
