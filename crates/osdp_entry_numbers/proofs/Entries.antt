-- Entries by other numbers: what is found among them, and what one that changes leaves of this.
use Rattle.osdp_entry_numbers.proofs.Common.{◌≡◌, ◌≢◌, ◌<◌, ◌+◌, ℕ, zero, suc, Bool, true, false, ◌||◌, ◌==◌, List, [], ◌∷◌, take, drop, slice_get, slice_set, Option, Some, None, refl, sym, ap, ◌∙◌, subst, inl, inr, arith, option_map, option_map_or, eq-eqb, eqb_tells, first_from, is_taken_beside, takes_up, Entry, IsFound, found, set_here, set_other, AreNumbers, IsIdle, Numbers}
use Rattle.std.specs.List.{list_any}
use Rattle.osdp_bus_laws.proofs.Places.{free_beside, none_at}

-- what the panel has of an entry, and what stands for it by the other number: the same, or an idle entry where it is left out
pub data IsUnder (o q : Option Entry) : Type 0 where
  Same : q ≡ o → IsUnder o q
  LeftOut : (g : Entry) → o ≡ None → q ≡ Some g → IsIdle g → IsUnder o q

abbrev pub AreUnder : Numbers → List Entry → List Entry → Type 0
AreUnder n ds es = (i : ℕ) → IsUnder (slice_get ds i) (slice_get es (n.ordered i))

pub present : (d : Entry) (o q : Option Entry) → o ≡ Some d → IsUnder o q → q ≡ Some d
present d o q at (Same is) = is ∙ at
present d o q at (LeftOut g none there idle) = absurd (let e = sym none ∙ at in cc)

pub data FromOther (o : Option Entry) (e : Entry) : Type 0 where
  IsEntry : o ≡ Some e → FromOther o e
  IsIdleOne : o ≡ None → IsIdle e → FromOther o e

pub from_other : (e : Entry) (o q : Option Entry) → q ≡ Some e → IsUnder o q → FromOther o e
from_other e o q at (Same is) = IsEntry (sym is ∙ at)
from_other e o q at (LeftOut g none there idle) = IsIdleOne none (subst IsIdle (let same : g ≡ e = (let both = sym there ∙ at in cc) in same) idle)

module _ (n : Numbers) (are : AreNumbers n) where
  pub apart_so : (i j : ℕ) → j ≢ i → n.ordered j ≢ n.ordered i
  apart_so i j other same = other (sym (are.back j) ∙ ap n.own same ∙ are.back i)

  -- whether it is the entry of this device
  pub number_test : (i k : ℕ) → (n.ordered i == k) ≡ (i == n.own k)
  number_test i k = elim (eqb_tells (n.ordered i) k) [
    | inl equal ↦ equal.0 ∙ sym (eq-eqb i (n.own k) (sym (are.back i) ∙ ap n.own equal.1))
    | inr differs ↦ elim (eqb_tells i (n.own k)) [
      | inl same ↦ absurd (differs.1 (ap n.ordered same.1 ∙ are.forth k))
      | inr other ↦ differs.0 ∙ sym other.0
    ]
  ]

  module _ (ds es : List Entry) (all : AreUnder n ds es) where
    -- the same by the number of the device
    pub own_there : (k : ℕ) → IsUnder (slice_get ds (n.own k)) (slice_get es k)
    own_there k = subst (λ j. IsUnder (slice_get ds (n.own k)) (slice_get es j)) (are.forth k) (all (n.own k))

    -- one changes
    pub set_under : (i : ℕ) (d e : Entry) → slice_get ds i ≡ Some d → AreUnder n (slice_set ds i e) (slice_set es (n.ordered i) e)
    set_under i d e at j = elim (eqb_tells j i) [
      | inl equal ↦ Same (
          ap (λ x. slice_get (slice_set es (n.ordered i) e) (n.ordered x)) equal.1
          ∙ set_here es (n.ordered i) d e (present d (slice_get ds i) (slice_get es (n.ordered i)) at (all i))
          ∙ sym (ap (slice_get (slice_set ds i e)) equal.1 ∙ set_here ds i d e at))
      | inr differs ↦
          subst (λ (p : Option Entry × Option Entry). IsUnder p.0 p.1)
          (λ x. (sym (set_other ds i j e differs.1) x, sym (set_other es (n.ordered i) (n.ordered j) e (apart_so i j differs.1)) x)) (all j)
    ]

    -- an idle one changes, and stays idle
    pub set_idle : (k : ℕ) (g e : Entry) → slice_get es k ≡ Some g → slice_get ds (n.own k) ≡ None → IsIdle e → AreUnder n ds (slice_set es k e)
    set_idle k g e at none idle j = elim (eqb_tells (n.ordered j) k) [
      | inl equal ↦
          LeftOut e (ap (slice_get ds) (sym (are.back j) ∙ ap n.own equal.1) ∙ none) (ap (slice_get (slice_set es k e)) equal.1 ∙ set_here es k g e at) idle
      | inr differs ↦ subst (IsUnder (slice_get ds j)) (sym (set_other es k (n.ordered j) e differs.1)) (all j)
    ]

-- ---- the one that passes a test

abbrev pub IsOnlyOne : (Entry → Bool) → List Entry → Type 0
IsOnlyOne test ds = (i j : ℕ) (d e : Entry) → slice_get ds i ≡ Some d → slice_get ds j ≡ Some e → test d ≡ true → test e ≡ true → i ≡ j

abbrev pub FailsIdle : (Entry → Bool) → Type 0
FailsIdle test = (g : Entry) → IsIdle g → test g ≡ false

-- of entries of which some are left out, whether one passes that no idle one passes
pub map_under : (test : Entry → Bool) → FailsIdle test → (o q : Option Entry) → IsUnder o q → option_map_or test q false ≡ option_map_or test o false
map_under test fails o q (Same is) = ap (λ x. option_map_or test x false) is
map_under test fails o q (LeftOut g none there idle) =
    ap (λ x. option_map_or test x false) there ∙ fails g idle ∙ sym (ap (λ x. option_map_or test x false) none)

-- the first that passes: the same, or else nobody is there and it is an idle one
pub data FirstUnder (n : Numbers) (test : Entry → Bool) (ds es : List Entry) (o q : Option ℕ) : Type 0 where
  IsFirst : q ≡ option_map n.ordered o → FirstUnder n test ds es o q
  IsIdleFirst : (k : ℕ) (g : Entry) → o ≡ None → q ≡ Some k → slice_get es k ≡ Some g → slice_get ds (n.own k) ≡ None → IsIdle g → test g ≡ true
      → FirstUnder n test ds es o q

pub first_of : (n : Numbers) → AreNumbers n → (ds es : List Entry) → AreUnder n ds es → (test : Entry → Bool) → IsOnlyOne test es
    → FirstUnder n test ds es (first_from 0 test ds) (first_from 0 test es)
first_of n are ds es all test one = by_found (first_from 0 test ds) (first_from 0 test es) (found test 0 ds) (found test 0 es)
  where
    by_other : (k y : ℕ) (e : Entry) → list_any test ds ≡ false → k ≡ y → slice_get es y ≡ Some e → test e ≡ true → FromOther (slice_get ds (n.own y)) e
        → FirstUnder n test ds es None (Some k)
    by_other k y e none at here passes (IsEntry there) = absurd (let fails = none_at test ds (n.own y) e none there in cc)
    by_other k y e none at here passes (IsIdleOne nobody idle) = IsIdleFirst y e refl (ap Some at) here nobody idle passes

    by_found : (o q : Option ℕ) → IsFound test 0 ds o → IsFound test 0 es q → FirstUnder n test ds es o q
    by_found None None a b = IsFirst refl
    by_found (Some i) None (x, (d, (at, there, passes))) none =
        absurd (let fails = none_at test es (n.ordered x) d none (present d (slice_get ds x) (slice_get es (n.ordered x)) there (all x)) in cc)
    by_found None (Some k) none (y, (e, (at, here, passes))) =
        by_other k y e none (omega (arith, at)) here passes (from_other e (slice_get ds (n.own y)) (slice_get es y) here (own_there n are ds es all y))
    by_found (Some i) (Some k) (x, (d, (at, there, passes))) (y, (e, (also, here, too))) =
        let i_is : i ≡ x = omega (arith, at) in
        let k_is : k ≡ y = omega (arith, also) in
        let same : n.ordered x ≡ y = one (n.ordered x) y d e (present d (slice_get ds x) (slice_get es (n.ordered x)) there (all x)) here passes too in
        IsFirst (ap Some (k_is ∙ sym same ∙ ap n.ordered (sym i_is)))

pub first_under : (n : Numbers) → AreNumbers n → (ds es : List Entry) → AreUnder n ds es → (test : Entry → Bool) → FailsIdle test → IsOnlyOne test es
    → first_from 0 test es ≡ option_map n.ordered (first_from 0 test ds)
first_under n are ds es all test fails one = by_first (first_of n are ds es all test one)
  where
    by_first : FirstUnder n test ds es (first_from 0 test ds) (first_from 0 test es) → first_from 0 test es ≡ option_map n.ordered (first_from 0 test ds)
    by_first (IsFirst is) = is
    by_first (IsIdleFirst k g none is here nobody idle passes) = absurd (let off = fails g idle in cc)

-- ---- who has taken an address

from_taken : (n k : ℕ) (ds : List Entry) (d : Entry) → slice_get (take n ds) k ≡ Some d → (k < n) × (slice_get ds k ≡ Some d)
from_taken zero k ds d is = absurd (let e = is in cc)
from_taken (suc n) k [] d is = absurd (let e = is in cc)
from_taken (suc n) zero (x ∷ ds) d is = (omega arith, is)
from_taken (suc n) (suc k) (x ∷ ds) d is = let rest = from_taken n k ds d is in let less = rest.0 in (omega (arith, less), rest.1)

from_dropped : (n k : ℕ) (ds : List Entry) (d : Entry) → slice_get (drop n ds) k ≡ Some d → slice_get ds (n + k) ≡ Some d
from_dropped zero k ds d is = ap (slice_get ds) (let e : zero + k ≡ k = omega arith in e) ∙ is
from_dropped (suc n) k [] d is = absurd (let e = is in cc)
from_dropped (suc n) k (x ∷ ds) d is = ap (slice_get (x ∷ ds)) (let e : suc n + k ≡ suc (n + k) = omega arith in e) ∙ from_dropped n k ds d is

none_any : (test : Entry → Bool) (ds : List Entry) → ((j : ℕ) (f : Entry) → slice_get ds j ≡ Some f → test f ≡ false) → list_any test ds ≡ false
none_any test [] fails = refl
none_any test (d ∷ ds) fails = (λ i. fails 0 d refl i || none_any test ds (λ j f at. fails (suc j) f at) i)

none_beside : (address entry : ℕ) (ds : List Entry) → ((j : ℕ) (f : Entry) → j ≢ entry → slice_get ds j ≡ Some f → takes_up address f ≡ false)
    → is_taken_beside entry address ds ≡ false
none_beside address entry ds fails = (λ i. none_any (takes_up address) (take entry ds) before i || none_any (takes_up address) (drop (entry + 1) ds) later i)
  where
    before : (j : ℕ) (f : Entry) → slice_get (take entry ds) j ≡ Some f → takes_up address f ≡ false
    before j f at = let there = from_taken entry j ds f at in let less = there.0 in fails j f (λ same. absurd (omega (arith, less, same))) there.1

    later : (j : ℕ) (f : Entry) → slice_get (drop (entry + 1) ds) j ≡ Some f → takes_up address f ≡ false
    later j f at = fails (entry + 1 + j) f (λ same. absurd (omega (arith, same))) (from_dropped (entry + 1) j ds f at)

-- what is taken of the panel's entries is taken of the others
pub taken_under : (n : Numbers) → AreNumbers n → (ds es : List Entry) → AreUnder n ds es → (i address : ℕ)
    → is_taken_beside i address ds ≡ true → is_taken_beside (n.ordered i) address es ≡ true
taken_under n are ds es all i address taken = by_test (is_taken_beside (n.ordered i) address es) refl
  where
    by_test : (x : Bool) → is_taken_beside (n.ordered i) address es ≡ x → is_taken_beside (n.ordered i) address es ≡ true
    by_test true is = is
    by_test false is =
        absurd (let free = none_beside address i ds
        (λ j f other at. free_beside address (n.ordered i) es (n.ordered j) f is (apart_so n are i j other)
        (present f (slice_get ds j) (slice_get es (n.ordered j)) at (all j))) in cc)
