-- Places of a list of devices: what is found where one takes the place of another, or comes after them all.
use Rattle.osdp_bus_laws.proofs.Common.{◌≡◌, ◌∙◌, ap, sym, inl, inr, ℕ, zero, suc, ◌+◌, ◌-◌, ◌<◌, ◌≤◌, Bool, true, false, ◌||◌, ◌==◌, List, [], ◌∷◌, ◌++◌, length, take, drop, Option, Some, None, refl, arith, ◌⊎◌, ◌≢◌, nat_lt, if◌then◌else◌, option_and_then, slice_get, slice_set, list_any, eqb-true, ltb-true, ltb-false, Entry, is_taken, is_taken_beside, takes_up, any_at}
use Rattle.std.proofs.Math.Dec.{eqb-suc-suc, eqb-suc-zero, eqb-zero-suc}

-- at the place stands the new device, elsewhere what stood there
abbrev pub IsAt : List Entry → ℕ → Entry → ℕ → Entry → Type 0
IsAt ds i e j f = ((j ≡ i) × (f ≡ e)) ⊎ ((j ≢ i) × (slice_get ds j ≡ Some f))

at_next : (ds : List Entry) (x : Entry) (i : ℕ) (e : Entry) (j : ℕ) (f : Entry) → IsAt ds i e j f → IsAt (x ∷ ds) (suc i) e (suc j) f
at_next ds x i e j f (inl (same, is)) = inl (ap suc same, is)
at_next ds x i e j f (inr (other, there)) = inr ((λ h. other (let p : suc j ≡ suc i = h in omega arith)), there)

pub replaced : (ds : List Entry) (i : ℕ) (e : Entry) (j : ℕ) (f : Entry) → slice_get (slice_set ds i e) j ≡ Some f → IsAt ds i e j f
replaced [] i e j f at = absurd cc
replaced (x ∷ ds) zero e zero f at = inl (refl, cc)
replaced (x ∷ ds) zero e (suc j) f at = inr ((λ h. omega arith), at)
replaced (x ∷ ds) (suc i) e zero f at = inr ((λ h. omega arith), at)
replaced (x ∷ ds) (suc i) e (suc j) f at = at_next ds x i e j f (replaced ds i e j f at)

pub added : (ds : List Entry) (e : Entry) (j : ℕ) (f : Entry) → slice_get (ds ++ e ∷ []) j ≡ Some f → IsAt ds (length ds) e j f
added [] e zero f at = inl (refl, cc)
added [] e (suc j) f at = absurd cc
added (x ∷ ds) e zero f at = inr ((λ h. omega arith), at)
added (x ∷ ds) e (suc j) f at = at_next ds x (length ds) e j f (added ds e j f at)

-- what no device passes

pub both_false : (a b : Bool) → (a || b) ≡ false → (a ≡ false) × (b ≡ false)
both_false false b h = (refl, h)
both_false true b h = cc

pub is_false : (b : Bool) → (b ≡ true → ⊥) → b ≡ false
is_false false unless = refl
is_false true unless = absurd (unless refl)

pub none_at : (test : Entry → Bool) (ds : List Entry) (j : ℕ) (f : Entry) → list_any test ds ≡ false → slice_get ds j ≡ Some f → test f ≡ false
none_at test ds j f none at = is_false (test f) (λ h. let some = any_at test ds j f at h in absurd cc)

pub in_taken : (i j : ℕ) (ds : List Entry) (f : Entry) → j < i → slice_get ds j ≡ Some f → slice_get (take i ds) j ≡ Some f
in_taken zero j ds f below at = absurd (omega arith)
in_taken (suc i) j [] f below at = absurd cc
in_taken (suc i) zero (x ∷ ds) f below at = at
in_taken (suc i) (suc j) (x ∷ ds) f below at = in_taken i j ds f (omega arith) at

pub in_dropped : (i k : ℕ) (ds : List Entry) (f : Entry) → slice_get ds (i + k) ≡ Some f → slice_get (drop i ds) k ≡ Some f
in_dropped zero k ds f at = ap (slice_get ds) (let e : k ≡ zero + k = omega arith in e) ∙ at
in_dropped (suc i) k [] f at = absurd cc
in_dropped (suc i) k (x ∷ ds) f at = in_dropped i k ds f (ap (slice_get (x ∷ ds)) (let e : suc (i + k) ≡ suc i + k = omega arith in e) ∙ at)

past : (i j : ℕ) → i ≤ j → (j ≡ i → ⊥) → i + 1 + (j - (i + 1)) ≡ j
past i j above other = by_next (nat_lt i j) refl
  where
    by_next : (b : Bool) → nat_lt i j ≡ b → i + 1 + (j - (i + 1)) ≡ j
    by_next true is = let lt = ltb-true i j is in omega arith
    by_next false is = absurd (let le = ltb-false i j is in other (omega arith))

-- an address that no other device takes up
pub free_beside : (address entry : ℕ) (ds : List Entry) (j : ℕ) (f : Entry) → is_taken_beside entry address ds ≡ false → j ≢ entry
    → slice_get ds j ≡ Some f → takes_up address f ≡ false
free_beside address entry ds j f free other at =
    let parts = both_false (is_taken address (take entry ds)) (is_taken address (drop (entry + 1) ds)) free in
    by_side (nat_lt j entry) refl parts.0 parts.1
  where
    by_side : (b : Bool) → nat_lt j entry ≡ b → is_taken address (take entry ds) ≡ false → is_taken address (drop (entry + 1) ds) ≡ false
        → takes_up address f ≡ false
    by_side true is before after = none_at (takes_up address) (take entry ds) j f before (in_taken entry j ds f (ltb-true j entry is) at)
    by_side false is before after =
        let above : entry ≤ j = ltb-false j entry is in
        let apart : (j ≡ entry) → ⊥ = other in
        let place : entry + 1 + (j - (entry + 1)) ≡ j = past entry j above apart in
        none_at (takes_up address) (drop (entry + 1) ds) (j - (entry + 1)) f after
        (in_dropped (entry + 1) (j - (entry + 1)) ds f (ap (slice_get ds) place ∙ at))

-- what is reserved at a place
abbrev pub reserved_in : ℕ → List Entry → Option ℕ
reserved_in j ds = option_and_then (λ d. d.reserved) (slice_get ds j)

pub reserved_set : (ds : List Entry) (i : ℕ) (d e : Entry) (j : ℕ) → slice_get ds i ≡ Some d
    → reserved_in j (slice_set ds i e) ≡ (if i == j then e.reserved else reserved_in j ds)
reserved_set [] i d e j at = absurd cc
reserved_set (x ∷ ds) zero d e zero at = refl
reserved_set (x ∷ ds) zero d e (suc j) at = let other = eqb-zero-suc j in rw other refl
reserved_set (x ∷ ds) (suc i) d e zero at = let other = eqb-suc-zero i in rw other refl
reserved_set (x ∷ ds) (suc i) d e (suc j) at = let next = eqb-suc-suc i j in rw next (reserved_set ds i d e j at)

pub reserved_there : (ds : List Entry) (i : ℕ) (d : Entry) (j : ℕ) → slice_get ds i ≡ Some d → (i == j) ≡ true → reserved_in j ds ≡ d.reserved
reserved_there ds i d j at same =
    let there : slice_get ds j ≡ Some d = ap (slice_get ds) (sym (eqb-true i j same)) ∙ at in
    ap (option_and_then (λ x. x.reserved)) there

pub reserved_added : (ds : List Entry) (e : Entry) (j : ℕ) → e.reserved ≡ None → reserved_in j (ds ++ e ∷ []) ≡ reserved_in j ds
reserved_added [] e zero none = none
reserved_added [] e (suc j) none = refl
reserved_added (x ∷ ds) e zero none = refl
reserved_added (x ∷ ds) e (suc j) none = reserved_added ds e j none
