-- The entries of a bus, their devices' stations and the sites of a net, place by place.
use Rattle.osdp_calls.proofs.Common.{◌≡◌, ◌≢◌, ◌≤◌, ℕ, zero, suc, ◌+◌, true, List, [], ◌∷◌, length, Option, Some, None, refl, sym, subst, ap, arith, Entry, Site, changed, site_at, Station}
use Rattle.std.specs.Prelude.{is_some, map, slice_get, slice_set}

pub data Match {H : Type 0} (P : ℕ → Entry → Station H → Site H → Type 0) : ℕ → List Entry → List (Station H) → List (Site H) → Type 0 where
  Done : (i : ℕ) (ds : List Entry) → Match P i ds [] []
  And : (i : ℕ) (d : Entry) (t : Station H) (s : Site H) (ds : List Entry) (ts : List (Station H)) (ss : List (Site H))
      → P i d t s → Match P (suc i) ds ts ss → Match P i (d ∷ ds) (t ∷ ts) (s ∷ ss)

pub changed_same : {A : Type 0} (k : ℕ) (x : A) (xs : List A) → site_at k xs ≡ Some x → changed k x xs ≡ xs
changed_same k x [] is = refl
changed_same zero x (y ∷ xs) is = let same : y ≡ x = cc in ap (λ z. z ∷ xs) (sym same)
changed_same (suc k) x (y ∷ xs) is = ap (λ l. y ∷ l) (changed_same k x xs is)

pub set_same : {A : Type 0} (k : ℕ) (x : A) (xs : List A) → slice_get xs k ≡ Some x → slice_set xs k x ≡ xs
set_same k x [] is = refl
set_same zero x (y ∷ xs) is = let same : y ≡ x = cc in ap (λ z. z ∷ xs) (sym same)
set_same (suc k) x (y ∷ xs) is = ap (λ l. y ∷ l) (set_same k x xs is)

-- nothing is there past the end of a list
pub none_past : {A : Type 0} (k : ℕ) (xs : List A) → length xs ≤ k → site_at k xs ≡ None
none_past k [] le = refl
none_past zero (x ∷ xs) le = absurd (omega (arith, le))
none_past (suc k) (x ∷ xs) le = none_past k xs (omega (arith, le))

-- there is something at this place
abbrev pub IsOurs : {A : Type 0} → ℕ → List A → Type 0
IsOurs k xs = is_some (site_at k xs) ≡ true

pub changed_some : {A : Type 0} (k i : ℕ) (x : A) (xs : List A) → is_some (site_at k (changed i x xs)) ≡ is_some (site_at k xs)
changed_some k i x [] = refl
changed_some zero zero x (y ∷ xs) = refl
changed_some zero (suc i) x (y ∷ xs) = refl
changed_some (suc k) zero x (y ∷ xs) = refl
changed_some (suc k) (suc i) x (y ∷ xs) = changed_some k i x xs

pub ours_below : {A : Type 0} (j k : ℕ) (xs : List A) → j ≤ k → IsOurs k xs → IsOurs j xs
ours_below j k [] le own = own
ours_below zero k (x ∷ xs) le own = refl
ours_below (suc j) zero (x ∷ xs) le own = absurd (omega (arith, le))
ours_below (suc j) (suc k) (x ∷ xs) le own = ours_below j k xs (omega (arith, le)) own

pub is_there : {A : Type 0} (o : Option A) → is_some o ≡ true → (x : A) × (o ≡ Some x)
is_there None some = absurd (let e = some in cc)
is_there (Some x) some = (x, refl)

module _ {H : Type 0} (P : ℕ → Entry → Station H → Site H → Type 0) where
  -- who is at a place
  pub data FoundAt (j k : ℕ) (ds : List Entry) (ts : List (Station H)) (ss : List (Site H)) : Type 0 where
    Nobody : (o : Option Entry) → slice_get ds k ≡ o → site_at k ts ≡ None → site_at k ss ≡ None → FoundAt j k ds ts ss
    Somebody : (d : Entry) (t : Station H) (s : Site H) → slice_get ds k ≡ Some d → site_at k ts ≡ Some t → site_at k ss ≡ Some s
        → P j d t s → FoundAt j k ds ts ss

  pub found_from : (i j k : ℕ) (ds : List Entry) (ts : List (Station H)) (ss : List (Site H)) → j ≡ i + k → Match P i ds ts ss → FoundAt j k ds ts ss
  found_from i j k ds ts ss at (Done i2 ds2) = Nobody (slice_get ds k) refl refl refl
  found_from i j zero ds2 ts2 ss2 at (And i2 d t s ds ts ss is rest) =
      let here : i ≡ j = omega (arith, at) in Somebody d t s refl refl refl (subst (λ x. P x d t s) here is)
  found_from i j (suc k) ds2 ts2 ss2 at (And i2 d t s ds ts ss is rest) =
      further (found_from (suc i) j k ds ts ss (omega (arith, at)) rest)
    where
      further : FoundAt j k ds ts ss → FoundAt j (suc k) (d ∷ ds) (t ∷ ts) (s ∷ ss)
      further (Nobody o a b c) = Nobody o a b c
      further (Somebody d1 t1 s1 a b c has) = Somebody d1 t1 s1 a b c has

  pub found : (k : ℕ) (ds : List Entry) (ts : List (Station H)) (ss : List (Site H)) → Match P 0 ds ts ss → FoundAt k k ds ts ss
  found k ds ts ss m = found_from 0 k k ds ts ss (omega arith) m

  pub set_from : (i j k : ℕ) (d : Entry) (t : Station H) (s : Site H) (ds : List Entry) (ts : List (Station H)) (ss : List (Site H)) → j ≡ i + k
      → Match P i ds ts ss → P j d t s → Match P i (slice_set ds k d) (changed k t ts) (changed k s ss)
  set_from i j k d t s ds ts ss at (Done i2 ds2) has = Done i (slice_set ds k d)
  set_from i j zero d t s ds2 ts2 ss2 at (And i2 d1 t1 s1 ds ts ss is rest) has =
      let here : j ≡ i = omega (arith, at) in And i d t s ds ts ss (subst (λ x. P x d t s) here has) rest
  set_from i j (suc k) d t s ds2 ts2 ss2 at (And i2 d1 t1 s1 ds ts ss is rest) has =
      And i d1 t1 s1 (slice_set ds k d) (changed k t ts) (changed k s ss) is (set_from (suc i) j k d t s ds ts ss (omega (arith, at)) rest has)

  pub set : (k : ℕ) (d : Entry) (t : Station H) (s : Site H) (ds : List Entry) (ts : List (Station H)) (ss : List (Site H))
      → Match P 0 ds ts ss → P k d t s → Match P 0 (slice_set ds k d) (changed k t ts) (changed k s ss)
  set k d t s ds ts ss m has = set_from 0 k k d t s ds ts ss (omega arith) m has

  -- an entry without a station changes
  set_other_from : (i k : ℕ) (d : Entry) (ds : List Entry) (ts : List (Station H)) (ss : List (Site H)) → site_at k ts ≡ None
      → Match P i ds ts ss → Match P i (slice_set ds k d) ts ss
  set_other_from i k d ds ts ss none (Done i2 ds2) = Done i (slice_set ds k d)
  set_other_from i zero d ds2 ts2 ss2 none (And i2 d1 t1 s1 ds ts ss is rest) = absurd (let e = none in cc)
  set_other_from i (suc k) d ds2 ts2 ss2 none (And i2 d1 t1 s1 ds ts ss is rest) =
      And i d1 t1 s1 (slice_set ds k d) ts ss is (set_other_from (suc i) k d ds ts ss none rest)

  pub set_other : (k : ℕ) (d : Entry) (ds : List Entry) (ts : List (Station H)) (ss : List (Site H)) → site_at k ts ≡ None
      → Match P 0 ds ts ss → Match P 0 (slice_set ds k d) ts ss
  set_other k d ds ts ss none m = set_other_from 0 k d ds ts ss none m

  -- one of each stays as it is
  pub set_station : (k : ℕ) (d : Entry) (t : Station H) (s : Site H) (ds : List Entry) (ts : List (Station H)) (ss : List (Site H))
      → Match P 0 ds ts ss → slice_get ds k ≡ Some d → P k d t s → Match P 0 ds (changed k t ts) (changed k s ss)
  set_station k d t s ds ts ss m at has = subst (λ es. Match P 0 es (changed k t ts) (changed k s ss)) (set_same k d ds at) (set k d t s ds ts ss m has)

module _ {H : Type 0} (P Q : ℕ → Entry → Station H → Site H → Type 0) where
  pub matched : (i : ℕ) (ds : List Entry) (ts : List (Station H)) (ss : List (Site H))
      → ((j : ℕ) (d : Entry) (t : Station H) (s : Site H) → P j d t s → Q j d t s) → Match P i ds ts ss → Match Q i ds ts ss
  matched i ds ts ss f (Done i2 ds2) = Done i ds
  matched i ds2 ts2 ss2 f (And i2 d t s ds ts ss is rest) = And i d t s ds ts ss (f i d t s is) (matched (suc i) ds ts ss f rest)

  -- those from a number on
  pub matched_above : (i : ℕ) (ds : List Entry) (ts : List (Station H)) (ss : List (Site H))
      → ((j : ℕ) (d : Entry) (t : Station H) (s : Site H) → i ≤ j → P j d t s → Q j d t s) → Match P i ds ts ss → Match Q i ds ts ss
  matched_above i ds ts ss f (Done i2 ds2) = Done i ds
  matched_above i ds2 ts2 ss2 f (And i2 d t s ds ts ss is rest) =
      And i d t s ds ts ss (f i d t s (omega arith) is) (matched_above (suc i) ds ts ss (λ j d1 t1 s1 le has. f j d1 t1 s1 (omega (arith, le)) has) rest)

  -- one is set, and the others are what they become
  set_others_from : (i j k : ℕ) (d : Entry) (t : Station H) (s : Site H) (ds : List Entry) (ts : List (Station H)) (ss : List (Site H)) → j ≡ i + k
      → ((x : ℕ) (d1 : Entry) (t1 : Station H) (s1 : Site H) → x ≢ j → P x d1 t1 s1 → Q x d1 t1 s1)
      → Match P i ds ts ss → Q j d t s → Match Q i (slice_set ds k d) (changed k t ts) (changed k s ss)
  set_others_from i j k d t s ds ts ss at f (Done i2 ds2) has = Done i (slice_set ds k d)
  set_others_from i j zero d t s ds2 ts2 ss2 at f (And i2 d1 t1 s1 ds ts ss is rest) has =
      let here : j ≡ i = omega (arith, at) in
      And i d t s ds ts ss (subst (λ x. Q x d t s) here has)
      (matched_above (suc i) ds ts ss (λ x d2 t2 s2 le had. f x d2 t2 s2 (λ e. absurd (omega (arith, le, e, here))) had) rest)
  set_others_from i j (suc k) d t s ds2 ts2 ss2 at f (And i2 d1 t1 s1 ds ts ss is rest) has =
      And i d1 t1 s1 (slice_set ds k d) (changed k t ts) (changed k s ss) (f i d1 t1 s1 (λ e. absurd (omega (arith, at, e))) is)
      (set_others_from (suc i) j k d t s ds ts ss (omega (arith, at)) f rest has)

  pub set_others : (k : ℕ) (d : Entry) (t : Station H) (s : Site H) (ds : List Entry) (ts : List (Station H)) (ss : List (Site H))
      → ((x : ℕ) (d1 : Entry) (t1 : Station H) (s1 : Site H) → x ≢ k → P x d1 t1 s1 → Q x d1 t1 s1)
      → Match P 0 ds ts ss → Q k d t s → Match Q 0 (slice_set ds k d) (changed k t ts) (changed k s ss)
  set_others k d t s ds ts ss f m has = set_others_from 0 k k d t s ds ts ss (omega arith) f m has

  pub matched_map : (i : ℕ) (g : Site H → Site H) (ds : List Entry) (ts : List (Station H)) (ss : List (Site H))
      → ((j : ℕ) (d : Entry) (t : Station H) (s : Site H) → P j d t s → Q j d t (g s)) → Match P i ds ts ss → Match Q i ds ts (map g ss)
  matched_map i g ds ts ss f (Done i2 ds2) = Done i ds
  matched_map i g ds2 ts2 ss2 f (And i2 d t s ds ts ss is rest) = And i d t (g s) ds ts (map g ss) (f i d t s is) (matched_map (suc i) g ds ts ss f rest)
