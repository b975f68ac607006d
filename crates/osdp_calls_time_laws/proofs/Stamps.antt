-- The moments of what was said.
use Rattle.osdp_calls_time_laws.proofs.Common.{◌≡◌, ◌≤◌, ◌<◌, ℕ, zero, suc, List, [], ◌∷◌, ◌++◌, length, Some, refl, arith, subst, ap, site_at, stamped}

pub stamped_length : {A : Type 0} (at : ℕ) (bs : List A) (ms : List ℕ) → length (stamped at bs ms) ≡ length bs
stamped_length at [] ms = refl
stamped_length at (b ∷ bs) [] = let rest = stamped_length at bs [] in omega (arith, rest)
stamped_length at (b ∷ bs) (m ∷ ms) = let rest = stamped_length at bs ms in omega (arith, rest)

-- what is said is said now, or has the moment that it had
pub data IsStamped {A : Type 0} (at : ℕ) (old new : List A) (ms : List ℕ) (i : ℕ) (b : A) (m : ℕ) : Type 0 where
  WasSaid : site_at i old ≡ Some b → site_at i ms ≡ Some m → IsStamped at old new ms i b m
  SaidNow : length old ≤ i → m ≡ at → (j : ℕ) → site_at j new ≡ Some b → IsStamped at old new ms i b m

stamped_now : {A : Type 0} (at : ℕ) (bs : List A) (i m : ℕ) → site_at i (stamped at bs []) ≡ Some m → m ≡ at
stamped_now at [] i m is = absurd (let e = is in cc)
stamped_now at (b ∷ bs) zero m is = let same : Some at ≡ Some m = is in cc
stamped_now at (b ∷ bs) (suc i) m is = stamped_now at bs i m is

pub is_stamped : {A : Type 0} (at : ℕ) (old new : List A) (ms : List ℕ) → length ms ≡ length old → (i : ℕ) (b : A) (m : ℕ)
    → site_at i (old ++ new) ≡ Some b → site_at i (stamped at (old ++ new) ms) ≡ Some m → IsStamped at old new ms i b m
is_stamped at [] new [] same i b m is stamp = SaidNow (omega arith) (stamped_now at new i m stamp) i is
is_stamped at [] new (x ∷ ms) same i b m is stamp = absurd (omega (arith, same))
is_stamped at (a ∷ old) new [] same i b m is stamp = absurd (omega (arith, same))
is_stamped at (a ∷ old) new (x ∷ ms) same zero b m is stamp = WasSaid is stamp
is_stamped at (a ∷ old) new (x ∷ ms) same (suc i) b m is stamp = further (is_stamped at old new ms (omega (arith, same)) i b m is stamp)
  where
    further : IsStamped at old new ms i b m → IsStamped at (a ∷ old) new (x ∷ ms) (suc i) b m
    further (WasSaid there then) = WasSaid there then
    further (SaidNow past now j there) = SaidNow (omega (arith, past)) now j there

-- each stamp is one from before, or this one
pub stamp_is : {A : Type 0} (P : ℕ → Type 0) (at : ℕ) (bs : List A) (ms : List ℕ) → P at → ((i m : ℕ) → site_at i ms ≡ Some m → P m)
    → (i m : ℕ) → site_at i (stamped at bs ms) ≡ Some m → P m
stamp_is P at [] ms now then i m is = absurd (let e = is in cc)
stamp_is P at (b ∷ bs) [] now then zero m is = let same : at ≡ m = cc in subst P same now
stamp_is P at (b ∷ bs) [] now then (suc i) m is = stamp_is P at bs [] now then i m is
stamp_is P at (b ∷ bs) (x ∷ ms) now then zero m is = then zero m is
stamp_is P at (b ∷ bs) (x ∷ ms) now then (suc i) m is = stamp_is P at bs ms now (λ j n there. then (suc j) n there) i m is

pub there_is : {A : Type 0} (i : ℕ) (xs : List A) → i < length xs → (x : A) × (site_at i xs ≡ Some x)
there_is i [] lt = absurd (omega (arith, lt))
there_is zero (x ∷ xs) lt = (x, refl)
there_is (suc i) (x ∷ xs) lt = there_is i xs (omega (arith, lt))

-- nothing more was said
pub stamped_same : {A : Type 0} (at : ℕ) (bs : List A) (ms : List ℕ) → length ms ≡ length bs → stamped at bs ms ≡ ms
stamped_same at [] [] same = refl
stamped_same at [] (m ∷ ms) same = absurd (omega (arith, same))
stamped_same at (b ∷ bs) [] same = absurd (omega (arith, same))
stamped_same at (b ∷ bs) (m ∷ ms) same = ap (λ xs. m ∷ xs) (stamped_same at bs ms (omega (arith, same)))
