-- What is remembered of each entry that there may be, by the list of what is remembered of those that are there.
use Rattle.osdp_bus.proofs.Common.{◌≡◌, ◌∙◌, ℕ, zero, suc, ◌-◌, ◌<◌, ◌≤◌, false, List, [], ◌∷◌, ◌++◌, length, replicate, Some, None, refl, sym, ap, arith, append_assoc, slice_get, slice_set, option_map_or, Report, Entry, memories_of, Remembered, may_be_again, memory_at, nothing_yet, remembers, remembers_at}
use Rattle.osdp_controller.specs.declared.report.Report.TheVariants as report

-- a new entry has told nothing, as one that isn't there
pub one_more : (ms : List Remembered) → length ms < 16 → memories_of (ms ++ nothing_yet ∷ []) ≡ memories_of ms
one_more ms few =
    append_assoc ms (nothing_yet ∷ []) (replicate (16 - length (ms ++ nothing_yet ∷ [])) nothing_yet)
    ∙ sym (ap (λ n. ms ++ replicate n nothing_yet) count)
  where
    one_longer : (xs : List Remembered) → length (xs ++ nothing_yet ∷ []) ≡ suc (length xs)
    one_longer [] = refl
    one_longer (x ∷ xs) = ap suc (one_longer xs)

    count : 16 - length ms ≡ suc (16 - length (ms ++ nothing_yet ∷ []))
    count = let e = one_longer ms in omega (arith, few, e)

-- nothing was told before
never_again : (r : Report) → may_be_again r nothing_yet ≡ false
never_again (report.Event e) = refl
never_again _ = refl

nothing_at : (n k : ℕ) → memory_at k (replicate n nothing_yet) ≡ nothing_yet
nothing_at zero zero = refl
nothing_at zero (suc k) = refl
nothing_at (suc n) zero = refl
nothing_at (suc n) (suc k) = nothing_at n k

not_there : (ms : List Remembered) (n k : ℕ) → length ms ≤ k → memory_at k (ms ++ replicate n nothing_yet) ≡ nothing_yet
not_there [] n k beyond = nothing_at n k
not_there (m ∷ ms) n zero beyond = absurd (omega (arith, beyond))
not_there (m ∷ ms) n (suc k) beyond = not_there ms n k (omega (arith, beyond))

pub never_there : (r : Report) (ms : List Remembered) (k : ℕ) → length ms ≤ k → false ≡ may_be_again r (memory_at k (memories_of ms))
never_there r ms k beyond = sym (ap (may_be_again r) (not_there ms (16 - length ms) k beyond) ∙ never_again r)

there : (ms more : List Remembered) (k : ℕ) (m : Remembered) → slice_get ms k ≡ Some m → memory_at k (ms ++ more) ≡ m
there [] more k m at = absurd cc
there (x ∷ ms) more zero m at = cc
there (x ∷ ms) more (suc k) m at = there ms more k m at

pub judged_there : (r : Report) (ms : List Remembered) (k : ℕ) (m : Remembered) → slice_get ms k ≡ Some m
    → may_be_again r m ≡ may_be_again r (memory_at k (memories_of ms))
judged_there r ms k m at = sym (ap (may_be_again r) (there ms (replicate (16 - length ms) nothing_yet) k m at))

-- a report is remembered at its place
set_there : (ms more : List Remembered) (k : ℕ) (m : Remembered) (r : Report) → slice_get ms k ≡ Some m
    → slice_set ms k (remembers r m) ++ more ≡ remembers_at k r (ms ++ more)
set_there [] more k m r at = absurd cc
set_there (x ∷ ms) more zero m r at = let same : m ≡ x = cc in ap (λ y. remembers r y ∷ (ms ++ more)) same
set_there (x ∷ ms) more (suc k) m r at = ap (λ l. x ∷ l) (set_there ms more k m r at)

set_length : (ms : List Remembered) (k : ℕ) (m : Remembered) → length (slice_set ms k m) ≡ length ms
set_length [] k m = refl
set_length (x ∷ ms) zero m = refl
set_length (x ∷ ms) (suc k) m = ap suc (set_length ms k m)

is_there : (ds : List Entry) (k : ℕ) → k < length ds → (d : Entry) × (slice_get ds k ≡ Some d)
is_there [] k within = absurd (omega (arith, within))
is_there (d ∷ ds) zero within = (d, refl)
is_there (d ∷ ds) (suc k) within = is_there ds k (omega (arith, within))

pub remembered_there : (ms : List Remembered) (ds : List Entry) (k : ℕ) (m : Remembered) (r : Report) → slice_get ms k ≡ Some m → k < length ds
    → memories_of (slice_set ms k (remembers r m)) ≡ option_map_or (λ d. remembers_at k r (memories_of ms)) (slice_get ds k) (memories_of ms)
remembered_there ms ds k m r at within =
    let d = is_there ds k within in
    ap (λ n. slice_set ms k (remembers r m) ++ replicate (16 - n) nothing_yet) (set_length ms k (remembers r m))
    ∙ set_there ms (replicate (16 - length ms) nothing_yet) k m r at
    ∙ sym (ap (λ o. option_map_or (λ d. remembers_at k r (memories_of ms)) o (memories_of ms)) d.1)

gone : (ds : List Entry) (k : ℕ) → length ds ≤ k → slice_get ds k ≡ None
gone [] k beyond = refl
gone (d ∷ ds) zero beyond = absurd (omega (arith, beyond))
gone (d ∷ ds) (suc k) beyond = gone ds k (omega (arith, beyond))

pub nowhere_remembered : (ms : List Remembered) (ds : List Entry) (k : ℕ) (r : Report) → length ds ≤ k
    → memories_of ms ≡ option_map_or (λ d. remembers_at k r (memories_of ms)) (slice_get ds k) (memories_of ms)
nowhere_remembered ms ds k r beyond = sym (ap (λ o. option_map_or (λ d. remembers_at k r (memories_of ms)) o (memories_of ms)) (gone ds k beyond))

pub ruleset remembering = (one_more, never_there, judged_there, remembered_there, nowhere_remembered)
