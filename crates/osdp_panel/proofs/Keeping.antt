-- Entries of which one after the other keeps its youngest moments.
use Rattle.std.proofs.Common.{get_or}
use Rattle.osdp_panel.proofs.Common.{◌≡◌, ◌∙◌, ap, arith, ℕ, zero, suc, ◌+◌, ◌<◌, List, [], ◌∷◌, ◌++◌, length, take, drop, slice_set, BusState, device_of, Orders, kept, kept_from}

-- those before a place stay as they are; those from there on are to keep theirs
abbrev pub so_far : ℕ → ℕ → BusState → List Orders → List Orders
so_far entry k b os = take k os ++ kept_from entry b (drop k os)

-- the one at the place does
one_kept : (k entry : ℕ) (b : BusState) (os : List Orders) (o p : Orders) → k < length os → p ≡ kept (device_of entry b) (get_or os k o)
    → so_far (suc entry) (suc k) b (slice_set os k p) ≡ so_far entry k b os
one_kept k entry b [] o p within is = absurd (omega (arith, within))
one_kept zero entry b (x ∷ os) o p within is = ap (λ (y : Orders). y ∷ kept_from (suc entry) b os) is
one_kept (suc k) entry b (x ∷ os) o p within is = ap (λ ys. x ∷ ys) (one_kept k entry b os o p (omega (arith, within)) is)

pub one_kept_at : (k : ℕ) (b : BusState) (os : List Orders) (o p : Orders) → k < length os → p ≡ kept (device_of k b) (get_or os k o)
    → so_far (k + 1) (k + 1) b (slice_set os k p) ≡ so_far k k b os
one_kept_at k b os o p within is =
    let next : k + 1 ≡ suc k = omega arith in
    ap (λ (n : ℕ). so_far n n b (slice_set os k p)) next ∙ one_kept k k b os o p within is
