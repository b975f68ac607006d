-- How many bytes decide the first item of some.
use Rattle.osdp_tool_show.proofs.Common.{◌≡◌, ◌⊎◌, ℕ, zero, suc, ◌<◌, List, length, refl, inl, inr, arith, cases_order}
use Rattle.osdp_frame.specs.Ahead.{IsDecidedBy}

-- where bytes are there, one of them at least
pub decides_some : (count : ℕ) (bytes : List ℕ) → IsDecidedBy count bytes → 0 < length bytes → 0 < count
decides_some zero bytes is some = absurd (omega (arith, is.decides (inl refl)))
decides_some (suc more) bytes is some = omega arith

-- one number decides it
no_fewer : (bytes : List ℕ) (a b : ℕ) → IsDecidedBy a bytes → IsDecidedBy b bytes → a < b → ⊥
no_fewer bytes a b h g less = let whole = h.decides (g.least a less) in omega (arith, whole, g.within, less)

by_order : (bytes : List ℕ) (a b : ℕ) → IsDecidedBy a bytes → IsDecidedBy b bytes → (a ≡ b) ⊎ ((a < b) ⊎ (b < a)) → a ≡ b
by_order bytes a b h g (inl same) = same
by_order bytes a b h g (inr (inl less)) = absurd (no_fewer bytes a b h g less)
by_order bytes a b h g (inr (inr more)) = absurd (no_fewer bytes b a g h more)

pub one_count : (bytes : List ℕ) (a b : ℕ) → IsDecidedBy a bytes → IsDecidedBy b bytes → a ≡ b
one_count bytes a b h g = by_order bytes a b h g (cases_order a b)
