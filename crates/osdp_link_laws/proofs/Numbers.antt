-- Numbers of exchanges, and tests of numbers.
use Rattle.osdp_link_laws.proofs.Common.{◌≡◌, ◌≢◌, ℕ, true, false, eqb, inl, inr, arith, eqb_tells, next_sequence}

pub is_true : (a b : ℕ) → a ≡ b → eqb a b ≡ true
is_true a b same = elim (eqb_tells a b) [ inl is ↦ is.0 | inr other ↦ absurd (other.1 same) ]

pub is_false : (a b : ℕ) → a ≢ b → eqb a b ≡ false
is_false a b differ = elim (eqb_tells a b) [ inl is ↦ absurd (differ is.1) | inr other ↦ other.0 ]

pub next_differs : (n : ℕ) → next_sequence n ≢ n
next_differs n e = omega (arith, e)

pub next_above_zero : (n : ℕ) → next_sequence n ≢ 0
next_above_zero n e = omega (arith, e)
