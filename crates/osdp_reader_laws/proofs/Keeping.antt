-- A reply is stored after each number from 1 to 3.
use Rattle.osdp_reader_laws.proofs.Common.{◌≡◌, ℕ, suc, Option, Some, None, refl, arith, KeepsReply}
use Rattle.osdp_reader_laws.proofs.Outcomes.{IsKeptByEffects}

pub none_is_some : (o : Option ℕ) (n : ℕ) → o ≡ None → o ≡ Some n → ⊥
none_is_some o n none some = cc

same_some : (a b : ℕ) → Some a ≡ Some b → a ≡ b
same_some a b e = cc

zero_is_no_later : (n : ℕ) → Some 0 ≡ Some (suc n) → ⊥
zero_is_no_later n e = let same = same_some 0 (suc n) e in omega (arith, same)

module _ {H : Type 0} where
  pub keeps_reply : IsKeptByEffects (KeepsReply {H = H})
  keeps_reply = record {
    moved = λ r address within keeps n e. absurd (none_is_some None (suc n) refl e);
    zero = λ r handler keeps n e. absurd (zero_is_no_later n e);
    next = λ r number back told handler keeps n e. (back, refl);
  }
