-- Which line of the table a packet meets.
use Rattle.osdp_reader_laws.proofs.Common.{◌≡◌, ◌≢◌, ℕ, Bool, true, false, cond, eqb, Option, Some, None, refl, sym, ◌∙◌, inl, inr, false≢true, Packet, next_sequence, Kind, Silent, Secured, Zero, Repeat, Taken, Busy, Wrong, ReaderState, kind_by_number, kind_of, is_for_another}
use Rattle.std.proofs.lemmas.Bool.Decides.{eqb_tells}

zero_chain : (past block zero : Bool) (first by_number : Kind) → by_number ≢ Zero
    → cond past Silent (cond block Secured (cond zero first by_number)) ≡ Zero → zero ≡ true
zero_chain true block zero first by_number other e = absurd cc
zero_chain false true zero first by_number other e = absurd cc
zero_chain false false true first by_number other e = refl
zero_chain false false false first by_number other e = absurd (other e)

never_zero : (same next busy : Bool) → cond same Repeat (cond next (cond busy Busy Taken) Wrong) ≢ Zero
never_zero true next busy e = absurd cc
never_zero false true true e = absurd cc
never_zero false true false e = absurd cc
never_zero false false busy e = absurd cc

number_never_zero : (last : Option ℕ) (sequence : ℕ) (busy : Bool) → kind_by_number last sequence busy ≢ Zero
number_never_zero None sequence busy e = absurd cc
number_never_zero (Some last) sequence busy e =
    never_zero (eqb sequence last) (eqb sequence (next_sequence last)) busy e

module _ {H : Type 0} where
  -- a Zero has number 0
  pub zero_number : (r : ReaderState H) (p : Packet) → kind_of r p ≡ Zero → p.sequence ≡ 0
  zero_number r p e =
      let is = zero_chain (is_for_another r p) p.block (eqb p.sequence 0) (cond r.busy Busy Zero) (kind_by_number r.last p.sequence r.busy)
      (number_never_zero r.last p.sequence r.busy) e in
      let tells = eqb_tells p.sequence 0 in
      elim tells [ inl same ↦ same.1 | inr other ↦ absurd (false≢true (sym other.0 ∙ is)) ]
