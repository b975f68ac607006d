-- What a framer's fields say of what it holds.
use Rattle.osdp_frame.proofs.Common.{◌≡◌, ℕ, ◌<◌, Bool, true, false, not, ◌&&◌, eqb, ltb, List, length, drop, Some, None, refl, sym, ap, subst, ◌∙◌, arith, inl, inr, cases_lt, le-ltb, lt-ltb, nat_tests, First, AreBytes, RunItem, item_size, IsFirst, IsUndecided, Held, decided, later, after_first, after_advance, item_in, item_if, FirstFits}
use Rattle.osdp_frame.specs.declared.framer.Framer.TheInside.{Inside}
use Rattle.osdp_frame.specs.Framed.{held_of, IsFramer}
use Rattle.osdp_frame.proofs.Decided.{first_decided, undecided_none, undecided_first}

-- ---- what is shown

pub shown_first : (f : Inside) (held : Held) (first : First) (part : RunItem) → held_of f ≡ held → IsFramer f → AreBytes (f.held.bytes) → f.first ≡ Some first → part ≡ item_in first (f.held.bytes) → IsFirst held.ended held.bytes part
shown_first f held first part is inv bytes kept shown =
    let decision : decided f.ended (f.held.bytes) ≡ Some part = sym inv.first ∙ ap (λ o. item_if o (f.held.bytes)) kept ∙ ap Some (sym shown) in
    subst (λ (h : Held). IsFirst h.ended h.bytes part) is (first_decided f.ended (f.held.bytes) part bytes decision)

pub shown_none : (f : Inside) (held : Held) → held_of f ≡ held → IsFramer f → f.first ≡ None → IsUndecided held.ended held.bytes
shown_none f held is inv none =
    let decision : decided f.ended (f.held.bytes) ≡ None = sym inv.first ∙ ap (λ o. item_if o (f.held.bytes)) none in
    subst (λ (h : Held). IsUndecided h.ended h.bytes) is (undecided_none f.ended (f.held.bytes) decision)

pub shown_some : (f : Inside) (held : Held) (first : First) (part : RunItem) → held_of f ≡ held → IsFramer f → AreBytes (f.held.bytes) → f.first ≡ Some first → part ≡ item_in first (f.held.bytes) → IsUndecided held.ended held.bytes → ⊥
shown_some f held first part is inv bytes kept shown wants =
    undecided_first held.ended held.bytes part wants (shown_first f held first part is inv bytes kept shown)

-- ---- an item is taken off

still_ended : (ended : Bool) (n : ℕ) → (ended && ltb 0 n) ≡ (ended && not (eqb n 0))
still_ended true n = elim (cases_lt 0 n) [
  | inl lt ↦ lt-ltb 0 n lt ∙ not_zero n lt
  | inr le ↦ le-ltb 0 n le ∙ ap (λ k. not (eqb k 0)) (let z : 0 ≡ n = omega arith in z)
]
  where
    not_zero : (k : ℕ) → 0 < k → true ≡ not (eqb k 0)
    not_zero k h = grind (arith, nat_tests)
still_ended false n = refl

pub kept_fits : (f : Inside) (first : First) → IsFramer f → f.first ≡ Some first → FirstFits f.held.bytes (Some first)
kept_fits f first inv kept = subst (λ o. FirstFits f.held.bytes o) kept inv.fits

pub advanced : (f : Inside) (held : Held) (first : First) (size : ℕ) (ended : Bool) (bytes : List ℕ) → held_of f ≡ held → IsFramer f → f.first ≡ Some first
    → item_size (item_in first f.held.bytes) ≡ size → bytes ≡ drop size f.held.bytes → ended ≡ (f.ended && ltb 0 (length bytes)) → record { bytes = bytes; ended = ended } ≡ after_advance held
advanced f held first size ended bytes is inv kept size-is bytes-is ended-is =
    let part = item_in first f.held.bytes in
    let decision : decided f.ended f.held.bytes ≡ Some part = sym inv.first ∙ ap (λ o. item_if o f.held.bytes) kept in
    let rest : bytes ≡ drop (item_size part) f.held.bytes = bytes-is ∙ ap (λ n. drop n f.held.bytes) (sym size-is) in
    let done : ended ≡ (f.ended && not (eqb (length (drop (item_size part) f.held.bytes)) 0)) =
    ended-is ∙ still_ended f.ended (length bytes) ∙ ap (λ (l : List ℕ). f.ended && not (eqb (length l) 0)) rest in
    let same : record { bytes = bytes; ended = ended } ≡ later (held_of f) part = λ i. record { bytes = rest i; ended = done i } in
    same ∙ sym (ap (after_first (held_of f)) decision) ∙ ap after_advance is
