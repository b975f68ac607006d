-- What stands after the first line.
use Rattle.osdp_script.proofs.Common.{◌≡◌, ◌∙◌, inl, inr, ℕ, List, ◌∷◌, ◌++◌, length, sym, ap, arith, append_cancel_left, length-append, BeginsWithLine, line_feed}

-- a line that ends is shorter than what it stands in
longer : (line rest : List ℕ) → line ≡ line ++ line_feed ∷ rest → ⊥
longer line rest same = let count = ap length same ∙ length-append line (line_feed ∷ rest) in omega (arith, count)

after_feed : (rest left : List ℕ) → line_feed ∷ rest ≡ line_feed ∷ left → rest ≡ left
after_feed rest left same = cc

pub one_rest : (bytes line rest left : List ℕ) → BeginsWithLine bytes line rest → BeginsWithLine bytes line left → rest ≡ left
one_rest bytes line rest left (inl h) (inl g) =
    after_feed rest left (append_cancel_left line (line_feed ∷ rest) (line_feed ∷ left) (sym h ∙ g))
one_rest bytes line rest left (inr h) (inr g) = h.1 ∙ sym g.1
one_rest bytes line rest left (inl h) (inr g) = absurd (longer line rest (sym g.0 ∙ h))
one_rest bytes line rest left (inr h) (inl g) = absurd (longer line left (sym h.0 ∙ g))
