-- Lines, read one after the other.
use Rattle.osdp_script.proofs.Common.{◌≡◌, ℕ, ◌+◌, ◌<◌, ◌≤◌, List, [], ◌∷◌, ◌++◌, length, refl, sym, ap, subst, ◌∙◌, arith, append_assoc, length-append, lines_of, AreRead, IsRead, Plan, no_plan}

-- the lines above the rest are read, and are so many
pub record HasRead (bytes rest : List ℕ) (count : ℕ) (p : Plan) : Type 0 where
  pub above : List (List ℕ)
  pub whole : lines_of bytes ≡ above ++ lines_of rest
  pub good : AreRead no_plan above p
  pub number : count ≡ length above
  pub room : count + length rest ≤ length bytes

are_read_more : (p : Plan) (lines : List (List ℕ)) (q : Plan) (line : List ℕ) (r : Plan) → AreRead p lines q → IsRead q line r
    → AreRead p (lines ++ line ∷ []) r
are_read_more p [] q line r done more = (r, subst (λ (x : Plan). IsRead x line r) done more, refl)
are_read_more p (first ∷ lines) q line r done more = (done.0, done.1, are_read_more done.0 lines q line r done.2 more)

-- one line more
pub read_more : (bytes rest line below : List ℕ) (count : ℕ) (p q : Plan) → HasRead bytes rest count p
    → lines_of rest ≡ line ∷ lines_of below → length below < length rest → IsRead p line q → HasRead bytes below (count + 1) q
read_more bytes rest line below count p q so_far cut shorter more = record {
  above = so_far.above ++ line ∷ [];
  whole = so_far.whole ∙ ap (λ lines. so_far.above ++ lines) cut ∙ sym (append_assoc so_far.above (line ∷ []) (lines_of below));
  good = are_read_more no_plan so_far.above p line q so_far.good more;
  number = omega (arith, so_far.number, length-append so_far.above (line ∷ []));
  room = omega (arith, so_far.room, shorter);
}
