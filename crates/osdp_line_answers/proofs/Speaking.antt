-- Lines that are answered in turn.
use Rattle.osdp_line_answers.proofs.Common.{ℕ, List, [], ◌∷◌, ◌++◌, refl, sym, subst, ap, ◌∙◌, append_assoc, append-nil, Answering, Speaks, heard}

-- one line more
pub spoke_more : {M : Type 0} (answers : Answering M) (first mid last : M) (lines : List (List ℕ)) (line text answer : List ℕ)
    → Speaks answers first lines text mid → answers mid (heard line) answer last → Speaks answers first (lines ++ line ∷ []) (text ++ answer) last
spoke_more answers first mid last [] line text answer (none, same) is = (
  answer,
  [],
  last,
  subst (λ m. answers m (heard line) answer last) same is,
  (refl, refl),
  ap (λ t. t ++ answer) none ∙ sym (append-nil answer),
)
spoke_more answers first mid last (l ∷ lines) line text answer (one, rest, next, said, further, whole) is = (
  one,
  rest ++ answer,
  next,
  said,
  spoke_more answers next mid last lines line rest answer further is,
  ap (λ t. t ++ answer) whole ∙ append_assoc one rest answer,
)
