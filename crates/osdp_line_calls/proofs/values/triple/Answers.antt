use Rattle.osdp_line_calls.proofs.Common.{◌≡◌, ℕ, List, [], ◌∷◌, Some, slice_index_or, refl, sym, subst, numbers}
use Rattle.osdp_words.specs.Reading.{Reads}
use Rattle.osdp_line_calls.specs.Values.{IsTriple}
use Rattle.osdp_line_calls.proofs.values.triple.Goals as goal

three : (ns : List ℕ) → IsTriple ns → slice_index_or ns 0 0 ∷ slice_index_or ns 1 0 ∷ slice_index_or ns 2 0 ∷ [] ≡ ns
three [] h = absurd h
three (a ∷ []) h = absurd h.1
three (a ∷ b ∷ []) h = absurd h.1.1
three (a ∷ b ∷ c ∷ []) h = refl
three (a ∷ b ∷ c ∷ d ∷ ns) h = absurd h.1.1.1

pub returns-in_err-first : goal.returns-in_err-first
returns-in_err-first c = rw c.from_residual.ensures c.in_err-first.ensures

pub returns : goal.returns
returns c =
    let reads = c.in_ok-first.ensures in
    subst (λ l. Reads numbers IsTriple c.args.word.now (Some l)) (sym (three c.in_ok-first.field-0 reads.value.1)) reads
