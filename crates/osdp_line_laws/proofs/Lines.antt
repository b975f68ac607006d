-- Lines one after the other, where each comes to some calls.
use Rattle.osdp_line_laws.proofs.Common.{◌≡◌, ◌∙◌, ap, sym, ℕ, List, [], ◌∷◌, ◌++◌, Answering, Speaks, heard}

-- what calls make of what a session has, first those of a list and then those after it
module _ {S X C : Type 0} (answers : Answering S) (of : S → X) (after : List C → X → X) (none : (x : X) → after [] x ≡ x)
    (more : (first others : List C) (x : X) → after (first ++ others) x ≡ after others (after first x))
    (one : (s : S) (given text : List ℕ) (next : S) → answers s given text next → (calls : List C) × (of next ≡ after calls (of s))) where
  pub of_all : (first : S) (lines : List (List ℕ)) (text : List ℕ) (last : S) → Speaks answers first lines text last
      → (calls : List C) × (of last ≡ after calls (of first))
  of_all first [] text last spoken = ([], ap of spoken.1 ∙ sym (none (of first)))
  of_all first (line ∷ lines) text last (answer, rest, next, is, speaks, joined) =
      let calls = one first (heard line) answer next is in
      let others = of_all next lines rest last speaks in
      (calls.0 ++ others.0, others.1 ∙ ap (after others.0) calls.1 ∙ sym (more calls.0 others.0 (of first)))
