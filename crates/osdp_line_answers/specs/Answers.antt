-- Lines that are answered in turn.
use Rattle.std.specs.Prelude.{◌≡◌, ℕ, ◌+◌, List, [], ◌∷◌, ◌++◌, take}

-- what a machine answers a line, and what it is after it
abbrev pub Answering : Type 0 → Type 1
Answering M = M → List ℕ → List ℕ → M → Type 0

-- how many characters a line may have
abbrev pub longest : ℕ
longest = 8192

-- what is kept of a line: all of it, or enough to tell that it is too long
abbrev pub heard : List ℕ → List ℕ
heard line = take (longest + 1) line

-- line by line: the machine answers each as the lines before it have left it, and the answers stand one after the other
abbrev pub Speaks : {M : Type 0} → Answering M → M → List (List ℕ) → List ℕ → M → Type 0
Speaks answers first [] text last = (text ≡ []) × (last ≡ first)
Speaks {M} answers first (line ∷ lines) text last =
    (answer : List ℕ) × (rest : List ℕ) × (next : M) × answers first (heard line) answer next
    × Speaks answers next lines rest last × (text ≡ answer ++ rest)
