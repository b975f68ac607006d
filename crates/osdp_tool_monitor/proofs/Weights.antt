-- What a session weighs, as bytes come.
use Rattle.osdp_tool_monitor.proofs.Common.{◌≡◌, ℕ, ◌+◌, ◌≤◌, Bool, true, false, cond, not, List, [], ◌∷◌, ◌++◌, length, ap, arith, length-append, Option, Some, None, MatchOption, is_blank, kept, said}
use Rattle.osdp_tool_streams.proofs.Lengths.{said_short}

kept_one : (x : ℕ) (xs : List ℕ) (t : Bool) → length (kept xs) ≤ length xs → length (cond t (x ∷ kept xs) (kept xs)) ≤ length (x ∷ xs)
kept_one x xs true so = omega arith
kept_one x xs false so = omega arith

pub kept_short : (xs : List ℕ) → length (kept xs) ≤ length xs
kept_short [] = omega arith
kept_short (x ∷ xs) = kept_one x xs (not (is_blank x)) (kept_short xs)

-- a line of so many characters says no more bytes
pub said_within : (held characters bytes : List ℕ) (o : Option (List ℕ)) (good : Bool) → said (held ++ kept characters) ≡ o
    → MatchOption o (good ≡ false) (λ read. (good ≡ true) × (bytes ≡ read)) → good ≡ true → length bytes ≤ length held + length characters
said_within held characters bytes None good is m well = absurd cc
said_within held characters bytes (Some r) good is m well =
    omega (arith, said_short (held ++ kept characters) r is, ap length m.1, length-append held (kept characters), kept_short characters)
