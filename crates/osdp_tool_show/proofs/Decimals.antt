-- The number of the first run.
use Rattle.osdp_tool_show.proofs.Common.{◌≡◌, ℕ, ◌+◌, [], ◌∷◌, ap, ◌∙◌, arith, decimal, decimal_digit}

pub first_run : (runs : ℕ) → runs ≡ 0 → decimal (runs + 1) ≡ 49 ∷ []
first_run runs none = ap (λ n. decimal (n + 1)) none ∙ decimal_digit 1 (omega arith)
