-- Numbers that follow one another.
use Rattle.osdp_monitor_laws.proofs.Common.{◌≢◌, ℕ, arith, next_sequence}

pub next_differs : (n : ℕ) → next_sequence n ≢ n
next_differs n same = omega (arith, same)

pub next_above_zero : (n : ℕ) → next_sequence n ≢ 0
next_above_zero n same = omega (arith, same)
