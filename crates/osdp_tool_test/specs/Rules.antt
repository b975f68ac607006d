-- The rule of a number.
use Rattle.std.specs.Prelude.{ℕ, ◌-◌, ◌==◌, ◌≤◌, if◌then◌else◌, slice_get, List, Option, None}
use Rattle.osdp_tool_test.specs.declared.rules.TheConstants.{COUNT}

-- a number from one to another
abbrev pub IsWithin : ℕ → ℕ → ℕ → Type 0
IsWithin least most n = (least ≤ n) × (n ≤ most)

-- the rules are numbered from 1
abbrev pub IsRule : ℕ → Type 0
IsRule = IsWithin 1 COUNT

abbrev pub rule_in : {R : Type 0} → List R → ℕ → Option R
rule_in rules n = if n == 0 then None else slice_get rules (n - 1)
