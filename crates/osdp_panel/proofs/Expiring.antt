-- From when on an order is late.
use Rattle.osdp_panel.proofs.Common.{◌≡◌, ◌∙◌, ap, sym, ℕ, zero, suc, ◌<◌, ◌≤◌, ◌^◌, ◌||◌, Bool, true, false, List, [], ◌∷◌, drop, Option, Some, None, refl, arith, is_some, nat_le, slice_get, BusState, device_of, IsDueFrom, earlier, Orders, is_late, late_from}
use Rattle.std.specs.Prelude.{min}

-- a moment is reached, where there is one
abbrev pub reached : Option ℕ → ℕ → Bool
reached None at = false
reached (Some moment) at = nat_le moment at

abbrev pub IsFrom : ℕ → Option ℕ → Type 0
IsFrom now None = Unit {0}
IsFrom now (Some moment) = now ≤ moment

-- what was found of the entries so far and those that are left give what all of them do
pub record IsSoFar (now : ℕ) (first : Option ℕ) (all left : ℕ → Bool) : Type 0 where
  pub bound : IsFrom now first
  pub same : (at : ℕ) → now ≤ at → at < 2 ^ 64 → all at ≡ (reached first at || left at)

-- the entries from one on
abbrev pub late_in : ℕ → BusState → List Orders → ℕ → Bool
late_in entry b os at = is_some (late_from entry at b os)
