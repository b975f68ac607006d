-- The moments that a clock tells.
use Rattle.std.specs.Prelude.{◌≡◌, ◌≤◌, ℕ, List, [], ◌∷◌}
use Rattle.osdp_tool_inputs.specs.declared.clock.Clock.{Clock}

-- a moment is told: none before the one told last
pub record Tells (old : Clock) (moment : ℕ) (new : Clock) : Type 0 where
  pub not_before : old.last ≤ moment
  pub last : new.last ≡ moment

-- none of the moments is before the one ahead of it
abbrev pub AreInOrder : ℕ → List ℕ → Type 0
AreInOrder last [] = Unit {0}
AreInOrder last (moment ∷ moments) = last ≤ moment × AreInOrder moment moments
