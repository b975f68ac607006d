-- After how long a silence a run is over. Moments and gaps are in milliseconds.
use Rattle.std.specs.Prelude.{◌≡◌, ℕ, ◌+◌, ◌-◌, ◌<◌, ◌≤◌, Bool, nat_le}

-- no bytes have come for the gap, from the moment of the last ones up to now
abbrev pub is_silent_for : ℕ → ℕ → ℕ → Bool
is_silent_for gap last now = nat_le gap (now - last)

-- the result is `before` while less than the gap has passed since the last bytes, and `after` from then on
pub record ChangesAtGap {A : Type 0} (gap last now : ℕ) (result before after : A) : Type 0 where
  pub within : now < last + gap → result ≡ before
  pub past : last + gap ≤ now → result ≡ after
