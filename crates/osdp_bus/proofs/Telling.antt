-- What waits once a device has told something, or nothing.
use Rattle.osdp_bus.proofs.Common.{◌≡◌, ℕ, true, false, Option, Some, None, option_map, is_some, refl, Report, waiting_after}

-- where nothing waited, what is told does
pub told_first : (entry before : ℕ) (told was : Option Report) → is_some was ≡ false
    → option_map (λ r. (entry, r)) told ≡ waiting_after entry told (option_map (λ r. (before, r)) was)
told_first entry before None None none = refl
told_first entry before (Some report) None none = refl
told_first entry before told (Some waiting) none = absurd cc

-- so it is where that is said of the place with its entry
pub told_free : (entry before : ℕ) (told was : Option Report) → is_some {T = ℕ × Report} (option_map (λ r. (before, r)) was) ≡ false
    → option_map (λ r. (entry, r)) told ≡ waiting_after entry told (option_map (λ r. (before, r)) was)
told_free entry before told None none = told_first entry before told None refl
told_free entry before told (Some waiting) none = absurd cc

-- what is told takes the place of what waited
pub told_over : (entry : ℕ) (told : Option Report) (was : Option (ℕ × Report)) → is_some told ≡ true
    → option_map (λ r. (entry, r)) told ≡ waiting_after entry told was
told_over entry None was some = absurd cc
told_over entry (Some report) was some = refl

-- where nothing is told, that stays
pub told_nothing : (entry : ℕ) (told : Option Report) (was : Option (ℕ × Report)) → is_some told ≡ false → was ≡ waiting_after entry told was
told_nothing entry None was none = refl
told_nothing entry (Some report) was none = absurd cc

pub ruleset telling = (told_first, told_free, told_over, told_nothing)
