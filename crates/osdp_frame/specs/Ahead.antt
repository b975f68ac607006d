-- How many bytes decide the first item of a run.
use Rattle.std.specs.Prelude.{◌≡◌, ℕ, ◌<◌, ◌≤◌, false, List, length, take}
use Rattle.osdp_frame.specs.Reading.{IsUndecided}

-- so many bytes decide which item is first, and no fewer do; where none do, it is all of them
pub record IsDecidedBy (count : ℕ) (bytes : List ℕ) : Type 0 where
  pub within : count ≤ length bytes
  pub decides : IsUndecided false (take count bytes) → count ≡ length bytes
  pub least : (fewer : ℕ) → fewer < count → IsUndecided false (take fewer bytes)
