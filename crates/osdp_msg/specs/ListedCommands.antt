-- The lengths of data that hold a list.
use Rattle.std.specs.Prelude.{◌≡◌, ◌<◌, ◌≤◌, ℕ, ◌+◌, ◌*◌, ◌%◌, List, length}

-- the lengths of the data of a text, and of a maker's message
pub record HasLength (least most : ℕ) (bytes : List ℕ) : Type 0 where
  pub some : least ≤ length bytes
  pub room : length bytes ≤ most

-- whole records, and no more than so many
pub record AreWhole (size most : ℕ) (bytes : List ℕ) : Type 0 where
  pub whole : length bytes % size ≡ 0
  pub room : length bytes < size * (most + 1)
