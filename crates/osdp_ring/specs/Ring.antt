-- A queue of byte strings: what it holds, and what fits.
use Rattle.std.specs.Prelude.{◌≡◌, ◌≤◌, ℕ, ◌+◌, ◌-◌, Bool, true, false, ◌&&◌, ◌==◌, nat_le, nat_lt, List, [], ◌∷◌, ◌++◌, length, take, drop}
use Rattle.std.specs.List.{list_any}

pub record Strings : Type 0 where
  pub items : List (List ℕ)
  -- how many strings there may be, and how many bytes of all together
  pub capacity : ℕ
  pub room : ℕ

abbrev pub empty_ring : ℕ → ℕ → Strings
empty_ring capacity room = record { items = []; capacity = capacity; room = room }

-- how many bytes they have together
abbrev pub total : List (List ℕ) → ℕ
total [] = 0
total (s ∷ ss) = length s + total ss

-- so many more bytes fit, as one string
abbrev pub fits_in : ℕ → Strings → Bool
fits_in size q = nat_lt (length q.items) q.capacity && nat_le size (q.room - total q.items)

abbrev pub pushed : List ℕ → Strings → Strings
pushed s q = record q { items = q.items ++ s ∷ [] }

abbrev pub pushed_if : Bool → List ℕ → Strings → Strings
pushed_if true s q = pushed s q
pushed_if false s q = q

abbrev pub popped : Strings → Strings
popped q = record q { items = drop 1 q.items }

-- without the second string
abbrev pub second_popped : Strings → Strings
second_popped q = record q { items = take 1 q.items ++ drop 2 q.items }

-- a string begins with this byte
abbrev pub begins : ℕ → List ℕ → Bool
begins byte [] = false
begins byte (first ∷ rest) = first == byte

-- .. and one of the strings does
abbrev pub has_first : ℕ → List (List ℕ) → Bool
has_first byte strings = list_any (begins byte) strings

-- ---- how they are kept

-- a row of bytes, cut into strings of these sizes
abbrev pub cut : List ℕ → List ℕ → List (List ℕ)
cut [] row = []
cut (size ∷ sizes) row = take size row ∷ cut sizes (drop size row)

abbrev pub sum_of : List ℕ → ℕ
sum_of [] = 0
sum_of (size ∷ sizes) = size + sum_of sizes

-- the sizes are those of the bytes after the ones that are gone, and the row stays in its room
pub record IsRing (sizes row : List ℕ) (gone room place : ℕ) : Type 0 where
  pub within : gone ≤ length row
  pub whole : sum_of sizes ≡ length row - gone
  pub room_is : length row ≤ room
  pub place_is : room ≤ place
