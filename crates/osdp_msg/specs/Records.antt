-- Lists of records of one size.
use Rattle.std.specs.Prelude.{ℕ, zero, suc, ◌≡◌, ◌<◌, ◌≤◌, ◌/◌, List, [], ◌∷◌, ◌++◌, drop, length}
use Rattle.hex.specs.Hex.{IsBytes}

-- so many records of a size, from the front of the bytes, each as first reads it from the bytes in front
abbrev pub records_from : {R : Type 0} → (List ℕ → R) → ℕ → ℕ → List ℕ → List R
records_from first size zero bytes = []
records_from first size (suc n) bytes = first bytes ∷ records_from first size n (drop size bytes)

-- the records that the bytes are
abbrev pub records_at : {R : Type 0} → (List ℕ → R) → ℕ → List ℕ → List R
records_at first size bytes = records_from first size (length bytes / size) bytes

-- What a kind of records needs: a record's bytes give it back, and bytes are those of the record in them.
pub record IsRecord {R : Type 0} (size : ℕ) (spelled : R → List ℕ) (Fits : R → Type 0) (first : List ℕ → R) : Type 0 where
  pub some : zero < size
  pub len : (r : R) → length (spelled r) ≡ size
  pub again : (r : R) (rest : List ℕ) → Fits r → first (spelled r ++ rest) ≡ r
  pub takes : (bs : List ℕ) → size ≤ length bs → IsBytes bs → bs ≡ spelled (first bs) ++ drop size bs
  pub fits : (bs : List ℕ) → IsBytes bs → Fits (first bs)
  pub spells : (r : R) → Fits r → IsBytes (spelled r)
