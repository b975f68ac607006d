-- The values of settings.
use Rattle.std.specs.Prelude.{◌≡◌, ℕ, ◌≤◌, List, [], ◌∷◌, length}
use Rattle.hex.specs.Hex.{IsBytes}
use Rattle.osdp_words.specs.Word.{AreWithin}

-- how often a frame is sent
abbrev pub IsSends : ℕ → Type 0
IsSends n = (1 ≤ n) × (n ≤ 255)

-- three numbers of a byte each
abbrev pub IsTriple : List ℕ → Type 0
IsTriple ns = AreWithin (255 ∷ 255 ∷ 255 ∷ []) ns

-- three bytes
abbrev pub IsVendor : List ℕ → Type 0
IsVendor list = (length list ≡ 3) × IsBytes list
