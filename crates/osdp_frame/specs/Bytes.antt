-- Lists of bytes.
use Rattle.std.specs.Prelude.{ℕ, ◌<◌, List, get_or}

-- each item is a byte
abbrev pub AreBytes : List ℕ → Type 0
AreBytes bytes = (place : ℕ) → get_or bytes place 0 < 256
