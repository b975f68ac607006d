-- What one read of an input with a limit gives.
use Rattle.std.specs.Prelude.{◌≡◌, ℕ, ◌<◌, ◌≤◌, List, [], ◌∷◌, Option, length, slice_index, take}
use Rattle.std.specs.Io.KnownBytes.{Consumes, IsAtEnd, Keeps}
use Rattle.osdp_tool_streams.specs.declared.piece.Piece.{Piece}
use Rattle.osdp_tool_streams.specs.declared.piece.Piece.TheVariants.{Bytes, AtEnd, PastLimit}

-- one byte or more, no more than are left and than there is room for, at the front of the buffer
pub record ReadsBytes (left : ℕ) (before after : Option (List ℕ)) (buffer : List ℕ) (count : ℕ) : Type 0 where
  pub some : 0 < count
  pub within : count ≤ left
  pub room : count ≤ length buffer
  pub taken : Consumes before after (take count buffer)

-- so many bytes are left of the limit: a piece of them, nothing at the end of the input, or one byte where none is left
abbrev pub ReadsPiece : ℕ → Option (List ℕ) → Option (List ℕ) → List ℕ → Piece → Type 0
ReadsPiece left before after buffer (Bytes count) = ReadsBytes left before after buffer count
ReadsPiece left before after buffer AtEnd = Keeps before after × IsAtEnd after
ReadsPiece left before after buffer PastLimit = (left ≡ 0) × Consumes before after (slice_index buffer 0 ∷ [])
