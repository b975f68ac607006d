-- An input that is read to its end, or as far as it goes.
use Rattle.std.specs.Prelude.{◌≡◌, ◌≤◌, ℕ, List, [], ◌∷◌, ◌++◌, length, Option, Some, None}
use Rattle.std.specs.Io.KnownBytes.{Consumes, IsAtEnd}
use Rattle.osdp_tool_streams.specs.declared.fault.ToolFault.{ToolFault}
use Rattle.osdp_tool_streams.specs.declared.fault.ToolFault.TheVariants.{TooLong, ReadFailed}

-- these bytes were read, to the end; or as many as the limit, and one more; or those before a failed read
abbrev pub ReadWhole : ℕ → Option (List ℕ) → Option (List ℕ) → List ℕ → Option ToolFault → Type 0
ReadWhole limit before after bytes None = Consumes before after bytes × IsAtEnd after × (length bytes ≤ limit)
ReadWhole limit before after bytes (Some TooLong) = (length bytes ≡ limit) × ((byte : ℕ) × Consumes before after (bytes ++ byte ∷ []))
ReadWhole limit before after bytes (Some ReadFailed) = Consumes before after bytes × (length bytes ≤ limit)
ReadWhole limit before after bytes (Some fault) = ⊥
