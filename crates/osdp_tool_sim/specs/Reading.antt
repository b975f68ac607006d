-- How an input is read whole.
use Rattle.std.specs.Prelude.{◌≡◌, ℕ, ◌≤◌, Bool, true, List, [], ◌∷◌, ◌++◌, length, Option, Result, Ok, Err}
use Rattle.std.specs.Global.{Vec}
use Rattle.std.specs.Io.KnownBytes.{Consumes, IsAtEnd}
use Rattle.osdp_tool_streams.specs.declared.fault.ToolFault.{ToolFault}
use Rattle.osdp_tool_streams.specs.declared.fault.ToolFault.TheVariants.{NotHex, TooLong, BadWords, BadStep}
use Rattle.osdp_tool_streams.specs.declared.fault.ToolFault.TheVariants.{HoldsPacket, NotQuiet, ReadFailed}
use Rattle.osdp_tool_streams.specs.declared.fault.ToolFault.TheVariants.{WriteFailed, NoMemory}

-- all bytes, within the limit
pub record ReadsToEnd (limit : ℕ) (before after : Option (List ℕ)) (read : List ℕ) : Type 0 where
  pub taken : Consumes before after read
  pub at_end : IsAtEnd after
  pub within : length read ≤ limit

-- as many bytes as the limit, and one more
pub record ReadsPastLimit (limit : ℕ) (before after : Option (List ℕ)) : Type 0 where
  pub read : List ℕ
  pub one_more : ℕ
  pub taken : Consumes before after (read ++ one_more ∷ [])
  pub whole : length read ≡ limit

-- some bytes, within the limit
pub record ReadsSome (limit : ℕ) (before after : Option (List ℕ)) : Type 0 where
  pub read : List ℕ
  pub taken : Consumes before after read
  pub within : length read ≤ limit

-- what is answered where the input is read: all of it; that it is longer than the limit; that it failed; or that memory did not suffice
abbrev pub ReadsAll : ℕ → Option (List ℕ) → Option (List ℕ) → Bool → Bool → Result (Vec ℕ) ToolFault → Type 0
ReadsAll limit before after was_failed failed (Ok bytes) = ReadsToEnd limit before after bytes.items × (failed ≡ was_failed)
ReadsAll limit before after was_failed failed (Err TooLong) = ReadsPastLimit limit before after × (failed ≡ was_failed)
ReadsAll limit before after was_failed failed (Err ReadFailed) = ReadsSome limit before after × (failed ≡ true)
ReadsAll limit before after was_failed failed (Err NoMemory) = ReadsSome limit before after × (failed ≡ was_failed)
ReadsAll limit before after was_failed failed (Err (NotHex line)) = ⊥
ReadsAll limit before after was_failed failed (Err BadWords) = ⊥
ReadsAll limit before after was_failed failed (Err (BadStep line)) = ⊥
ReadsAll limit before after was_failed failed (Err (HoldsPacket step)) = ⊥
ReadsAll limit before after was_failed failed (Err (NotQuiet step)) = ⊥
ReadsAll limit before after was_failed failed (Err WriteFailed) = ⊥
