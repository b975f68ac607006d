-- What the faults of a code and data mean.
use Rattle.std.specs.Prelude.{◌≡◌, ◌≢◌, ◌↔◌, ◌⊎◌, ◌+◌, ◌/◌, ◌<◌, ◌≤◌, ℕ, Bool, true, List, drop, length, slice_index, Option, Some}
use Rattle.byteorder.specs.Endian.{little_number}
use Rattle.osdp_msg.specs.declared.fault.MsgFault.{MsgFault}
use Rattle.osdp_msg.specs.declared.fault.MsgFault.TheVariants.{UnknownCode, Length, Count}

-- some message of the table has the code
abbrev pub IsKnown : {M : Type 0} → (ℕ → List ℕ → M → Type 0) → ℕ → Type 0
IsKnown {M} Is code = (bytes : List ℕ) × ((m : M) × Is code bytes m)

-- by a count inside them the data of a command are so many bytes: TEXT counts the characters after its first six
abbrev pub CommandCounts : ℕ → List ℕ → ℕ → Type 0
CommandCounts code bytes total = (code ≡ 0x6B) × (total ≡ 6 + slice_index bytes 5)

-- The same of a reply: RAW counts the bits after its first four bytes, eight of them need a byte; FMT and KEYPAD count the characters after
-- their first three and two.
abbrev pub ReplyCounts : ℕ → List ℕ → ℕ → Type 0
ReplyCounts code bytes total =
    ((code ≡ 0x50) × (total ≡ 4 + (little_number 2 (drop 2 bytes) + 7) / 8))
    ⊎ ((code ≡ 0x51) × (total ≡ 3 + slice_index bytes 2))
    ⊎ ((code ≡ 0x53) × (total ≡ 2 + slice_index bytes 1))

-- the data are not as many bytes as a count inside them says
abbrev pub CountIsWrong : (ℕ → List ℕ → ℕ → Type 0) → ℕ → List ℕ → Type 0
CountIsWrong Counts code bytes = (total : ℕ) × (Counts code bytes total × (total ≢ length bytes))

-- Why a code and data are no message. `allowed` says of a code of the table whether the table allows so many data bytes, `Counts` how many
-- they are by a count inside them.
pub record FaultHasCause {M : Type 0} (Is : ℕ → List ℕ → M → Type 0) (allowed : ℕ → ℕ → Option Bool) (Counts : ℕ → List ℕ → ℕ → Type 0) (fault : ℕ → List ℕ → Option MsgFault) (code : ℕ) (bytes : List ℕ) : Type 0 where
  -- M1 exactly where no message has the code
  pub unknown_code : (fault code bytes ≡ Some UnknownCode) ↔ (IsKnown Is code → ⊥)
  -- M2 exactly where some message has the code, and there are more than 1432 data bytes or the table doesn't allow so many
  pub wrong_length : (fault code bytes ≡ Some Length) ↔ (IsKnown Is code × ((1432 < length bytes) ⊎ (allowed code (length bytes) ≢ Some true)))
  -- and then no message that has the code has so many
  pub none_so_long : fault code bytes ≡ Some Length → (others : List ℕ) (m : M) → Is code others m → length others ≢ length bytes
  -- M3 exactly where some message has the code, there are 1432 data bytes at most, the table allows so many, and a count inside them says
  -- otherwise
  pub wrong_count : (fault code bytes ≡ Some Count)
      ↔ (IsKnown Is code × (length bytes ≤ 1432) × (allowed code (length bytes) ≡ Some true) × CountIsWrong Counts code bytes)

abbrev pub FaultsHaveCauses : {M : Type 0} → (ℕ → List ℕ → M → Type 0) → (ℕ → ℕ → Option Bool) → (ℕ → List ℕ → ℕ → Type 0) → (ℕ → List ℕ → Option MsgFault) → Type 0
FaultsHaveCauses Is allowed Counts fault = (code : ℕ) (bytes : List ℕ) → FaultHasCause Is allowed Counts fault code bytes
