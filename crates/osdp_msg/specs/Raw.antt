-- The value of a RAW reply.
use Rattle.std.specs.Prelude.{ℕ, ◌≡◌, ◌≤◌, ◌+◌, ◌/◌, ◌==◌, ◌&&◌, nat_le, if◌then◌else◌, List, length, Option, Some, None}
use Rattle.osdp_msg.specs.Limits.{most_card_bytes}

-- a card's bits, in bytes
pub record RawCard : Type 0 where
  pub reader : ℕ
  pub format : ℕ
  pub bits : ℕ
  pub bytes : List ℕ

-- the card of these bits, where the bytes are as many as the bits need and no more than a reply has room for
abbrev pub raw_card : ℕ → ℕ → ℕ → List ℕ → Option RawCard
raw_card reader format bits bytes =
    if nat_le (length bytes) most_card_bytes && (length bytes == (bits + 7) / 8)
    then Some (record { reader = reader; format = format; bits = bits; bytes = bytes })
    else None

-- the bytes are as many as the bits need, and no more than a reply has room for
abbrev pub IsCard : ℕ → List ℕ → Type 0
IsCard bits bytes = (length bytes ≡ (bits + 7) / 8) × (length bytes ≤ most_card_bytes)
