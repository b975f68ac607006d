-- Zeros of a slice of them.
use Rattle.std.proofs.Common.{◌≡◌, ℕ, ◌≤◌, take, codes, replicate}
use Rattle.std.proofs.lemmas.List.{take-replicate}

pub zeros : (count : ℕ) → count ≤ 9 → take count (codes "000000000") ≡ replicate count 48
zeros count few = take-replicate count 9 48 few
