-- Sums in one byte.
use Rattle.std.proofs.Common.{◌≡◌, ℕ, ◌+◌, ◌-◌, ◌%◌, List, ◌++◌, arith}
use Rattle.std.proofs.lemmas.List.Sums.{sum_by-append}
use Rattle.osdp_check.specs.Checksum.{checksum}

-- the checksum of the rest, from those of the whole and of the front
pub checksum_of_rest : (bytes more : List ℕ) → checksum more ≡ (256 + checksum (bytes ++ more) - checksum bytes) % 256
checksum_of_rest bytes more = omega (arith, sum_by-append (λ x. x) bytes more)
