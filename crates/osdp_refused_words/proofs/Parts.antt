-- Slots that several messages have.
use Rattle.osdp_refused_words.proofs.Common.{ℕ, ◌<◌, ◌≤◌, arith, Slot, Number, Bytes}

abbrev pub byte : Slot
byte = Number 0 255

abbrev pub rate : Slot
rate = Number 0 4294967295

abbrev pub vendor : Slot
vendor = Bytes 3 3

pub byte_fits : (n : ℕ) → n < 256 → (0 ≤ n) × (n ≤ 255)
byte_fits n h = (omega arith, omega (arith, h))
