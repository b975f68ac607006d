-- Turns of entries that are alike.
use Rattle.std.proofs.Common.{◌≡◌, ◌∙◌, ap, sym, ℕ, zero, suc, ◌+◌, ◌*◌, arith}
use Rattle.std.specs.Prelude.{replicate}
use Rattle.std.proofs.Math.Nat.{suc-mul, zero-mul}
use Rattle.osdp_time_laws.specs.Lines.{turns_time}

add_comm : (a b : ℕ) → a + b ≡ b + a
add_comm a b = omega arith

pub turns_alike : (late count exchange : ℕ) → turns_time late (replicate count exchange) ≡ count * (exchange + late)
turns_alike late zero exchange = sym (zero-mul (exchange + late))
turns_alike late (suc count) exchange =
    ap (λ (n : ℕ). (exchange + late) + n) (turns_alike late count exchange) ∙ add_comm (exchange + late) (count * (exchange + late)) ∙ sym (suc-mul count (exchange + late))
