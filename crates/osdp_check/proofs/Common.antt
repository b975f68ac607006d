-- The names that most proofs of this crate cite, passed on from one place. Declares nothing.
pub use Rattle.std.proofs.Common.{[], add-zero, ap, arith, get_or, inl, inr, length, length-append, List, lit<, map, refl, rules, slice_index, subst, suc, sym, take, zero, zero-add, ℕ, ◌%◌, ◌*◌, ◌++◌, ◌+◌, ◌-◌, ◌/◌, ◌<◌, ◌^◌, ◌∙◌, ◌∷◌, ◌≡◌, ◌≤◌}
pub use Rattle.std.specs.Int.Bits.{bit_and, bit_xor, xor_assoc, xor_self, xor_zero_l, xor_zero_r}
pub use Rattle.std.proofs.lemmas.Nat.{mod-pow-add, mod_below, mul-add-lt, mul-le, one_shl, pow-add, pow_below, pow_pos, shl_below, shr_below, shr_split, xor_block, xor_comm, xor_lt}
pub use Rattle.std.proofs.Math.Nat.{mod-eq_of_lt, mul-add, mul-one, mul_assoc, mul_comm, one-mul, pow-le-pow_right, pow-suc, suc-add, zero-mul}
pub use Rattle.std.proofs.lemmas.Nat.Bits.{and_pow, bit_at-lt, bit_at-pow_other, bit_at-pow_same, bit_at_above, bit_at_cat_high, bit_at_cat_low, bit_at_lowest, bit_at_xor}
pub use Rattle.std.specs.Int.{bit_at}
pub use Rattle.osdp_check.specs.declared.table.TheConstants.{CRC_TABLE}
pub use Rattle.osdp_check.specs.Crc.{crc, crc_from, initial, IsCrc, IsRemainder, product, remainder}
