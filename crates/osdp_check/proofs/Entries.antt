-- Each entry of the table, computed by the division.
use Rattle.osdp_check.proofs.Common.{◌≡◌, ℕ, ◌*◌, ◌/◌, ◌%◌, ◌^◌, ◌<◌, List, [], ◌∷◌, ◌++◌, map, refl, sym, ap, ◌∙◌, zero-add, slice_index, arith, bit_xor, xor_lt, CRC_TABLE}
use Rattle.std.specs.List.{range_with_len}
use Rattle.std.proofs.lemmas.List.FromFn.{get_or-map-range_with_len}
use Rattle.osdp_check.specs.Crc.{bits_of, crc, crc_from, dividend_from, remainder}
use Rattle.osdp_check.proofs.Pieces.{crc_from-byte, crc-push}

all_entries : CRC_TABLE ≡ map (λ i. crc_from 0 (i ∷ [])) (range_with_len 0 256)
unfolding crc_from dividend_from bits_of remainder
all_entries = refl

pub entry : (i : ℕ) → i < 256 → slice_index CRC_TABLE i ≡ crc_from 0 (i ∷ [])
entry i h =
    ap (λ table. slice_index table i) all_entries
    ∙ get_or-map-range_with_len (λ n. crc_from 0 (n ∷ [])) 0 256 i i 0 h (zero-add i)

-- a step by the table goes on by one byte
pub table_step : (state b : ℕ) → state < 2 ^ 16 → b < 256 → bit_xor (state * 2 ^ 8 % 2 ^ 16) (slice_index CRC_TABLE (bit_xor (state / 2 ^ 8) b)) ≡ crc_from state (b ∷ [])
table_step state b s h =
    let index = bit_xor (state / 2 ^ 8) b in
    ap (bit_xor (state * 2 ^ 8 % 2 ^ 16)) (entry index (xor_lt 8 (state / 2 ^ 8) b (omega arith) h))
    ∙ sym (crc_from-byte state b s h)

-- so it adds the byte to the CRC
pub crc_step : (state b : ℕ) → state < 2 ^ 16 → b < 256 → (bytes : List ℕ) → state ≡ crc bytes → bit_xor (state * 2 ^ 8 % 2 ^ 16) (slice_index CRC_TABLE (bit_xor (state / 2 ^ 8) b)) ≡ crc (bytes ++ b ∷ [])
crc_step state b s h bytes e =
    table_step state b s h ∙ ap (λ n. crc_from n (b ∷ [])) e ∙ sym (crc-push bytes b h)
