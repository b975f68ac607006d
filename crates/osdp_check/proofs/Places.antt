-- Powers of x, and numbers that are moved by so many places.
use Rattle.osdp_check.proofs.Common.{◌≡◌, ℕ, zero, suc, ◌+◌, ◌-◌, ◌*◌, ◌/◌, ◌%◌, ◌^◌, ◌<◌, ◌≤◌, List, [], ◌∷◌, refl, sym, ap, subst, ◌∙◌, arith, zero-add, add-zero, get_or, slice_index, lit<, pow-le-pow_right, zero-mul, one-mul, mul_assoc, mul_comm, mod-eq_of_lt, pow-add, pow_pos, pow_below, xor_comm, mod_below, shl_below, and_pow, bit_at-lt, bit_at, bit_and, bit_xor, xor_zero_l, xor_zero_r, mod-pow-add, CRC_TABLE}
use Rattle.osdp_check.specs.declared.power_table.TheConstants.{POWERS}
use Rattle.osdp_check.specs.Crc.{bits_of, crc_from, dividend_from, power, product, remainder}
use Rattle.osdp_check.proofs.Xor.{xor-shl, xor_parts}
use Rattle.osdp_check.proofs.Entries.{table_step}
use Rattle.osdp_check.proofs.Remainder.{remainder-lt, remainder-xor, remainder-shl, remainder_top, remainder_small}

-- ---- a number is moved by so many places in two goes

-- what the division leaves of a number, so many places on
abbrev pub moved_by : ℕ → ℕ → ℕ
moved_by places n = remainder places (n * 2 ^ places)

pub moved_twice : (k m n : ℕ) → moved_by (k + m) n ≡ moved_by m (moved_by k n)
moved_twice k m n =
    let power : n * 2 ^ (k + m) ≡ n * 2 ^ k * 2 ^ m = ap (λ p. n * p) (pow-add 2 k m) ∙ sym (mul_assoc n (2 ^ k) (2 ^ m)) in
    ap (remainder (k + m)) (power ∙ sym (xor_zero_r (n * 2 ^ k * 2 ^ m)))
    ∙ remainder-shl k m (n * 2 ^ k) 0 (pow_pos (m + 16))
    ∙ ap (remainder m) (xor_zero_r (moved_by k n * 2 ^ m))

pub moved_by-xor : (m a b : ℕ) → moved_by m (bit_xor a b) ≡ bit_xor (moved_by m a) (moved_by m b)
moved_by-xor m a b = ap (remainder m) (sym (xor-shl m a b)) ∙ remainder-xor m (a * 2 ^ m) (b * 2 ^ m)

pub moved_by-zero : (m : ℕ) → moved_by m 0 ≡ 0
moved_by-zero m = ap (remainder m) (zero-mul (2 ^ m)) ∙ remainder_small m 0 (pow_pos 16)

-- a power of x is one, so many places on
pub power-moved : (m : ℕ) → power m ≡ moved_by m 1
unfolding power
power-moved m = ap (remainder m) (sym (one-mul (2 ^ m)))

pub power-add : (k m : ℕ) → power (k + m) ≡ moved_by m (power k)
power-add k m = power-moved (k + m) ∙ moved_twice k m 1 ∙ ap (moved_by m) (sym (power-moved k))

-- ---- one byte

-- the step of the table with a byte of zeros
pub byte_moved : (state : ℕ) → state < 2 ^ 16 → bit_xor (state * 2 ^ 8 % 2 ^ 16) (slice_index CRC_TABLE (state / 2 ^ 8)) ≡ moved_by 8 state
unfolding crc_from dividend_from bits_of
byte_moved state h =
    ap (λ i. bit_xor (state * 2 ^ 8 % 2 ^ 16) (slice_index CRC_TABLE i)) (sym (xor_zero_r (state / 2 ^ 8)))
    ∙ table_step state 0 h (omega arith) ∙ ap (remainder 8) (xor_zero_l (state * 2 ^ 8))

-- what stands above sixteen places goes on over two bytes
pub halves_divided : (n : ℕ) → bit_xor (moved_by 8 (moved_by 8 (n / 2 ^ 16))) (n % 2 ^ 16) ≡ remainder 16 n
halves_divided n =
    let high = n / 2 ^ 16 in
    let low = n % 2 ^ 16 in
    let fits : low < 2 ^ 16 = omega arith in
    let parts : n ≡ high * 2 ^ 16 + low = omega arith in
    sym (ap (remainder 16) (parts ∙ sym (xor_parts 16 high low fits)) ∙ remainder-xor 16 (high * 2 ^ 16) low
    ∙ ap (λ r. bit_xor r (remainder 16 low)) (moved_twice 8 8 high)
    ∙ ap (bit_xor (moved_by 8 (moved_by 8 high))) (remainder_small 16 low fits))

-- ---- a product, place by place

-- places above the number change nothing
remainder_above : (i m n : ℕ) → n < 2 ^ (m + 16) → remainder (m + i) n ≡ remainder m n
remainder_above zero m n h = ap (λ k. remainder k n) (add-zero m)
remainder_above (suc i) m n h =
    let above : m + suc i ≡ suc (m + i) = omega arith in
    let place : m + 16 ≤ m + i + 16 = omega arith in
    ap (λ k. remainder k n) above
    ∙ remainder_top (m + i) n (h_above place) ∙ remainder_above i m n h
  where
    h_above : m + 16 ≤ m + i + 16 → n < 2 ^ (m + i + 16)
    h_above p = omega (arith, pow-le-pow_right {n = 2} (lit< tt) p)

-- the bit at a place counts as that power
place_moved : (m i : ℕ) → i < 16 → moved_by m (2 ^ i) ≡ power (m + i)
unfolding power
place_moved m i h =
    let fits : 2 ^ (m + i) < 2 ^ (m + 16) = pow_below (m + i) (m + 16) (omega arith) in
    let e : 2 ^ i * 2 ^ m ≡ 2 ^ (m + i) = omega (arith, pow-add 2 m i) in
    ap (remainder m) e ∙ sym (remainder_above i m (2 ^ (m + i)) fits)

-- the low places of a number, with one more
low_more : (n i : ℕ) → n % 2 ^ suc i ≡ n / 2 ^ i % 2 * 2 ^ i + n % 2 ^ i
low_more n i = ap (λ k. n % 2 ^ k) (let e : suc i ≡ 1 + i = omega arith in e) ∙ mod-pow-add n 1 i

power-lt : (m : ℕ) → power m < 2 ^ 16
unfolding power
power-lt m = remainder-lt m (2 ^ m) (pow_below m (m + 16) (omega arith))

-- a power at a place is a higher power
power_moved : (m i : ℕ) → i < 16 → remainder 16 (power m * 2 ^ i) ≡ power (m + i)
power_moved m i h =
    let whole : 16 ≡ i + (16 - i) = omega arith in
    let place : 16 + i ≡ i + 16 = omega arith in
    ap (λ k. remainder k (power m * 2 ^ i)) whole
    ∙ remainder_above (16 - i) i (power m * 2 ^ i) (subst (λ k. power m * 2 ^ i < 2 ^ k) place (shl_below (power m) 16 i (power-lt m)))
    ∙ sym (power-add m i)

-- what one bit of a number adds to the product moves that bit
bit_divided : (d m i : ℕ) → d < 2 → i < 16 → remainder 16 (d * (power m * 2 ^ i)) ≡ moved_by m (d * 2 ^ i)
bit_divided zero m i b h =
    ap (remainder 16) (zero-mul (power m * 2 ^ i)) ∙ remainder_small 16 0 (pow_pos 16)
    ∙ sym (ap (moved_by m) (zero-mul (2 ^ i)) ∙ moved_by-zero m)
bit_divided (suc zero) m i b h =
    ap (remainder 16) (one-mul (power m * 2 ^ i)) ∙ power_moved m i h ∙ sym (ap (moved_by m) (one-mul (2 ^ i)) ∙ place_moved m i h)
bit_divided (suc (suc d)) m i b h = absurd (omega arith)

-- a product with a power moves the low places of the number
product_divided : (i m n : ℕ) → i ≤ 16 → remainder 16 (product i n (power m)) ≡ moved_by m (n % 2 ^ i)
unfolding product
product_divided zero m n h =
    let none : n % 1 ≡ 0 = omega arith in
    remainder_small 16 0 (pow_pos 16) ∙ sym (ap (moved_by m) none ∙ moved_by-zero m)
product_divided (suc i) m n h =
    let bit = bit_at n i in
    let low = n % 2 ^ i in
    remainder-xor 16 (product i n (power m)) (bit * (power m * 2 ^ i))
    ∙ ap (λ r. bit_xor r (remainder 16 (bit * (power m * 2 ^ i)))) (product_divided i m n (omega arith))
    ∙ ap (bit_xor (moved_by m low)) (bit_divided bit m i (bit_at-lt n i) (omega arith))
    ∙ sym (moved_by-xor m low (bit * 2 ^ i))
    ∙ ap (moved_by m) (xor_comm low (bit * 2 ^ i) ∙ xor_parts i bit low (mod_below n (2 ^ i) (pow_pos i)) ∙ sym (low_more n i))

pub product_moved : (m n : ℕ) → n < 2 ^ 16 → remainder 16 (product 16 n (power m)) ≡ moved_by m n
product_moved m n h = product_divided 16 m n (omega arith) ∙ ap (moved_by m) (mod-eq_of_lt h)

-- one place more, by a multiplication with the bit there
pub product_more : (n f i sum : ℕ) → sum ≡ product i n f → bit_xor sum (bit_and n (2 ^ i) * f) ≡ product (i + 1) n f
unfolding product
product_more n f i sum e =
    let more : i + 1 ≡ suc i = omega arith in
    ap (λ s. bit_xor s (bit_and n (2 ^ i) * f)) e
    ∙ ap (λ b. bit_xor (product i n f) (b * f)) (and_pow n i)
    ∙ ap (bit_xor (product i n f)) (mul_assoc (bit_at n i) (2 ^ i) f ∙ ap (λ p. bit_at n i * p) (mul_comm (2 ^ i) f))
    ∙ sym (ap (λ k. product k n f) more)

-- ---- the table

-- powers, each a byte further on than the one before
abbrev powers_from : ℕ → ℕ → List ℕ
powers_from zero state = []
powers_from (suc n) state = state ∷ powers_from n (moved_by 8 state)

all_powers : POWERS ≡ powers_from 2048 1
unfolding remainder
all_powers = refl

power_from : (n i m state : ℕ) → i < n → state ≡ power m → get_or (powers_from n state) i 0 ≡ power (m + 8 * i)
power_from zero i m state h e = absurd (omega arith)
power_from (suc n) zero m state h e = e ∙ ap power (let z : m ≡ m + 8 * 0 = omega arith in z)
power_from (suc n) (suc i) m state h e =
    power_from n i (m + 8) (moved_by 8 state) (omega arith) (ap (moved_by 8) e ∙ sym (power-add m 8))
    ∙ ap power (let z : m + 8 + 8 * i ≡ m + 8 * suc i = omega arith in z)

power-zero : 1 ≡ power 0
unfolding power remainder
power-zero = refl

pub power_entry : (i : ℕ) → i < 2048 → slice_index POWERS i ≡ power (8 * i)
power_entry i h = ap (λ table. slice_index table i) all_powers ∙ power_from 2048 i 0 1 h power-zero ∙ ap power (zero-add (8 * i))
