-- Exclusive or, and the bits of a number.
use Rattle.osdp_check.proofs.Common.{◌≡◌, ℕ, zero, suc, ◌+◌, ◌-◌, ◌*◌, ◌%◌, ◌^◌, ◌<◌, sym, ap, ◌∙◌, arith, zero-add, add-zero, zero-mul, bit_at, bit_xor, xor_assoc, xor_self, xor_zero_l, xor_zero_r, pow_pos, xor_comm, xor_block, bit_at_xor, bit_at-lt, bit_at_cat_high}

pub xor_last : (a b c : ℕ) → bit_xor (bit_xor a b) c ≡ bit_xor (bit_xor a c) b
xor_last a b c = xor_assoc a b c ∙ ap (bit_xor a) (xor_comm b c) ∙ sym (xor_assoc a c b)

pub xor_middle : (a b c d : ℕ) → bit_xor (bit_xor a b) (bit_xor c d) ≡ bit_xor (bit_xor a c) (bit_xor b d)
xor_middle a b c d =
    sym (xor_assoc (bit_xor a b) c d) ∙ ap (λ n. bit_xor n d) (xor_last a b c) ∙ xor_assoc (bit_xor a c) b d

-- what is added twice is gone
pub xor_twice : (a b : ℕ) → bit_xor (bit_xor a b) b ≡ a
xor_twice a b = xor_assoc a b b ∙ ap (bit_xor a) (xor_self b) ∙ xor_zero_r a

pub xor-shl : (k a b : ℕ) → bit_xor (a * 2 ^ k) (b * 2 ^ k) ≡ bit_xor a b * 2 ^ k
xor-shl k a b = simp add-zero at (xor_block k a b 0 0 (pow_pos k) (pow_pos k))

-- the high part and the low part of a number share no bit
pub xor_parts : (k a r : ℕ) → r < 2 ^ k → bit_xor (a * 2 ^ k) r ≡ a * 2 ^ k + r
xor_parts k a r h =
    let e : bit_xor (a * 2 ^ k + 0) (0 * 2 ^ k + r) ≡ bit_xor a 0 * 2 ^ k + bit_xor 0 r = xor_block k a 0 0 r (pow_pos k) h in
    simp (add-zero, zero-mul, zero-add, xor_zero_r, xor_zero_l) at e

pub bit_at-shl : (a k i : ℕ) → bit_at (a * 2 ^ k) (i + k) ≡ bit_at a i
bit_at-shl a k i =
    let e : bit_at (a * 2 ^ k + 0) (i + k) ≡ bit_at a (i + k - k) = bit_at_cat_high a k 0 (i + k) (pow_pos k) (omega arith) in
    let s : i + k - k ≡ i = omega arith in
    rw (add-zero, s) at e

-- a bit of an exclusive or, times a number
xor_digits : (i j n : ℕ) → i < 2 → j < 2 → (i + j) % 2 * n ≡ bit_xor (i * n) (j * n)
xor_digits zero zero n p q = zero-mul n ∙ sym (xor_self (0 * n))
xor_digits zero (suc zero) n p q = sym (ap (λ m. bit_xor m (1 * n)) (zero-mul n) ∙ xor_zero_l (1 * n))
xor_digits (suc zero) zero n p q = sym (ap (bit_xor (1 * n)) (zero-mul n) ∙ xor_zero_r (1 * n))
xor_digits (suc zero) (suc zero) n p q = zero-mul n ∙ sym (xor_self (1 * n))
xor_digits (suc (suc i)) j n p q = absurd (omega arith)
xor_digits i (suc (suc j)) n p q = absurd (omega arith)

pub bit_at_xor-mul : (a b i n : ℕ) → bit_at (bit_xor a b) i * n ≡ bit_xor (bit_at a i * n) (bit_at b i * n)
bit_at_xor-mul a b i n = ap (λ d. d * n) (bit_at_xor a b i) ∙ xor_digits (bit_at a i) (bit_at b i) n (bit_at-lt a i) (bit_at-lt b i)
