-- Long division: it goes bit by bit, and what is left is what the division leaves.
use Rattle.osdp_check.proofs.Common.{◌≡◌, ℕ, zero, suc, ◌+◌, ◌-◌, ◌*◌, ◌/◌, ◌%◌, ◌^◌, ◌<◌, ◌≤◌, refl, sym, ap, subst, ◌∙◌, inl, inr, arith, zero-add, add-zero, zero-mul, one-mul, suc-add, mul_assoc, mod-eq_of_lt, pow-suc, bit_at, bit_xor, xor_self, xor_zero_l, xor_zero_r, pow_pos, pow-add, xor_lt, xor_block, mul-le, pow_below, shr_split, shr_below, mod_below, mul-add-lt, bit_at_xor, bit_at-lt, bit_at_above, bit_at_lowest, bit_at-pow_same, bit_at-pow_other, bit_at_cat_low, bit_at_cat_high}
use Rattle.std.proofs.lemmas.Bool.{cases_lt}
use Rattle.osdp_check.specs.Crc.{divisor, remainder, product, IsRemainder}
use Rattle.osdp_check.proofs.Xor.{xor_last, xor_middle, xor_twice, xor-shl, bit_at-shl, bit_at_xor-mul}

-- one step of the division, at one place
abbrev pub step : ℕ → ℕ → ℕ
step place n = bit_xor n (bit_at n (place + 16) * (divisor * 2 ^ place))

step-xor : (k a b : ℕ) → step k (bit_xor a b) ≡ bit_xor (step k a) (step k b)
step-xor k a b =
    ap (bit_xor (bit_xor a b)) (bit_at_xor-mul a b (k + 16) (divisor * 2 ^ k))
    ∙ xor_middle a b (bit_at a (k + 16) * (divisor * 2 ^ k)) (bit_at b (k + 16) * (divisor * 2 ^ k))

-- nothing goes under a zero bit
step_none : (k n : ℕ) → n < 2 ^ (k + 16) → step k n ≡ n
step_none k n h =
    ap (λ d. bit_xor n (d * (divisor * 2 ^ k))) (bit_at_above n (k + 16) (k + 16) h (omega arith))
    ∙ ap (bit_xor n) (zero-mul (divisor * 2 ^ k)) ∙ xor_zero_r n

pub remainder-xor : (k a b : ℕ) → remainder k (bit_xor a b) ≡ bit_xor (remainder k a) (remainder k b)
unfolding remainder
remainder-xor zero a b = refl
remainder-xor (suc k) a b = ap (remainder k) (step-xor k a b) ∙ remainder-xor k (step k a) (step k b)

-- a top bit that is zero is passed over
pub remainder_top : (k n : ℕ) → n < 2 ^ (k + 16) → remainder (suc k) n ≡ remainder k n
unfolding remainder
remainder_top k n h = ap (remainder k) (step_none k n h)

-- a number of sixteen bits fits the dividend at any place
pub short_fits : (k n : ℕ) → n < 2 ^ 16 → n < 2 ^ (k + 16)
short_fits k n h = omega (arith, pow-add 2 k 16, mul-le 1 (2 ^ 16) (2 ^ k) (2 ^ 16) (pow_pos k) (omega arith))

-- sixteen bits are what is left of themselves
pub remainder_small : (k n : ℕ) → n < 2 ^ 16 → remainder k n ≡ n
unfolding remainder
remainder_small zero n h = refl
remainder_small (suc k) n h = remainder_top k n (short_fits k n h) ∙ remainder_small k n h

-- the divisor at a place has a one at the top of the dividend there
divisor_parts : (k : ℕ) → divisor * 2 ^ k ≡ 1 * 2 ^ (k + 16) + 0x1021 * 2 ^ k
divisor_parts k = omega (arith, pow-add 2 k 16)

low_fits : (k : ℕ) → 0x1021 * 2 ^ k < 2 ^ (k + 16)
low_fits k = omega (arith, pow-add 2 k 16, pow_pos k)

top_cleared : (k d r : ℕ) → d < 2 → r < 2 ^ (k + 16) → bit_xor (d * 2 ^ (k + 16) + r) (d * (divisor * 2 ^ k)) < 2 ^ (k + 16)
top_cleared k zero r p h = simp (zero-mul, zero-add, xor_zero_r) h
top_cleared k (suc zero) r p h =
    let low = 0x1021 * 2 ^ k in
    let e : bit_xor (1 * 2 ^ (k + 16) + r) (1 * (divisor * 2 ^ k)) ≡ bit_xor r low =
    ap (bit_xor (1 * 2 ^ (k + 16) + r)) (one-mul (divisor * 2 ^ k) ∙ divisor_parts k)
    ∙ xor_block (k + 16) 1 1 r low h (low_fits k) ∙ ap (λ n. n + bit_xor r low) (zero-mul (2 ^ (k + 16)))
    ∙ zero-add (bit_xor r low)
    in
    subst (λ n. n < 2 ^ (k + 16)) (sym e) (xor_lt (k + 16) r low h (low_fits k))
top_cleared k (suc (suc d)) r p h = absurd (omega arith)

-- a step clears the top bit
step-lt : (k n : ℕ) → n < 2 ^ (suc k + 16) → step k n < 2 ^ (k + 16)
step-lt k n h =
    let top = n / 2 ^ (k + 16) in
    let small : top < 2 =
    shr_below n 1 (k + 16) (subst (λ m. n < 2 ^ m) (omega arith) h)
    in
    let bit : top ≡ bit_at n (k + 16) = sym (mod-eq_of_lt small) in
    let P : ℕ → ℕ → Type 0 = λ m d. bit_xor m (d * (divisor * 2 ^ k)) < 2 ^ (k + 16) in
    subst (λ m. P m (bit_at n (k + 16))) (shr_split n (k + 16))
    (subst (P (top * 2 ^ (k + 16) + n % 2 ^ (k + 16))) bit
    (top_cleared k top (n % 2 ^ (k + 16)) small (mod_below n (2 ^ (k + 16)) (pow_pos (k + 16)))))

-- what is left has at most sixteen bits
pub remainder-lt : (k n : ℕ) → n < 2 ^ (k + 16) → remainder k n < 2 ^ 16
unfolding remainder
remainder-lt zero n h = subst (λ m. n < 2 ^ m) (zero-add 16) h
remainder-lt (suc k) n h = remainder-lt k (step k n) (step-lt k n h)

-- the first steps go over the high part alone
bit_of_high : (k m x u : ℕ) → u < 2 ^ (m + 16) → bit_at (bit_xor (x * 2 ^ m) u) (k + m + 16) ≡ bit_at x (k + 16)
bit_of_high k m x u h =
    let place : k + 16 + m ≡ k + m + 16 = omega arith in
    let high : bit_at (x * 2 ^ m) (k + m + 16) ≡ bit_at x (k + 16) =
    ap (bit_at (x * 2 ^ m)) (sym place) ∙ bit_at-shl x m (k + 16)
    in
    let low : bit_at u (k + m + 16) ≡ 0 = bit_at_above u (m + 16) (k + m + 16) h (omega arith) in
    bit_at_xor (x * 2 ^ m) u (k + m + 16) ∙ ap (λ d. (d + bit_at u (k + m + 16)) % 2) high
    ∙ ap (λ d. (bit_at x (k + 16) + d) % 2) low ∙ ap (λ d. d % 2) (add-zero (bit_at x (k + 16)))
    ∙ mod-eq_of_lt (bit_at-lt x (k + 16))

step-shl : (k m x u : ℕ) → u < 2 ^ (m + 16) → step (k + m) (bit_xor (x * 2 ^ m) u) ≡ bit_xor (step k x * 2 ^ m) u
step-shl k m x u h =
    let d = bit_at x (k + 16) in
    let under = d * (divisor * 2 ^ k) in
    let shifted : d * (divisor * 2 ^ (k + m)) ≡ under * 2 ^ m =
    ap (λ p. d * (divisor * p)) (pow-add 2 k m) ∙ ap (λ p. d * p) (sym (mul_assoc divisor (2 ^ k) (2 ^ m)))
    ∙ sym (mul_assoc d (divisor * 2 ^ k) (2 ^ m))
    in
    ap (λ b. bit_xor (bit_xor (x * 2 ^ m) u) (b * (divisor * 2 ^ (k + m)))) (bit_of_high k m x u h)
    ∙ ap (bit_xor (bit_xor (x * 2 ^ m) u)) shifted ∙ xor_last (x * 2 ^ m) u (under * 2 ^ m)
    ∙ ap (λ n. bit_xor n u) (xor-shl m x under)

-- the division of a number goes over its high part first, and then over what that leaves before the low part
pub remainder-shl : (k m x u : ℕ) → u < 2 ^ (m + 16) → remainder (k + m) (bit_xor (x * 2 ^ m) u) ≡ remainder m (bit_xor (remainder k x * 2 ^ m) u)
unfolding remainder
remainder-shl zero m x u h = ap (λ i. remainder i (bit_xor (x * 2 ^ m) u)) (zero-add m)
remainder-shl (suc k) m x u h =
    ap (λ i. remainder i (bit_xor (x * 2 ^ m) u)) (suc-add k m) ∙ ap (remainder (k + m)) (step-shl k m x u h)
    ∙ remainder-shl k m (step k x) u h

-- ---- multiples of the divisor

times_fits : (k d : ℕ) → d < 2 → d * (divisor * 2 ^ k) < 2 ^ (suc k + 16)
times_fits k zero h = subst (λ n. n < 2 ^ (suc k + 16)) (sym (zero-mul (divisor * 2 ^ k))) (pow_pos (suc k + 16))
times_fits k (suc zero) h =
    subst (λ n. n < 2 ^ (suc k + 16)) (sym (one-mul (divisor * 2 ^ k)))
    (omega (arith, pow-add 2 k 17, pow_pos k, ap (λ n. 2 ^ n) (let e : suc k + 16 ≡ k + 17 = omega arith in e)))
times_fits k (suc (suc d)) h = absurd (omega arith)

product-lt : (k q : ℕ) → product k q divisor < 2 ^ (k + 16)
unfolding product
product-lt zero q = pow_pos (0 + 16)
product-lt (suc k) q =
    xor_lt (suc k + 16) (product k q divisor) (bit_at q k * (divisor * 2 ^ k))
    (let e = product-lt k q in omega (arith, pow_below (k + 16) (suc k + 16) (omega arith))) (times_fits k (bit_at q k) (bit_at-lt q k))

-- a multiple at one place leaves nothing
step-times : (k d : ℕ) → d < 2 → step k (d * (divisor * 2 ^ k)) ≡ 0
step-times k zero h =
    ap (step k) (zero-mul (divisor * 2 ^ k)) ∙ step_none k 0 (pow_pos (k + 16))
step-times k (suc zero) h =
    let place : 16 + k ≡ k + 16 = omega arith in
    let bit : bit_at (divisor * 2 ^ k) (k + 16) ≡ 1 = ap (bit_at (divisor * 2 ^ k)) (sym place) ∙ bit_at-shl divisor k 16 in
    ap (step k) (one-mul (divisor * 2 ^ k))
    ∙ ap (λ b. bit_xor (divisor * 2 ^ k) (b * (divisor * 2 ^ k))) bit
    ∙ ap (bit_xor (divisor * 2 ^ k)) (one-mul (divisor * 2 ^ k)) ∙ xor_self (divisor * 2 ^ k)
step-times k (suc (suc d)) h = absurd (omega arith)

remainder-times : (k d : ℕ) → d < 2 → remainder (suc k) (d * (divisor * 2 ^ k)) ≡ 0
unfolding remainder
remainder-times k d h = ap (remainder k) (step-times k d h) ∙ remainder_small k 0 (pow_pos 16)

pub remainder-product : (k q : ℕ) → remainder k (product k q divisor) ≡ 0
unfolding remainder product
remainder-product zero q = refl
remainder-product (suc k) q =
    let top = bit_at q k * (divisor * 2 ^ k) in
    remainder-xor (suc k) (product k q divisor) top
    ∙ ap (λ n. bit_xor n (remainder (suc k) top)) (remainder_top k (product k q divisor) (product-lt k q) ∙ remainder-product k q)
    ∙ ap (bit_xor 0) (remainder-times k (bit_at q k) (bit_at-lt q k))

-- ---- the product is linear in its number, and shifts at a power of two

pub product-xor : (k a b f : ℕ) → product k (bit_xor a b) f ≡ bit_xor (product k a f) (product k b f)
unfolding product
product-xor zero a b f = refl
product-xor (suc k) a b f =
    ap (bit_xor (product k (bit_xor a b) f)) (bit_at_xor-mul a b k (f * 2 ^ k))
    ∙ ap (λ n. bit_xor n (bit_xor (bit_at a k * (f * 2 ^ k)) (bit_at b k * (f * 2 ^ k)))) (product-xor k a b f)
    ∙ xor_middle (product k a f) (product k b f) (bit_at a k * (f * 2 ^ k)) (bit_at b k * (f * 2 ^ k))

product_other : (k n f : ℕ) → bit_at n k ≡ 0 → product (suc k) n f ≡ product k n f
unfolding product
product_other k n f e =
    ap (λ b. bit_xor (product k n f) (b * (f * 2 ^ k))) e ∙ ap (bit_xor (product k n f)) (zero-mul (f * 2 ^ k))
    ∙ xor_zero_r (product k n f)

product-pow_below : (i k f : ℕ) → i ≤ k → product i (2 ^ k) f ≡ 0
unfolding product
product-pow_below zero k f h = refl
product-pow_below (suc i) k f h =
    product_other i (2 ^ k) f (bit_at-pow_other k i (omega arith)) ∙ product-pow_below i k f (omega arith)

product-pow_last : (i k f : ℕ) → i ≡ k → product (suc i) (2 ^ k) f ≡ f * 2 ^ k
unfolding product
product-pow_last i k f e =
    ap (λ n. bit_xor n (bit_at (2 ^ k) i * (f * 2 ^ i))) (product-pow_below i k f (omega arith))
    ∙ ap (λ j. bit_xor 0 (bit_at (2 ^ k) j * (f * 2 ^ j))) e
    ∙ ap (λ b. bit_xor 0 (b * (f * 2 ^ k))) (bit_at-pow_same k) ∙ xor_zero_l (1 * (f * 2 ^ k))
    ∙ one-mul (f * 2 ^ k)

pub product-pow : (i k f : ℕ) → k < i → product i (2 ^ k) f ≡ f * 2 ^ k
unfolding product
product-pow zero k f h = absurd (omega arith)
product-pow (suc i) k f h =
    elim (cases_lt k i) [
      | inl below ↦ product_other i (2 ^ k) f (bit_at-pow_other k i (omega arith)) ∙ product-pow i k f below
      | inr above ↦ product-pow_last i k f (omega arith)
    ]

-- only the low bits of a factor count
product-low : (i k d q f : ℕ) → i ≤ k → product i (d * 2 ^ k + q) f ≡ product i q f
unfolding product
product-low zero k d q f h = refl
product-low (suc i) k d q f h =
    ap (λ n. bit_xor n (bit_at (d * 2 ^ k + q) i * (f * 2 ^ i))) (product-low i k d q f (omega arith))
    ∙ ap (λ b. bit_xor (product i q f) (b * (f * 2 ^ i))) (bit_at_cat_low d k q i h)

pub record HasQuotient (places dividend : ℕ) : Type 0 where
  pub quotient : ℕ
  pub fits : quotient < 2 ^ places
  pub whole : dividend ≡ bit_xor (product places quotient divisor) (remainder places dividend)

divided_more : (k n : ℕ) → HasQuotient k (step k n) → HasQuotient (suc k) n
unfolding remainder product
divided_more k n h =
    let d = bit_at n (k + 16) in
    let q = d * 2 ^ k + h.quotient in
    let under = d * (divisor * 2 ^ k) in
    let nowhere : k - k ≡ 0 = omega arith in
    let top : bit_at q k ≡ d =
    bit_at_cat_high d k h.quotient k h.fits (omega arith) ∙ ap (bit_at d) nowhere ∙ bit_at_lowest d
    ∙ mod-eq_of_lt (bit_at-lt n (k + 16))
    in
    let factors : bit_xor (product k q divisor) (bit_at q k * (divisor * 2 ^ k)) ≡ bit_xor (product k h.quotient divisor) under =
    ap (λ m. bit_xor m (bit_at q k * (divisor * 2 ^ k))) (product-low k k d h.quotient divisor (omega arith))
    ∙ ap (λ b. bit_xor (product k h.quotient divisor) (b * (divisor * 2 ^ k))) top
    in
    let left = remainder k (step k n) in
    record {
      quotient = q;
      fits = subst (λ m. q < m) (sym (pow-suc 2 k)) (mul-add-lt d (2 ^ k) h.quotient 2 (bit_at-lt n (k + 16)) h.fits);
      whole = sym (xor_twice n under) ∙ ap (λ m. bit_xor m under) h.whole ∙ xor_last (product k h.quotient divisor) left under
          ∙ ap (λ m. bit_xor m left) (sym factors);
    }

pub divided : (k n : ℕ) → n < 2 ^ (k + 16) → HasQuotient k n
unfolding remainder product
divided zero n h = record { quotient = 0; fits = pow_pos 0; whole = sym (xor_zero_l n) }
divided (suc k) n h = divided_more k n (divided k (step k n) (step-lt k n h))

-- ---- the remainder is the one number that is left

pub IsRemainder-remainder : (k n : ℕ) → n < 2 ^ (k + 16) → IsRemainder k n (remainder k n)
IsRemainder-remainder k n h = let q = divided k n h in (remainder-lt k n h, (q.quotient, q.fits, q.whole))

pub one_remainder : (k n left : ℕ) → IsRemainder k n left → left ≡ remainder k n
one_remainder k n left h =
    sym (ap (remainder k) h.1.2 ∙ remainder-xor k (product k h.1.0 divisor) left
    ∙ ap (λ m. bit_xor m (remainder k left)) (remainder-product k h.1.0) ∙ xor_zero_l (remainder k left)
    ∙ remainder_small k left h.0)
