-- What the division says of the CRC: it goes piece by piece, and byte by byte through the table.
use Rattle.osdp_check.proofs.Common.{◌≡◌, ℕ, ◌+◌, ◌*◌, ◌/◌, ◌%◌, ◌^◌, ◌<◌, List, [], ◌∷◌, ◌++◌, length, sym, ap, subst, ◌∙◌, arith, zero-add, length-append, zero-mul, mul_assoc, mul-add, mul-one, bit_xor, xor_assoc, xor_zero_r, pow_pos, pow-add, xor_comm, xor_lt, mul-add-lt, shl_below}
use Rattle.std.proofs.lemmas.List.Elements.{All-head, All-tail, All-nil, All-cons}
use Rattle.osdp_check.specs.Crc.{bits_of, crc, crc_from, dividend_from, initial, remainder, IsBytes, IsCrc}
use Rattle.osdp_check.proofs.Xor.{xor_last, xor_twice, xor-shl, xor_parts}
use Rattle.osdp_check.proofs.Remainder.{remainder-xor, remainder-shl, remainder-lt, remainder_small, IsRemainder-remainder, one_remainder}

abbrev width : List ℕ → ℕ
width bytes = 8 * length bytes

width-cons : (b : ℕ) (bytes : List ℕ) → 2 ^ width (b ∷ bytes) ≡ 2 ^ width bytes * 256
width-cons b bytes = let e : 8 * length (b ∷ bytes) ≡ 8 * length bytes + 8 = omega arith in ap (λ n. 2 ^ n) e ∙ pow-add 2 (width bytes) 8

width-append : (bytes more : List ℕ) → width (bytes ++ more) ≡ width bytes + width more
width-append bytes more = ap (λ n. 8 * n) (length-append bytes more) ∙ mul-add 8 (length bytes) (length more)

power-append : (bytes more : List ℕ) → 2 ^ width (bytes ++ more) ≡ 2 ^ width bytes * 2 ^ width more
power-append bytes more = ap (λ n. 2 ^ n) (width-append bytes more) ∙ pow-add 2 (width bytes) (width more)

pub bits_of-append : (bytes more : List ℕ) → bits_of (bytes ++ more) ≡ bits_of bytes * 2 ^ (8 * length more) + bits_of more
unfolding bits_of
bits_of-append [] more = sym (ap (λ n. n + bits_of more) (zero-mul (2 ^ width more)) ∙ zero-add (bits_of more))
bits_of-append (b ∷ bytes) more =
    ap (λ n. b * n + bits_of (bytes ++ more)) (power-append bytes more)
    ∙ ap (λ n. b * (2 ^ width bytes * 2 ^ width more) + n) (bits_of-append bytes more) ∙ omega arith

pub bits_of-lt : (bytes : List ℕ) → IsBytes bytes → bits_of bytes < 2 ^ (8 * length bytes)
unfolding bits_of
bits_of-lt [] h = pow_pos 0
bits_of-lt (b ∷ bytes) h =
    subst (λ n. b * 2 ^ width bytes + bits_of bytes < n) (sym (width-cons b bytes))
    (mul-add-lt b (2 ^ width bytes) (bits_of bytes) 256 (All-head (λ n. n < 256) b bytes h) (bits_of-lt bytes (All-tail (λ n. n < 256) b bytes h)))

dividend_from-lt : (start : ℕ) (bytes : List ℕ) → start < 2 ^ 16 → IsBytes bytes → dividend_from start bytes < 2 ^ (8 * length bytes + 16)
unfolding dividend_from
dividend_from-lt start bytes s h =
    let w = width bytes in
    let place : 16 + w ≡ w + 16 = omega arith in
    xor_lt (w + 16) (bits_of bytes * 2 ^ 16) (start * 2 ^ w) (shl_below (bits_of bytes) w 16 (bits_of-lt bytes h))
    (subst (λ n. start * 2 ^ w < 2 ^ n) place (shl_below start 16 w s))

pub dividend_from-append : (start : ℕ) (bytes more : List ℕ) → IsBytes more → dividend_from start (bytes ++ more) ≡ bit_xor (dividend_from start bytes * 2 ^ (8 * length more)) (bits_of more * 2 ^ 16)
unfolding dividend_from
dividend_from-append start bytes more h =
    let old = bits_of bytes * 2 ^ 16 in
    let new = bits_of more * 2 ^ 16 in
    let front = start * 2 ^ width bytes in
    let power = 2 ^ width more in
    let place : bits_of bytes * 2 ^ (width more + 16) ≡ old * power =
    ap (λ n. bits_of bytes * n) (pow-add 2 (width more) 16) ∙ omega arith
    in
    let bits : bits_of (bytes ++ more) * 2 ^ 16 ≡ bit_xor (old * power) new =
    ap (λ n. n * 2 ^ 16) (bits_of-append bytes more) ∙ omega (arith, place)
    ∙ sym (xor_parts (width more + 16) (bits_of bytes) new (shl_below (bits_of more) (width more) 16 (bits_of-lt more h)))
    ∙ ap (λ n. bit_xor n new) place
    in
    let changed : start * 2 ^ width (bytes ++ more) ≡ front * power =
    ap (λ n. start * n) (power-append bytes more) ∙ sym (mul_assoc start (2 ^ width bytes) power)
    in
    ap (λ n. bit_xor n (start * 2 ^ width (bytes ++ more))) bits ∙ ap (bit_xor (bit_xor (old * power) new)) changed
    ∙ xor_last (old * power) new (front * power) ∙ ap (λ n. bit_xor n new) (xor-shl (width more) old front)

pub crc_from-append : (start : ℕ) (bytes more : List ℕ) → IsBytes more → crc_from start (bytes ++ more) ≡ crc_from (crc_from start bytes) more
unfolding crc_from dividend_from
crc_from-append start bytes more h =
    let new = bits_of more * 2 ^ 16 in
    let left = remainder (width bytes) (dividend_from start bytes) in
    ap (λ k. remainder k (dividend_from start (bytes ++ more))) (width-append bytes more)
    ∙ ap (remainder (width bytes + width more)) (dividend_from-append start bytes more h)
    ∙ remainder-shl (width bytes) (width more) (dividend_from start bytes) new (shl_below (bits_of more) (width more) 16 (bits_of-lt more h))
    ∙ ap (remainder (width more)) (xor_comm (left * 2 ^ width more) new)

pub crc_from-lt : (start : ℕ) (bytes : List ℕ) → start < 2 ^ 16 → IsBytes bytes → crc_from start bytes < 2 ^ 16
unfolding crc_from
crc_from-lt start bytes s h = remainder-lt (8 * length bytes) (dividend_from start bytes) (dividend_from-lt start bytes s h)

pub crc-lt : (bytes : List ℕ) → IsBytes bytes → crc bytes < 2 ^ 16
unfolding crc
crc-lt bytes h = crc_from-lt initial bytes (omega arith) h

-- another start changes the CRC by what is left of the change, so many bytes on
pub crc_from-xor : (start change : ℕ) (bytes : List ℕ) → crc_from (bit_xor start change) bytes ≡ bit_xor (crc_from start bytes) (remainder (8 * length bytes) (change * 2 ^ (8 * length bytes)))
unfolding crc_from dividend_from
crc_from-xor start change bytes =
    let bits = bits_of bytes * 2 ^ 16 in
    let power = 2 ^ width bytes in
    ap (λ n. remainder (width bytes) (bit_xor bits n)) (sym (xor-shl (width bytes) start change))
    ∙ ap (remainder (width bytes)) (sym (xor_assoc bits (start * power) (change * power)))
    ∙ remainder-xor (width bytes) (bit_xor bits (start * power)) (change * power)

-- the CRC of the bytes between two states
pub crc_since : (front state : ℕ) (bytes : List ℕ) → state ≡ crc_from front bytes → bit_xor state (remainder (8 * length bytes) (bit_xor front initial * 2 ^ (8 * length bytes))) ≡ crc bytes
unfolding crc
crc_since front state bytes e =
    let change = bit_xor front initial in
    let moved = remainder (width bytes) (change * 2 ^ width bytes) in
    let back : bit_xor initial change ≡ front = xor_comm initial change ∙ xor_twice front initial in
    let whole : state ≡ bit_xor (crc_from initial bytes) moved =
    e ∙ ap (λ n. crc_from n bytes) (sym back) ∙ crc_from-xor initial change bytes
    in
    ap (λ n. bit_xor n moved) whole ∙ xor_twice (crc_from initial bytes) moved

-- the CRC of the rest, from those of the whole and of the front
pub crc_of_rest : (bytes more : List ℕ) → IsBytes more → crc more ≡ bit_xor (crc (bytes ++ more)) (remainder (8 * length more) (bit_xor (crc bytes) initial * 2 ^ (8 * length more)))
unfolding crc
crc_of_rest bytes more h = sym (crc_since (crc bytes) (crc (bytes ++ more)) more (crc_from-append initial bytes more h))

pub bits_of-one : (b : ℕ) → bits_of (b ∷ []) ≡ b
unfolding bits_of
bits_of-one b = omega arith

-- no bytes leave the start as it is
pub crc_from-nil : (start : ℕ) → crc_from start [] ≡ start
unfolding crc_from dividend_from bits_of remainder
crc_from-nil start = mul-one start

-- the step of the table
pub crc_from-byte : (start b : ℕ) → start < 2 ^ 16 → b < 256 → crc_from start (b ∷ []) ≡ bit_xor (start * 2 ^ 8 % 2 ^ 16) (crc_from 0 (bit_xor (start / 2 ^ 8) b ∷ []))
unfolding crc_from dividend_from bits_of
crc_from-byte start b s h =
    let high = start / 2 ^ 8 in
    let low = start % 2 ^ 8 in
    let index = bit_xor high b in
    let fits : low * 2 ^ 8 < 2 ^ 16 = omega arith in
    let byte : (n : ℕ) → (n * 2 ^ 0 + 0) * 2 ^ 16 ≡ n * 2 ^ 16 = λ n. omega arith in
    let parts : start * 2 ^ 8 ≡ bit_xor (high * 2 ^ 16) (low * 2 ^ 8) =
    let split : start * 2 ^ 8 ≡ high * 2 ^ 16 + low * 2 ^ 8 = omega arith in
    split ∙ sym (xor_parts 16 high (low * 2 ^ 8) fits)
    in
    let joined : bit_xor (b * 2 ^ 16) (bit_xor (high * 2 ^ 16) (low * 2 ^ 8)) ≡ bit_xor (index * 2 ^ 16) (low * 2 ^ 8) =
    sym (xor_assoc (b * 2 ^ 16) (high * 2 ^ 16) (low * 2 ^ 8))
    ∙ ap (λ n. bit_xor n (low * 2 ^ 8)) (xor-shl 16 b high ∙ ap (λ n. n * 2 ^ 16) (xor_comm b high))
    in
    let entry : remainder 8 (index * 2 ^ 16) ≡ crc_from 0 (index ∷ []) =
    ap (remainder 8) (sym (byte index) ∙ sym (xor_zero_r ((index * 2 ^ 0 + 0) * 2 ^ 16)))
    in
    let kept : low * 2 ^ 8 ≡ start * 2 ^ 8 % 2 ^ 16 = omega arith in
    ap (λ n. remainder 8 (bit_xor n (start * 2 ^ 8))) (byte b) ∙ ap (λ n. remainder 8 (bit_xor (b * 2 ^ 16) n)) parts
    ∙ ap (remainder 8) joined ∙ remainder-xor 8 (index * 2 ^ 16) (low * 2 ^ 8)
    ∙ ap (bit_xor (remainder 8 (index * 2 ^ 16))) (remainder_small 8 (low * 2 ^ 8) fits)
    ∙ xor_comm (remainder 8 (index * 2 ^ 16)) (low * 2 ^ 8) ∙ ap (bit_xor (low * 2 ^ 8)) entry
    ∙ ap (λ n. bit_xor n (crc_from 0 (index ∷ []))) kept

pub crc-push : (bytes : List ℕ) (b : ℕ) → b < 256 → crc (bytes ++ b ∷ []) ≡ crc_from (crc bytes) (b ∷ [])
unfolding crc
crc-push bytes b h = crc_from-append initial bytes (b ∷ []) (All-cons (λ n. n < 256) b [] h (All-nil (λ n. n < 256)))

pub one_crc : (bytes : List ℕ) (check : ℕ) → IsCrc bytes check → check ≡ crc bytes
unfolding crc crc_from
one_crc bytes check h = one_remainder (8 * length bytes) (dividend_from initial bytes) check h

pub IsCrc-crc : (bytes : List ℕ) → IsBytes bytes → IsCrc bytes (crc bytes)
unfolding crc crc_from
IsCrc-crc bytes h = IsRemainder-remainder (8 * length bytes) (dividend_from initial bytes) (dividend_from-lt initial bytes (omega arith) h)
