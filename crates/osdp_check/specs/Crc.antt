-- The two-byte check: what is left of the bytes after long division by a polynomial over one bit.
-- A number stands for the polynomial whose coefficients are its bits, so that adding and taking away are both
-- exclusive or.
use Rattle.std.specs.Prelude.{◌≡◌, ℕ, zero, suc, ◌+◌, ◌*◌, ◌/◌, ◌%◌, ◌^◌, ◌<◌, List, [], ◌∷◌, All, length, bit_xor}
use Rattle.std.specs.Int.{bit_at}

-- x^16 + x^12 + x^5 + 1
abbrev pub divisor : ℕ
divisor = 0x11021

-- what the first sixteen bits are changed by before the division
abbrev pub initial : ℕ
initial = 0x1d0f

abbrev pub IsBytes : List ℕ → Type 0
IsBytes bytes = All (λ b. b < 256) bytes

-- the bytes as one number, the first byte highest
unfoldable pub bits_of : List ℕ → ℕ
bits_of [] = 0
bits_of (b ∷ bytes) = b * 2 ^ (8 * length bytes) + bits_of bytes

-- Long division: from the highest place down, the divisor is taken away at each place where a bit is left.
unfoldable pub remainder : ℕ → ℕ → ℕ
remainder zero dividend = dividend
remainder (suc place) dividend =
    remainder place (bit_xor dividend (bit_at dividend (place + 16) * (divisor * 2 ^ place)))

-- what the division leaves of x to the power of places
unfoldable pub power : ℕ → ℕ
power places = remainder places (2 ^ places)

-- the bytes and sixteen zero bits after them, the first sixteen bits changed by start
unfoldable pub dividend_from : ℕ → List ℕ → ℕ
dividend_from start bytes = bit_xor (bits_of bytes * 2 ^ 16) (start * 2 ^ (8 * length bytes))

unfoldable pub crc_from : ℕ → List ℕ → ℕ
crc_from start bytes = remainder (8 * length bytes) (dividend_from start bytes)

unfoldable pub crc : List ℕ → ℕ
crc bytes = crc_from initial bytes

-- the check as sent, low byte first
abbrev pub crc_bytes : List ℕ → List ℕ
crc_bytes bytes = (crc bytes % 256) ∷ (crc bytes / 256) ∷ []

-- the product of two polynomials: factor, moved to each of the lowest places where number has a bit, all added up
unfoldable pub product : ℕ → ℕ → ℕ → ℕ
product zero number factor = 0
product (suc place) number factor =
    bit_xor (product place number factor) (bit_at number place * (factor * 2 ^ place))

-- The dividend is a multiple of the divisor and what is left, which is shorter than the divisor.
abbrev pub IsRemainder : ℕ → ℕ → ℕ → Type 0
IsRemainder places dividend left =
    (left < 2 ^ 16) × ((quotient : ℕ) × (quotient < 2 ^ places) × (dividend ≡ bit_xor (product places quotient divisor) left))

-- the remainder of the bytes, of the sixteen zero bits after them and of the changed first bits
abbrev pub IsCrc : List ℕ → ℕ → Type 0
IsCrc bytes check = IsRemainder (8 * length bytes) (dividend_from initial bytes) check
