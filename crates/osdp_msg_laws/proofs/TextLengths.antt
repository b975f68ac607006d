-- How long texts of words are.
use Rattle.osdp_msg_laws.proofs.Common.{◌≡◌, ◌<◌, ◌≤◌, ◌+◌, ◌*◌, ◌^◌, ℕ, zero, suc, List, [], ◌∷◌, ◌++◌, codes, length, map, replicate, arith, length-append, suc-mul, decimal, All, AllZip, flat_map, length-decimal-le, All-head, All-tail, upper_digits, length-encode_with, Word, bytes, numbers, plain, printed, text_of}

-- the words after the first of a text, each after a space
abbrev pub rest_of : List Word → List ℕ
rest_of words = flat_map (λ word. codes " " ++ printed word) words

-- the numbers after the first of a record, each after a colon
abbrev pub colons : List ℕ → List ℕ
colons ns = flat_map (λ m. codes ":" ++ decimal m) ns

-- ---- at most

pub byte_digits : (n : ℕ) → n < 256 → length (decimal n) ≤ 3
byte_digits n h = length-decimal-le 3 n (omega arith) (omega arith) (omega arith)

pub timer_digits : (n : ℕ) → n < 2 ^ 16 → length (decimal n) ≤ 5
timer_digits n h = length-decimal-le 5 n (omega arith) (omega arith) (omega arith)

pub rate_digits : (n : ℕ) → n < 2 ^ 32 → length (decimal n) ≤ 10
rate_digits n h = length-decimal-le 10 n (omega arith) (omega arith) (omega arith)

pub bytes_digits : (most : ℕ) (bs : List ℕ) → 2 ≤ most → length bs ≤ most → length (printed (bytes bs)) ≤ 2 * most
bytes_digits most [] some h = omega arith
bytes_digits most (b ∷ bs) some h = omega (arith, length-encode_with upper_digits (b ∷ bs))

pub word_more : (k j : ℕ) (w : Word) (ws : List Word) → length (printed w) ≤ k → length (rest_of ws) ≤ j → length (rest_of (w ∷ ws)) ≤ 1 + k + j
word_more k j w ws h l = omega (arith, length-append (codes " " ++ printed w) (rest_of ws))

-- the room for words of at most these lengths, each after a space or a colon
abbrev pub room : List ℕ → ℕ
room [] = 0
room (k ∷ ks) = 1 + k + room ks

pub rest_within : (ws : List Word) (ks : List ℕ) → AllZip (λ w k. length (printed w) ≤ k) ws ks → length (rest_of ws) ≤ room ks
rest_within [] [] h = omega arith
rest_within [] (k ∷ ks) h = absurd h
rest_within (w ∷ ws) [] h = absurd h
rest_within (w ∷ ws) (k ∷ ks) h = word_more k (room ks) w ws h.0 (rest_within ws ks h.1)

colons_within : (ns ks : List ℕ) → AllZip (λ n k. length (decimal n) ≤ k) ns ks → length (colons ns) ≤ room ks
colons_within [] [] h = omega arith
colons_within [] (k ∷ ks) h = absurd h
colons_within (n ∷ ns) [] h = absurd h
colons_within (n ∷ ns) (k ∷ ks) h = omega (arith, h.0, length-append (codes ":" ++ decimal n) (colons ns), colons_within ns ks h.1)

-- a record is its first number and those after colons
pub record_within : (n : ℕ) (ns ks : List ℕ) → n < 256 → AllZip (λ n k. length (decimal n) ≤ k) ns ks → length (printed (numbers (n ∷ ns))) ≤ 3 + room ks
record_within n ns ks fits h = omega (arith, byte_digits n fits, length-append (decimal n) (colons ns), colons_within ns ks h)

pub records_length : {R : Type 0} (word : R → Word) (Fits : R → Type 0) (k : ℕ) → ((r : R) → Fits r → length (printed (word r)) ≤ k) → (rs : List R) → All Fits rs
    → length (rest_of (map word rs)) ≤ length rs * (1 + k)
records_length word Fits k each [] h = omega arith
records_length word Fits k each (r ∷ rs) h =
    omega (arith, suc-mul (length rs) (1 + k), word_more k (length rs * (1 + k)) (word r) (map word rs) (each r (All-head Fits r rs h)) (records_length word Fits k each rs (All-tail Fits r rs h)))

-- a text is its name and the words after spaces
pub text_length : (k j : ℕ) (name : List ℕ) (ws : List Word) → length name ≤ k → length (rest_of ws) ≤ j → length (text_of (plain name ∷ ws)) ≤ k + j
text_length k j name ws h l = omega (arith, length-append name (rest_of ws))

-- ---- as many

pub records_exactly : {R : Type 0} (word : R → Word) (r : R) (k n : ℕ) → length (printed (word r)) ≡ k → length (rest_of (map word (replicate n r))) ≡ n * (1 + k)
records_exactly word r k zero e = omega arith
records_exactly word r k (suc n) e =
    omega (arith, suc-mul n (1 + k), e, length-append (codes " " ++ printed (word r)) (rest_of (map word (replicate n r))), records_exactly word r k n e)
