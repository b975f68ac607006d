-- Lists of bytes, byte by byte, and numbers in them.
use Rattle.osdp_msg.proofs.Common.{◌≡◌, ◌<◌, ◌≤◌, inl, inr, add-zero, ℕ, zero, suc, ◌+◌, ◌*◌, ◌/◌, ◌%◌, ◌^◌, List, [], ◌∷◌, ◌++◌, length, drop, take, get_or, refl, sym, ap, ◌∙◌, arith, AllByRecursion, cases_lt, append-nil, get_or-drop, get_or-take, get_or_past, length-drop, length-take, nil_from_length, IsBytes, little_bytes, little_number}
use Rattle.std.proofs.Math.Seq.{drop-cons}

-- k elements from place n on
abbrev pub cells_from : ℕ → ℕ → List ℕ → List ℕ
cells_from n zero bs = []
cells_from n (suc k) bs = get_or bs n 0 ∷ cells_from (suc n) k bs

-- a list from place n on is its next elements, and what stands after them
pub cells : (k n : ℕ) (bs : List ℕ) → n + k ≤ length bs → drop n bs ≡ cells_from n k bs ++ drop (n + k) bs
cells zero n bs le = ap (λ (i : ℕ). drop i bs) (sym (add-zero n))
cells (suc k) n bs le =
    let rest = cells k (suc n) bs (omega arith) in
    let same : suc n + k ≡ n + suc k = omega arith in
    drop-cons bs n 0 (omega arith) ∙ ap (λ (t : List ℕ). get_or bs n 0 ∷ t) (rest ∙ ap (λ (i : ℕ). cells_from (suc n) k bs ++ drop i bs) same)

-- a list of k elements
pub all_cells : (k : ℕ) (bs : List ℕ) → length bs ≡ k → bs ≡ cells_from 0 k bs
all_cells k bs e =
    let none : drop k bs ≡ [] = nil_from_length (drop k bs) (simp length-drop (omega arith)) in
    let at : 0 + k ≡ k = omega arith in
    cells k 0 bs (omega arith)
    ∙ ap (λ (i : ℕ). cells_from 0 k bs ++ drop i bs) at
    ∙ ap (λ (t : List ℕ). cells_from 0 k bs ++ t) none
    ∙ append-nil (cells_from 0 k bs)

pub IsBytes-nil : IsBytes []
IsBytes-nil i = omega arith

pub IsBytes-cons : (b : ℕ) (bs : List ℕ) → b < 256 → IsBytes bs → IsBytes (b ∷ bs)
IsBytes-cons b bs h hs zero = h
IsBytes-cons b bs h hs (suc i) = hs i

pub IsBytes-tail : (b : ℕ) (bs : List ℕ) → IsBytes (b ∷ bs) → IsBytes bs
IsBytes-tail b bs h i = h (suc i)

pub IsBytes-drop : (n : ℕ) (bs : List ℕ) → IsBytes bs → IsBytes (drop n bs)
IsBytes-drop n bs h i = rw get_or-drop (h (n + i))

pub IsBytes-take : (n : ℕ) (bs : List ℕ) → IsBytes bs → IsBytes (take n bs)
IsBytes-take n bs h i =
    elim (cases_lt i n) [
      | inl lt ↦ rw (get_or-take n bs i 0 lt) (h i)
      | inr le ↦ rw (get_or_past (take n bs) i 0 (omega (arith, length-take n bs))) (omega arith)
    ]

pub IsBytes-append : (xs ys : List ℕ) → IsBytes xs → IsBytes ys → IsBytes (xs ++ ys)
IsBytes-append [] ys h k = k
IsBytes-append (x ∷ xs) ys h k = IsBytes-cons x (xs ++ ys) (h 0) (IsBytes-append xs ys (IsBytes-tail x xs h) k)

pub IsBytes-cells : (n k : ℕ) (bs : List ℕ) → IsBytes bs → IsBytes (cells_from n k bs)
IsBytes-cells n zero bs h = IsBytes-nil
IsBytes-cells n (suc k) bs h = IsBytes-cons (get_or bs n 0) (cells_from (suc n) k bs) (h n) (IsBytes-cells (suc n) k bs h)

-- low byte first

pub number_2 : (a b : ℕ) → a < 256 → b < 256 → little_bytes 2 (a + 256 * (b + 0)) ≡ a ∷ b ∷ []
number_2 a b ha hb =
    let first : (a + 256 * (b + 0)) % 256 ≡ a = omega arith in
    let second : (a + 256 * (b + 0)) / 256 % 256 ≡ b = omega arith in
    rw (first, second) refl

pub number_4 : (a b c d : ℕ) → a < 256 → b < 256 → c < 256 → d < 256
    → little_bytes 4 (a + 256 * (b + 256 * (c + 256 * (d + 0)))) ≡ a ∷ b ∷ c ∷ d ∷ []
number_4 a b c d ha hb hc hd =
    let n0 : (a + 256 * (b + 256 * (c + 256 * (d + 0)))) % 256 ≡ a = omega arith in
    let n1 : (a + 256 * (b + 256 * (c + 256 * (d + 0)))) / 256 % 256 ≡ b = omega arith in
    let n2 : (a + 256 * (b + 256 * (c + 256 * (d + 0)))) / 65536 % 256 ≡ c = omega arith in
    let n3 : (a + 256 * (b + 256 * (c + 256 * (d + 0)))) / 16777216 % 256 ≡ d = omega arith in
    rw (n0, n1, n2, n3) refl

pub bytes_2 : (n : ℕ) (rest : List ℕ) → n < 2 ^ 16 → little_number 2 (little_bytes 2 n ++ rest) ≡ n
bytes_2 n rest lt = omega arith

pub bytes_4 : (n : ℕ) (rest : List ℕ) → n < 2 ^ 32 → little_number 4 (little_bytes 4 n ++ rest) ≡ n
bytes_4 n rest lt = omega arith

-- the number in two or four bytes of a list
pub number_2_at : (n : ℕ) (bs : List ℕ) → IsBytes bs → little_bytes 2 (little_number 2 (drop n bs)) ≡ get_or bs n 0 ∷ get_or bs (n + 1) 0 ∷ []
number_2_at n bs h =
    let a = get_or-drop n bs 0 0 in
    let b = get_or-drop n bs 1 0 in
    let first : get_or (drop n bs) 0 0 ≡ get_or bs n 0 = a ∙ ap (λ (i : ℕ). get_or bs i 0) (add-zero n) in
    number_2 (get_or (drop n bs) 0 0) (get_or (drop n bs) 1 0) (IsBytes-drop n bs h 0) (IsBytes-drop n bs h 1) ∙ rw (first, b) refl

pub number_4_at : (n : ℕ) (bs : List ℕ) → IsBytes bs → little_bytes 4 (little_number 4 (drop n bs)) ≡ get_or bs n 0 ∷ get_or bs (n + 1) 0 ∷ get_or bs (n + 2) 0 ∷ get_or bs (n + 3) 0 ∷ []
number_4_at n bs h =
    let in_drop = IsBytes-drop n bs h in
    let first : get_or (drop n bs) 0 0 ≡ get_or bs n 0 = get_or-drop n bs 0 0 ∙ ap (λ (i : ℕ). get_or bs i 0) (add-zero n) in
    let d = drop n bs in
    number_4 (get_or d 0 0) (get_or d 1 0) (get_or d 2 0) (get_or d 3 0) (in_drop 0) (in_drop 1) (in_drop 2) (in_drop 3)
    ∙ rw (first, get_or-drop n bs 1 0, get_or-drop n bs 2 0, get_or-drop n bs 3 0) refl

pub number_2_bound : (bs : List ℕ) → IsBytes bs → little_number 2 bs < 2 ^ 16
number_2_bound bs h = omega (arith, h 0, h 1)

pub number_4_bound : (bs : List ℕ) → IsBytes bs → little_number 4 bs < 2 ^ 32
number_4_bound bs h = omega (arith, h 0, h 1, h 2, h 3)

-- a list of bytes, element by element
pub IsBytes-each : (bs : List ℕ) → AllByRecursion (λ b. b < 256) bs → IsBytes bs
IsBytes-each [] h = IsBytes-nil
IsBytes-each (b ∷ bs) h = IsBytes-cons b bs h.0 (IsBytes-each bs h.1)

-- some bytes, the count of a list among them, and the list
pub IsBytes-counted : (front list : List ℕ) → AllByRecursion (λ b. b < 256) front → length list ≤ 255 → IsBytes list → IsBytes (front ++ length list ∷ list)
IsBytes-counted [] list h room each = IsBytes-cons (length list) list (omega arith) each
IsBytes-counted (b ∷ front) list h room each = IsBytes-cons b (front ++ length list ∷ list) h.0 (IsBytes-counted front list h.1 room each)

low_byte : (n : ℕ) → n % 256 < 256
low_byte n = omega arith

pub IsBytes-little_2 : (n : ℕ) → IsBytes (little_bytes 2 n)
IsBytes-little_2 n = IsBytes-each (little_bytes 2 n) (low_byte n, (low_byte (n / 256), tt))

pub IsBytes-little_4 : (n : ℕ) → IsBytes (little_bytes 4 n)
IsBytes-little_4 n =
    IsBytes-each (little_bytes 4 n) (low_byte n, (low_byte (n / 256), (low_byte (n / 65536), (low_byte (n / 16777216), tt))))
