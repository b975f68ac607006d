-- What a packet at the head of bytes says of these bytes.
use Rattle.osdp_frame.proofs.Common.{◌≡◌, ℕ, zero, suc, ◌+◌, ◌-◌, ◌*◌, ◌/◌, ◌%◌, ◌<◌, ◌≤◌, Bool, true, false, cond, eqb, ltb, List, [], ◌∷◌, ◌++◌, length, take, drop, get_or, refl, sym, ap, subst, ◌∙◌, append_assoc, arith, inl, inr, length-append, take_at, drop_at, take-append-le, get_or_append_left, take-append-drop, length-take-le, take-take, get_or-drop, get_or-take, get_or_past, length-take, length-drop, cases_lt, nat_tests, between, CheckKind, Sum, Crc, AreBytes, check_of, check_size, Packet, packet_length, largest, Spells, front, control_byte, crc_bit, start_of_message, Begins, count_at, check_at, smallest, IsChecked, packet_at, is_checked}
use Rattle.std.specs.Bool.{Decides}
use Rattle.std.proofs.lemmas.Slice.{between_is}
use Rattle.std.proofs.lemmas.Slice.Eq.{bytes_eq-Decides}
use Rattle.osdp_frame.proofs.Spelled.{length-front, length-checked, length-spelled}

pub AreBytes-drop : (n : ℕ) (bytes : List ℕ) → AreBytes bytes → AreBytes (drop n bytes)
AreBytes-drop n bytes h place = subst (λ (b : ℕ). b < 256) (sym (get_or-drop n bytes place 0)) (h (n + place))

-- the kind of check is told by bit 2 of the control byte
pub check_of_control : (p : Packet) → p.sequence < 4 → cond (eqb (control_byte p / 4 % 2) 0) Sum Crc ≡ p.check
check_of_control p lt = by_flags p.check p.block
  where
    bit_sum : (s r f : ℕ) → s < 4 → (s + 0 + 8 * f + 16 * r) / 4 % 2 ≡ 0
    bit_sum s r f h = omega arith

    bit_crc : (s r f : ℕ) → s < 4 → (s + 4 + 8 * f + 16 * r) / 4 % 2 ≡ 1
    bit_crc s r f h = omega arith

    by_flags : (c : CheckKind) (f : Bool) → cond (eqb ((p.sequence + crc_bit c + cond f 8 0 + 16 * p.reserved) / 4 % 2) 0) Sum Crc ≡ c
    by_flags Sum true = ap (λ n. cond (eqb n 0) Sum Crc) (bit_sum p.sequence p.reserved 1 lt)
    by_flags Sum false = ap (λ n. cond (eqb n 0) Sum Crc) (bit_sum p.sequence p.reserved 0 lt)
    by_flags Crc true = ap (λ n. cond (eqb n 0) Sum Crc) (bit_crc p.sequence p.reserved 1 lt)
    by_flags Crc false = ap (λ n. cond (eqb n 0) Sum Crc) (bit_crc p.sequence p.reserved 0 lt)

-- what a packet at the head says
pub record Tells (p : Packet) (rest : List ℕ) : Type 0 where
  pub long : packet_length p ≤ length rest
  pub start : get_or rest 0 0 ≡ start_of_message
  pub count : count_at rest ≡ packet_length p
  pub check : check_at rest ≡ p.check
  pub checked : IsChecked rest

number_again : (n : ℕ) → n % 256 + 256 * (n / 256) ≡ n
number_again n = omega arith

-- the front and the check are all that the count speaks of
parts_again : (p : Packet) (n : ℕ) (after : List ℕ) → n ≡ packet_length p → (take n ((front p n ++ check_of p.check (front p n)) ++ after) ≡ front p n ++ check_of p.check (front p n)) × (take (n - check_size p.check) ((front p n ++ check_of p.check (front p n)) ++ after) ≡ front p n)
parts_again p n after e =
    let kind = check_of p.check (front p n) in
    let whole : length (front p n ++ kind) ≡ n = omega (arith, length-checked p.check (front p n), length-front p n) in
    let head : length (front p n) ≡ n - check_size p.check = omega (arith, length-front p n) in (
      take_at (front p n ++ kind) after n whole,
      ap (take (n - check_size p.check)) (append_assoc (front p n) kind after) ∙ take_at (front p n) (kind ++ after) (n - check_size p.check) head,
    )

pub Tells-Begins : (p : Packet) (rest : List ℕ) → Begins p rest → Tells p rest
Tells-Begins p rest b =
    let n = length b.bytes in
    let n-is : n ≡ packet_length p = length-spelled p b.bytes b.spelled in
    let kind = check_of p.check (front p n) in
    let spelled : rest ≡ (front p n ++ kind) ++ b.after = b.parts ∙ ap (λ l. l ++ b.after) b.spelled.whole in
    let count : count_at rest ≡ n = ap count_at spelled ∙ number_again n in
    let check : check_at rest ≡ p.check = ap check_at spelled ∙ check_of_control p b.spelled.fits.sequence in
    let parts = parts_again p n b.after n-is in
    let whole : take n rest ≡ front p n ++ kind = ap (take n) spelled ∙ parts.0 in
    let head : take (n - check_size p.check) rest ≡ front p n = ap (take (n - check_size p.check)) spelled ∙ parts.1 in
    let checked : take n rest ≡ take (n - check_size p.check) rest ++ check_of p.check (take (n - check_size p.check) rest) =
    whole ∙ ap (λ l. l ++ check_of p.check l) (sym head) in
    let HasCheck : ℕ → CheckKind → Type 0 = λ m k. take m rest ≡ take (m - check_size k) rest ++ check_of k (take (m - check_size k) rest) in
    record {
      long = omega (arith, ap length b.parts, length-append b.bytes b.after);
      start = ap (λ l. get_or l 0 0) spelled;
      count = count ∙ n-is;
      check = check;
      checked = subst (λ m. HasCheck m (check_at rest)) (sym count) (subst (λ k. HasCheck n k) (sym check) checked);
    }

-- with more after it, it says the same
pub count_at-append : (bytes more : List ℕ) → 5 ≤ length bytes → count_at (bytes ++ more) ≡ count_at bytes
count_at-append bytes more long =
    let low : get_or (bytes ++ more) 2 0 ≡ get_or bytes 2 0 = get_or_append_left bytes more 0 2 (omega arith) in
    let high : get_or (bytes ++ more) 3 0 ≡ get_or bytes 3 0 = get_or_append_left bytes more 0 3 (omega arith) in
    cc

pub check_at-append : (bytes more : List ℕ) → 5 ≤ length bytes → check_at (bytes ++ more) ≡ check_at bytes
check_at-append bytes more long =
    ap (λ b. cond (eqb (b / 4 % 2) 0) Sum Crc) (get_or_append_left bytes more 0 4 (omega arith))

-- the check of the first n bytes, of this kind, is right
abbrev pub HasCheck : ℕ → CheckKind → List ℕ → Type 0
HasCheck n kind l =
    take n l ≡ take (n - check_size kind) l ++ check_of kind (take (n - check_size kind) l)

pub HasCheck-append : (n : ℕ) (kind : CheckKind) (l more : List ℕ) → n ≤ length l → HasCheck n kind (l ++ more) → HasCheck n kind l
HasCheck-append n kind l more long h =
    let m = n - check_size kind in
    let whole : take n (l ++ more) ≡ take n l = take-append-le n l more long in
    let head : take m (l ++ more) ≡ take m l = take-append-le m l more (omega arith) in
    sym whole ∙ h ∙ ap (λ x. x ++ check_of kind x) head

pub IsChecked-append : (l more : List ℕ) → 5 ≤ length l → count_at l ≤ length l → IsChecked (l ++ more) → IsChecked l
IsChecked-append l more five long h =
    let with_count : HasCheck (count_at l) (check_at (l ++ more)) (l ++ more) = subst (λ n. HasCheck n (check_at (l ++ more)) (l ++ more)) (count_at-append l more five) h in
    let with_check : HasCheck (count_at l) (check_at l) (l ++ more) = subst (λ k. HasCheck (count_at l) k (l ++ more)) (check_at-append l more five) with_count in
    HasCheck-append (count_at l) (check_at l) l more long with_check

pub is_checked-Decides : (rest : List ℕ) → count_at rest ≤ length rest → Decides (is_checked rest) (IsChecked rest)
is_checked-Decides rest long =
    let n = count_at rest in
    let m = n - check_size (check_at rest) in
    let check = check_of (check_at rest) (take m rest) in
    let there : between m n rest ≡ drop m (take n rest) = between_is rest m n in
    let d = bytes_eq-Decides (between m n rest) check in
    let head : take m (take n rest) ≡ take m rest = take-take m n rest (omega arith) in
    let size : length (take m rest) ≡ m = length-take-le m rest (omega arith) in
    let split : take n rest ≡ take m rest ++ drop m (take n rest) = sym (take-append-drop m (take n rest)) ∙ ap (λ l. l ++ drop m (take n rest)) head in (
      λ e. split ∙ ap (λ l. take m rest ++ l) (sym there ∙ d.0 e),
      λ h. d.1 (there ∙ ap (drop m) h ∙ drop_at (take m rest) check m size),
    )

-- the fields are those that the bytes of the head hold
address_of : (a : ℕ) → a < 256 → a % 128 + cond (ltb 127 a) 128 0 ≡ a
address_of a byte = grind (arith, nat_tests)

crc_bit_of : (x : ℕ) → x < 2 → crc_bit (cond (eqb x 0) Sum Crc) ≡ 4 * x
crc_bit_of zero lt = refl
crc_bit_of (suc zero) lt = refl
crc_bit_of (suc (suc x)) lt = absurd (omega arith)

block_bit_of : (x : ℕ) → x < 2 → cond (eqb x 1) 8 0 ≡ 8 * x
block_bit_of zero lt = refl
block_bit_of (suc zero) lt = refl
block_bit_of (suc (suc x)) lt = absurd (omega arith)

control_of : (c : ℕ) → c % 4 + crc_bit (cond (eqb (c / 4 % 2) 0) Sum Crc) + cond (eqb (c / 8 % 2) 1) 8 0 + 16 * (c / 16) ≡ c
control_of c =
    let crc = crc_bit_of (c / 4 % 2) (omega arith) in
    let block = block_bit_of (c / 8 % 2) (omega arith) in
    omega (arith, crc, block)

pub AreBytes-take : (n : ℕ) (bytes : List ℕ) → AreBytes bytes → AreBytes (take n bytes)
AreBytes-take n bytes h place =
    elim (cases_lt place n) [
      | inl lt ↦ subst (λ (b : ℕ). b < 256) (sym (get_or-take n bytes place 0 lt)) (h place)
      | inr le ↦ subst (λ (b : ℕ). b < 256) (sym (get_or_past (take n bytes) place 0 (omega (arith, length-take n bytes)))) (omega arith)
    ]

pub AreBytes-cons : (b : ℕ) (bytes : List ℕ) → b < 256 → AreBytes bytes → AreBytes (b ∷ bytes)
AreBytes-cons b bytes lt h zero = lt
AreBytes-cons b bytes lt h (suc place) = h place

pub AreBytes-append : (xs ys : List ℕ) → AreBytes xs → AreBytes ys → AreBytes (xs ++ ys)
AreBytes-append [] ys a b = b
AreBytes-append (x ∷ xs) ys a b = AreBytes-cons x (xs ++ ys) (a 0) (AreBytes-append xs ys (λ place. a (suc place)) b)

pub AreBytes-nil : AreBytes []
AreBytes-nil place = omega arith

-- the bytes at the head are well: a packet may begin here
pub record IsHead (rest : List ℕ) : Type 0 where
  pub bytes : AreBytes rest
  pub start : get_or rest 0 0 ≡ start_of_message
  pub five : 5 ≤ length rest
  pub not_short : smallest (check_at rest) ≤ count_at rest
  pub not_long : count_at rest ≤ largest
  pub there : count_at rest ≤ length rest

-- its front stands there
front_at : (rest : List ℕ) → IsHead rest → front (packet_at rest) (count_at rest) ≡ take (count_at rest - check_size (check_at rest)) rest
front_at [] h = absurd (omega (arith, h.five))
front_at (s ∷ []) h = absurd (omega (arith, h.five))
front_at (s ∷ a ∷ []) h = absurd (omega (arith, h.five))
front_at (s ∷ a ∷ low ∷ []) h = absurd (omega (arith, h.five))
front_at (s ∷ a ∷ low ∷ high ∷ []) h = absurd (omega (arith, h.five))
front_at (s ∷ a ∷ low ∷ high ∷ c ∷ tail) h =
    let rest = s ∷ a ∷ low ∷ high ∷ c ∷ tail in
    let n = low + 256 * high in
    let m = n - check_size (check_at rest) in
    let shape : m ≡ suc (suc (suc (suc (suc (m - 5))))) = omega (arith, h.not_short) in
    let taken : take m rest ≡ s ∷ a ∷ low ∷ high ∷ c ∷ take (m - 5) tail = ap (λ k. take k rest) shape in
    let low-is : n % 256 ≡ low = omega (arith, h.bytes 2) in
    let high-is : n / 256 ≡ high = omega (arith, h.bytes 2, h.bytes 3) in
    let address = address_of a (h.bytes 1) in
    let control = control_of c in
    let start : start_of_message ≡ s = sym h.start in
    (λ i. start i ∷ address i ∷ low-is i ∷ high-is i ∷ control i ∷ take (m - 5) tail) ∙ sym taken

pub Spells-packet_at : (rest : List ℕ) → IsHead rest → IsChecked rest → Spells (packet_at rest) (take (count_at rest) rest)
Spells-packet_at rest h checked =
    let n = count_at rest in
    let m = n - check_size (check_at rest) in
    let size : length (take n rest) ≡ n = length-take-le n rest h.there in
    let front-is = front_at rest h in
    let body-size : length (take (m - 5) (drop 5 rest)) ≡ m - 5 = omega (arith, length-take (m - 5) (drop 5 rest), length-drop 5 rest, h.there) in
    record {
      fits = record {
        address = omega arith;
        sequence = omega arith;
        reserved = omega (arith, h.bytes 4);
        body = AreBytes-take (m - 5) (drop 5 rest) (AreBytes-drop 5 rest h.bytes);
        code = omega (arith, h.not_short);
        room = omega (arith, h.not_short, h.not_long);
      };
      whole = checked ∙ ap (λ l. l ++ check_of (check_at rest) l) (sym front-is) ∙ ap (λ k. front (packet_at rest) k ++ check_of (check_at rest) (front (packet_at rest) k)) (sym size);
    }

pub Begins-packet_at : (rest more : List ℕ) → IsHead rest → IsChecked rest → Begins (packet_at rest) (rest ++ more)
Begins-packet_at rest more h checked = record {
  bytes = take (count_at rest) rest;
  after = drop (count_at rest) rest ++ more;
  spelled = Spells-packet_at rest h checked;
  parts = ap (λ l. l ++ more) (sym (take-append-drop (count_at rest) rest)) ∙ append_assoc (take (count_at rest) rest) (drop (count_at rest) rest) more;
}
