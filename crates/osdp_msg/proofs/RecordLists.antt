-- Lists of records of one size.
use Rattle.osdp_msg.proofs.Common.{◌≡◌, ◌<◌, ◌≤◌, inl, inr, ℕ, zero, suc, ◌+◌, ◌-◌, ◌*◌, ◌/◌, ◌%◌, List, [], ◌∷◌, ◌++◌, length, drop, refl, sym, ap, ◌∙◌, arith, All, flat_map, drop_at, length-append, length-drop, nil_from_length, flat_map-cons, add-div_left, div-add-mod, div-lt_iff_lt-mul, mul-div_cancel_left, mul-le-mul_left, mul-mod_right, mul-suc, cases_lt, All-cons, All-head, All-nil, All-tail, IsBytes, AreWhole, IsRecord, records_at, records_from}
use Rattle.osdp_msg.specs.declared.lent.Lent.{Lent}
use Rattle.osdp_msg.specs.declared.lent.Lent.TheVariants as lent
use Rattle.osdp_msg.specs.Lending.{AreAtMost, lent_records}
use Rattle.osdp_msg.proofs.Bytes.{IsBytes-append, IsBytes-drop, IsBytes-nil}

-- a list of records of one size
pub length-flat_map_size : {R : Type 0} (spelled : R → List ℕ) (size : ℕ) → ((r : R) → length (spelled r) ≡ size)
    → (rs : List R) → length (flat_map spelled rs) ≡ size * length rs
length-flat_map_size spelled size each [] = omega arith
length-flat_map_size spelled size each (r ∷ rs) =
    let head = each r in
    let tail = length-flat_map_size spelled size each rs in
    ap length (flat_map-cons spelled r rs) ∙ length-append (spelled r) (flat_map spelled rs) ∙ omega (arith, head, tail, mul-suc size (length rs))

-- room for one more record of a message
pub spelling_room : (size len i spelled : ℕ) → i < len → size * len ≤ 1432 → spelled ≡ suc (size * i) → spelled + size ≤ 1433
spelling_room size len i spelled lt fits is =
    let more : size * (i + 1) ≤ size * len = mul-le-mul_left size (omega arith) in
    omega (arith, more, is)

pub length-records_from : {R : Type 0} (first : List ℕ → R) (size n : ℕ) (bs : List ℕ) → length (records_from first size n bs) ≡ n
length-records_from first size zero bs = refl
length-records_from first size (suc n) bs = ap suc (length-records_from first size n (drop size bs))

module _ {R : Type 0} (size : ℕ) (spelled : R → List ℕ) (Fits : R → Type 0) (first : List ℕ → R) (kind : IsRecord size spelled Fits first) where
  again_from : (rs : List R) → All Fits rs → records_from first size (length rs) (flat_map spelled rs) ≡ rs
  again_from [] fits = refl
  again_from (r ∷ rs) fits =
      let whole = flat_map-cons spelled r rs in
      let head : first (flat_map spelled (r ∷ rs)) ≡ r = ap first whole ∙ kind.again r (flat_map spelled rs) (All-head Fits r rs fits) in
      let rest : drop size (flat_map spelled (r ∷ rs)) ≡ flat_map spelled rs = ap (drop size) whole ∙ drop_at (spelled r) (flat_map spelled rs) size (kind.len r) in
      let tail : records_from first size (length rs) (drop size (flat_map spelled (r ∷ rs))) ≡ rs = ap (records_from first size (length rs)) rest ∙ again_from rs (All-tail Fits r rs fits) in
      ap (λ (x : R). x ∷ records_from first size (length rs) (drop size (flat_map spelled (r ∷ rs)))) head ∙ ap (λ (xs : List R). r ∷ xs) tail

  pub records_again : (rs : List R) → All Fits rs → records_at first size (flat_map spelled rs) ≡ rs
  records_again rs fits =
      let count : length (flat_map spelled rs) / size ≡ length rs = ap (λ (k : ℕ). k / size) (length-flat_map_size spelled size kind.len rs) ∙ mul-div_cancel_left (length rs) kind.some in
      ap (λ (k : ℕ). records_from first size k (flat_map spelled rs)) count ∙ again_from rs fits

  takes_from : (n : ℕ) (bs : List ℕ) → length bs ≡ size * n → IsBytes bs → bs ≡ flat_map spelled (records_from first size n bs)
  takes_from zero bs e h = nil_from_length bs (omega (arith, e))
  takes_from (suc n) bs e h =
      let more = mul-suc size n in
      let enough : size ≤ length bs = omega (arith, e, more) in
      let rest : length (drop size bs) ≡ size * n = omega (arith, length-drop size bs, e, more) in
      let tail = takes_from n (drop size bs) rest (IsBytes-drop size bs h) in
      kind.takes bs enough h ∙ ap (λ (t : List ℕ). spelled (first bs) ++ t) tail ∙ sym (flat_map-cons spelled (first bs) (records_from first size n (drop size bs)))

  pub records_take : (bs : List ℕ) → length bs % size ≡ 0 → IsBytes bs → bs ≡ flat_map spelled (records_at first size bs)
  records_take bs whole h =
      let split = div-add-mod (length bs) size in
      takes_from (length bs / size) bs (omega (arith, split, whole)) h

  fit_from : (n : ℕ) (bs : List ℕ) → IsBytes bs → All Fits (records_from first size n bs)
  fit_from zero bs h = All-nil Fits
  fit_from (suc n) bs h = All-cons Fits (first bs) (records_from first size n (drop size bs)) (kind.fits bs h) (fit_from n (drop size bs) (IsBytes-drop size bs h))

  pub records_fit : (bs : List ℕ) → IsBytes bs → All Fits (records_at first size bs)
  records_fit bs h = fit_from (length bs / size) bs h

  pub records_spell : (rs : List R) → All Fits rs → IsBytes (flat_map spelled rs)
  records_spell [] fits = IsBytes-nil
  records_spell (r ∷ rs) fits = rw (flat_map-cons spelled r rs) (IsBytes-append (spelled r) (flat_map spelled rs) (kind.spells r (All-head Fits r rs fits)) (records_spell rs (All-tail Fits r rs fits)))

-- ---- records that are lent

few_records : (size most len : ℕ) → 0 < size → len < size * (most + 1) → len / size ≤ most
few_records size most len some fits =
    let few = (div-lt_iff_lt-mul {k = size} {x = len} {y = most + 1} some).1 (omega (arith, fits)) in
    omega (arith, few)

pub lent_few : {R : Type 0} (first : List ℕ → R) (size most : ℕ) (l : Lent R) → 0 < size → AreAtMost size most l → length (lent_records first size l) ≤ most
lent_few first size most (lent.Records records) some few = few
lent_few first size most (lent.Bytes bytes) some few =
    let count = length-records_from first size (length bytes.now / size) bytes.now in
    omega (arith, count, few_records size most (length bytes.now) some few.room)

-- the first record, and those after it
no_whole : (size len : ℕ) → 0 < size → len < size → len / size ≡ 0
no_whole size len some short =
    let few = (div-lt_iff_lt-mul {k = size} {x = len} {y = 1} some).1 (omega (arith, short)) in
    omega (arith, few)

pub records_none : {R : Type 0} (first : List ℕ → R) (size : ℕ) (bs : List ℕ) → 0 < size → length bs < size → records_at first size bs ≡ []
records_none first size bs some short = ap (λ (k : ℕ). records_from first size k bs) (no_whole size (length bs) some short)

add_one : (k : ℕ) → k + 1 ≡ suc k
add_one k = omega arith

one_less : (size len : ℕ) → 0 < size → size ≤ len → len / size ≡ suc ((len - size) / size)
one_less size len some long =
    let sum : size + (len - size) ≡ len = omega (arith, long) in
    ap (λ (k : ℕ). k / size) (sym sum) ∙ add-div_left (len - size) some ∙ add_one ((len - size) / size)

pub records_next : {R : Type 0} (first : List ℕ → R) (size : ℕ) (bs : List ℕ) → 0 < size → size ≤ length bs → records_at first size bs ≡ first bs ∷ records_at first size (drop size bs)
records_next first size bs some long =
    ap (λ (k : ℕ). records_from first size k bs) (one_less size (length bs) some long)
    ∙ ap (λ (k : ℕ). first bs ∷ records_from first size (k / size) (drop size bs)) (sym (length-drop size bs))

-- ---- records that are put one after the other

pub put_full : (size most put len : ℕ) → 0 < size → len ≡ size * put → len ≡ size * most → put ≡ most
put_full size most put len some is full =
    sym (mul-div_cancel_left put some) ∙ ap (λ (k : ℕ). k / size) (sym is ∙ full) ∙ mul-div_cancel_left most some

pub put_more : (size most put len : ℕ) → put ≤ most → len ≡ size * put → (len ≡ size * most → ⊥) → put + 1 ≤ most
put_more size most put len few is not =
    elim (cases_lt put most) [
      | inl lt ↦ omega (arith, lt)
      | inr le ↦ absurd (not (is ∙ ap (λ (k : ℕ). size * k) (omega (arith, few, le))))
    ]

pub put_room : (size most put len : ℕ) → put + 1 ≤ most → len ≡ size * put → size * most ≤ 1432 → len + size ≤ 1433
put_room size most put len more is room =
    let next : size * (put + 1) ≤ size * most = mul-le-mul_left size more in
    omega (arith, next, is, room, mul-suc size put)

module _ {R : Type 0} (size : ℕ) (spelled : R → List ℕ) (each : (r : R) → length (spelled r) ≡ size) (some : 0 < size) (most : ℕ) (rs : List R) where
  pub put_length : (bytes : List ℕ) → bytes ≡ flat_map spelled rs → length bytes ≡ size * length rs
  put_length bytes is = ap length is ∙ length-flat_map_size spelled size each rs

  pub put_whole : (bytes : List ℕ) → bytes ≡ flat_map spelled rs → length rs ≤ most → AreWhole size most bytes
  put_whole bytes is few =
      let len = put_length bytes is in
      let bound : size * length rs ≤ size * most = mul-le-mul_left size few in
      record {
        whole = ap (λ (k : ℕ). k % size) len ∙ mul-mod_right size (length rs);
        room = omega (arith, len, bound, some, mul-suc size most);
      }
