-- What follows for a table of messages from two facts on its rows.
use Rattle.osdp_msg.proofs.Common.{◌≡◌, ◌↔◌, ◌≤◌, ◌<◌, arith, ℕ, Bool, true, false, not, ◌||◌, cond, eqb, ltb, leb, ◌&&◌, ◌+◌, ◌-◌, ◌%◌, List, [], ◌∷◌, length, Option, Some, None, Result, Ok, Err, ◌*◌, refl, sym, ap, subst, ◌∙◌, then_some, AllByRecursion, eq-eqb, eqb-true, leb-true, le-leb, le-ltb, ltb-false, nil_from_length, mul-le-mul_left, mul-mod_right, MsgFault, HasLength, refusal, unless_fault, IfOk, IfErr, IsBytes}
use Rattle.osdp_msg.specs.declared.fault.MsgFault.TheVariants.{Length, Count}
use Rattle.osdp_msg.specs.Limits.{most_data}
use Rattle.osdp_msg.specs.Messages.{IsMessage}

-- a code takes data without a fault: they stand for the value at them
abbrev pub Takes : {M : Type 0} → (ℕ → List ℕ → M → Type 0) → (ℕ → List ℕ → Option MsgFault) → (ℕ → List ℕ → M) → ℕ → Type 0
Takes Is fault value_at code = (bytes : List ℕ) → IsBytes bytes → fault code bytes ≡ None → Is code bytes (value_at code bytes)

-- The facts. Data without a fault stand for the value at them; what stands for a value has no fault, and the value
-- is the one at it.
pub record IsTable {M : Type 0} (Is : ℕ → List ℕ → M → Type 0) (fault : ℕ → List ℕ → Option MsgFault) (value_at : ℕ → List ℕ → M) : Type 0 where
  pub takes : (code : ℕ) → Takes Is fault value_at code
  pub well : (code : ℕ) (bytes : List ℕ) (m : M) → Is code bytes m → fault code bytes ≡ None
  pub again : (code : ℕ) (bytes : List ℕ) (m : M) → Is code bytes m → value_at code bytes ≡ m

-- a table from facts on the values alone
pub table_of : {M : Type 0} (fault : ℕ → List ℕ → Option MsgFault) (value_at : ℕ → List ℕ → M) (code_of : M → ℕ) (data_of : M → List ℕ) (Fits : M → Type 0)
    → ((code : ℕ) → Takes (IsMessage code_of data_of Fits) fault value_at code) → ((m : M) → Fits m → fault (code_of m) (data_of m) ≡ None)
    → ((m : M) → Fits m → value_at (code_of m) (data_of m) ≡ m) → IsTable (IsMessage code_of data_of Fits) fault value_at
table_of fault value_at code_of data_of Fits takes well again = record {
  takes = takes;
  well = λ code bytes m is. rw (is.code_is, is.data_is) (well m is.fits);
  again = λ code bytes m is. rw (is.code_is, is.data_is) (again m is.fits);
}

-- one row of a chain of tests on the code
code_or : (P : ℕ → Type 0) (k code : ℕ) → P k → (eqb code k ≡ false → P code) → P code
code_or P k code here later = choose (eqb code k) refl
  where
    choose : (b : Bool) → eqb code k ≡ b → P code
    choose true e = subst P (sym (eqb-true code k e)) here
    choose false e = later e

-- a code is none of these
abbrev Outside : ℕ → List ℕ → Type 0 → Type 0
Outside code [] P = P
Outside code (k ∷ ks) P = eqb code k ≡ false → Outside code ks P

-- what holds at each code of a list, and at the codes outside it, holds at all codes
pub by_codes : (P : ℕ → Type 0) (code : ℕ) (codes : List ℕ) → AllByRecursion P codes → Outside code codes (P code) → P code
by_codes P code [] rows other = other
by_codes P code (k ∷ ks) rows other = code_or P k code rows.0 λ apart. by_codes P code ks rows.1 (other apart)

-- what has no fault
pub record Passes (allowed : Option Bool) (len : ℕ) (agree : Bool) : Type 0 where
  pub allowed_is : allowed ≡ Some true
  pub bound : len ≤ 1432
  pub agree_is : agree ≡ true

pub passes : (allowed : Option Bool) (len : ℕ) (agree : Bool) → refusal allowed len agree ≡ None → Passes allowed len agree
passes None len agree e = absurd cc
passes (Some a) len agree e = split a (ltb 1432 len) agree refl e
  where
    split : (a long agree : Bool) → ltb 1432 len ≡ long → cond (long || not a) (Some Length) (cond agree None (Some Count)) ≡ None → Passes (Some a) len agree
    split a true agree is e = absurd cc
    split false false agree is e = absurd cc
    split true false true is e = record { allowed_is = refl; bound = ltb-false 1432 len is; agree_is = refl }
    split true false false is e = absurd cc

pub bounded : (allowed : Option Bool) (len : ℕ) (agree : Bool) → refusal allowed len agree ≡ None → len ≤ 1432
bounded allowed len agree e = (passes allowed len agree e).bound

pub some_is : (a b : Bool) → Some a ≡ Some b → a ≡ b
some_is a b e = cc

-- the fault of a length comes before that of a count
pub length_first : (allowed : Option Bool) (len : ℕ) (agree : Bool) (f : MsgFault) → refusal allowed len true ≡ Some f → refusal allowed len agree ≡ Some f
length_first None len agree f e = e
length_first (Some a) len true f e = e
length_first (Some a) len false f e = test (ltb 1432 len || not a) f e
  where
    test : (b : Bool) (f : MsgFault) → cond b (Some Length) None ≡ Some f → cond b (Some Length) (Some Count) ≡ Some f
    test true f e = e
    test false f e = absurd cc

pub count_last : (allowed : Option Bool) (len : ℕ) (agree : Bool) → refusal allowed len true ≡ None → refusal allowed len agree ≡ then_some (not agree) Count
count_last allowed len true e = e
count_last None len false e = absurd cc
count_last (Some a) len false e = test (ltb 1432 len || not a) e
  where
    test : (b : Bool) → cond b (Some Length) None ≡ None → cond b (Some Length) (Some Count) ≡ Some Count
    test true e = absurd cc
    test false e = refl

pub unknown_faults : (allowed : Option Bool) (len : ℕ) (agree : Bool) → allowed ≡ None → refusal allowed len agree ≡ None → ⊥
unknown_faults None len agree unknown e = cc
unknown_faults (Some a) len agree unknown e = cc

-- what the lengths of a row say of data without a fault
pub exactly : (len n : ℕ) (agree : Bool) → refusal (Some (eqb len n)) len agree ≡ None → (len ≡ n) × (agree ≡ true)
exactly len n agree e =
    let p = passes (Some (eqb len n)) len agree e in
    (eqb-true len n (some_is _ _ p.allowed_is), p.agree_is)

pub at_least : (n len : ℕ) (agree : Bool) → refusal (Some (leb n len)) len agree ≡ None → (n ≤ len) × (len ≤ 1432) × (agree ≡ true)
at_least n len agree e =
    let p = passes (Some (leb n len)) len agree e in
    (leb-true n len (some_is _ _ p.allowed_is), p.bound, p.agree_is)

pub no_data : (bytes : List ℕ) (agree : Bool) → refusal (Some (eqb (length bytes) 0)) (length bytes) agree ≡ None → bytes ≡ []
no_data bytes agree e = nil_from_length bytes (exactly (length bytes) 0 agree e).0

-- a count of what stands after the first n bytes
pub counted : (n len count : ℕ) → refusal (Some (leb n len)) len (eqb count (len - n)) ≡ None → (n ≤ len) × (count ≡ len - n) × (len ≤ 1432)
counted n len count e =
    let p = at_least n len (eqb count (len - n)) e in
    (p.0, eqb-true count (len - n) p.2, p.1)

-- the same as what the readers of rows ask
pub has_length : (n : ℕ) (bytes : List ℕ) → refusal (Some (leb n (length bytes))) (length bytes) true ≡ None → HasLength n 1432 bytes
has_length n bytes e = let p = at_least n (length bytes) true e in record { some = p.0; room = p.1 }

pub counted_length : (n count : ℕ) (bytes : List ℕ) → count < 256 → refusal (Some (leb n (length bytes))) (length bytes) (eqb count (length bytes - n)) ≡ None
    → HasLength n (n + 255) bytes
counted_length n count bytes small e = let p = counted n (length bytes) count e in record { some = p.0; room = omega (arith, p.0, p.1) }

pub any_length : (len : ℕ) (agree : Bool) → refusal (Some true) len agree ≡ None → len ≤ 1432
any_length len agree e = (passes (Some true) len agree e).bound

pub multiple : (k len : ℕ) (agree : Bool) → refusal (Some (eqb (len % k) 0)) len agree ≡ None → (len % k ≡ 0) × (len ≤ 1432)
multiple k len agree e =
    let p = passes (Some (eqb (len % k) 0)) len agree e in
    (eqb-true (len % k) 0 (some_is _ _ p.allowed_is), p.bound)

-- and the other way round
pub passed : (allowed agree : Bool) (len : ℕ) → allowed ≡ true → len ≤ 1432 → agree ≡ true → refusal (Some allowed) len agree ≡ None
passed allowed agree len may bound same = rw (may, le-ltb 1432 len bound, same) refl

pub passed_least : (n len : ℕ) → n ≤ len → len ≤ 1432 → refusal (Some (leb n len)) len true ≡ None
passed_least n len some bound = passed (leb n len) true len (le-leb n len some) bound refl

pub passed_count : (n len count : ℕ) → len ≡ n + count → len ≤ 1432 → refusal (Some (leb n len)) len (eqb count (len - n)) ≡ None
passed_count n len count is bound =
    passed (leb n len) (eqb count (len - n)) len (le-leb n len (omega arith)) bound (eq-eqb count (len - n) (omega arith))

both_parts : (a b : Bool) → (a && b) ≡ true → (a ≡ true) × (b ≡ true)
both_parts true true e = (refl, refl)
both_parts true false e = absurd cc
both_parts false b e = absurd cc

-- one record at least, and no more bytes than a packet has room for
pub record AreRecords (size : ℕ) (bytes : List ℕ) : Type 0 where
  pub some : size ≤ length bytes
  pub room : length bytes ≤ most_data
  pub whole : length bytes % size ≡ 0

pub are_records : (size : ℕ) (bytes : List ℕ) → refusal (Some (leb size (length bytes) && eqb (length bytes % size) 0)) (length bytes) true ≡ None → AreRecords size bytes
are_records size bytes e =
    let p = passes (Some (leb size (length bytes) && eqb (length bytes % size) 0)) (length bytes) true e in
    let both = both_parts (leb size (length bytes)) (eqb (length bytes % size) 0) (some_is _ _ p.allowed_is) in
    record { some = leb-true size (length bytes) both.0; room = p.bound; whole = eqb-true (length bytes % size) 0 both.1 }

pub multiple_allowed : (size n len : ℕ) → 0 < n → 0 < size → len ≡ size * n → (leb size len && eqb (len % size) 0) ≡ true
multiple_allowed size n len some wide e =
    let more : size * 1 ≤ size * n = mul-le-mul_left size (omega arith) in
    let whole : len % size ≡ 0 = ap (λ (k : ℕ). k % size) e ∙ mul-mod_right size n in
    rw (le-leb size len (omega (arith, more, e)), eq-eqb (len % size) 0 whole) refl

unless_ok : {M : Type 0} (o : Option MsgFault) (x m : M) → unless_fault o x ≡ Ok m → (o ≡ None) × (x ≡ m)
unless_ok None x m e = (refl, cc)
unless_ok (Some f) x m e = absurd cc

pub unless_err : {M : Type 0} (o : Option MsgFault) (x : M) (f : MsgFault) → (unless_fault o x ≡ Err f) ↔ (o ≡ Some f)
unless_err None x f = (λ e. absurd cc, λ e. absurd cc)
unless_err (Some g) x f = (λ e. cc, λ e. cc)

module _ {M : Type 0} {Is : ℕ → List ℕ → M → Type 0} {fault : ℕ → List ℕ → Option MsgFault} {value_at : ℕ → List ℕ → M} (table : IsTable Is fault value_at) where
  pub found : (code : ℕ) (bytes : List ℕ) (m : M) → Is code bytes m → unless_fault (fault code bytes) (value_at code bytes) ≡ Ok m
  found code bytes m is = rw (table.well code bytes m is, table.again code bytes m is) refl

  pub reading : (code : ℕ) (bytes : List ℕ) (m : M) → IsBytes bytes → (unless_fault (fault code bytes) (value_at code bytes) ≡ Ok m) ↔ Is code bytes m
  reading code bytes m fits = (
    λ e. let o = unless_ok (fault code bytes) (value_at code bytes) m e in subst (λ (x : M). Is code bytes x) o.1 (table.takes code bytes fits o.0),
    λ is. found code bytes m is,
  )

  pub one_value : (code : ℕ) (bytes : List ℕ) (m n : M) → Is code bytes m → Is code bytes n → m ≡ n
  one_value code bytes m n is other = sym (table.again code bytes m is) ∙ table.again code bytes n other

  -- a call that gave the reading gave a value that stands there, or the fault, and each value that stands there
  pub reads : (code : ℕ) (bytes : List ℕ) (r : Result M MsgFault) → IsBytes bytes → r ≡ unless_fault (fault code bytes) (value_at code bytes)
      → IfOk r (Is code bytes) × IfErr r (λ f. fault code bytes ≡ Some f) × ((m : M) → Is code bytes m → r ≡ Ok m)
  reads code bytes (Ok m) fits e = ((reading code bytes m fits).0 (sym e), tt, λ n is. e ∙ found code bytes n is)
  reads code bytes (Err f) fits e = (tt, (unless_err (fault code bytes) (value_at code bytes) f).0 (sym e), λ n is. e ∙ found code bytes n is)
