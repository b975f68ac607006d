-- The causes of faults, for a table of which each code is that of some message.
use Rattle.osdp_msg_laws.proofs.Common.{◌≡◌, ◌∙◌, ◌↔◌, ◌<◌, ◌≤◌, ◌+◌, ◌-◌, ap, sym, refl, arith, inl, inr, ℕ, Bool, true, false, not, ◌||◌, cond, eqb, ltb, List, length, Option, Some, None, ◌≢◌, ◌⊎◌, eqb-false, eqb-true, false_from_ne_true, le-ltb, lt-ltb, ltb-false, ltb-true, true≢false, refusal, IsTable, passes, CountIsWrong, FaultsHaveCauses, IsKnown}
use Rattle.osdp_msg.specs.declared.fault.MsgFault.TheVariants.{UnknownCode, Length, Count}

unknown_where : (allowed : Option Bool) (len : ℕ) (agree : Bool) → refusal allowed len agree ≡ Some UnknownCode → allowed ≡ None
unknown_where None len agree e = refl
unknown_where (Some a) len agree e = split (ltb 1432 len || not a) agree e
  where
    split : (wrong agree : Bool) → cond wrong (Some Length) (cond agree None (Some Count)) ≡ Some UnknownCode → Some a ≡ None
    split true agree e = absurd cc
    split false true e = absurd cc
    split false false e = absurd cc

unknown_tells : (allowed : Option Bool) (len : ℕ) (agree : Bool) → allowed ≡ None → refusal allowed len agree ≡ Some UnknownCode
unknown_tells None len agree e = refl
unknown_tells (Some a) len agree e = absurd cc

length_where : (allowed : Option Bool) (len : ℕ) (agree : Bool) → refusal allowed len agree ≡ Some Length → allowed ≡ Some true → len ≤ 1432 → ⊥
length_where None len agree e may room = cc
length_where (Some false) len agree e may room = cc
length_where (Some true) len agree e may room = split (ltb 1432 len) agree (le-ltb 1432 len room) e
  where
    split : (long agree : Bool) → long ≡ false → cond (long || false) (Some Length) (cond agree None (Some Count)) ≡ Some Length → ⊥
    split true agree is e = cc
    split false true is e = cc
    split false false is e = cc

length_cause : (allowed : Option Bool) (len : ℕ) (agree : Bool) → refusal allowed len agree ≡ Some Length → (1432 < len) ⊎ (allowed ≢ Some true)
length_cause None len agree e = absurd cc
length_cause (Some false) len agree e = inr (λ may. cc)
length_cause (Some true) len agree e = split (ltb 1432 len) agree refl e
  where
    split : (long agree : Bool) → ltb 1432 len ≡ long → cond (long || false) (Some Length) (cond agree None (Some Count)) ≡ Some Length
        → (1432 < len) ⊎ (Some true ≢ Some true)
    split true agree is e = inl (ltb-true 1432 len is)
    split false true is e = absurd cc
    split false false is e = absurd cc

length_tells : (allowed : Option Bool) (len : ℕ) (agree : Bool) → (allowed ≡ None → ⊥) → (1432 < len) ⊎ (allowed ≢ Some true)
    → refusal allowed len agree ≡ Some Length
length_tells None len agree some wrong = absurd (some refl)
length_tells (Some false) len agree some wrong = split (ltb 1432 len)
  where
    split : (long : Bool) → cond (long || true) (Some Length) (cond agree None (Some Count)) ≡ Some Length
    split true = refl
    split false = refl
length_tells (Some true) len agree some wrong = elim wrong [ inl long ↦ rw (lt-ltb 1432 len long) refl | inr never ↦ absurd (never refl) ]

-- what has a wrong count
record HasCount (allowed : Option Bool) (len : ℕ) (agree : Bool) : Type 0 where
  room : len ≤ 1432
  may : allowed ≡ Some true
  other : agree ≡ false

count_where : (allowed : Option Bool) (len : ℕ) (agree : Bool) → refusal allowed len agree ≡ Some Count → HasCount allowed len agree
count_where None len agree e = absurd cc
count_where (Some a) len agree e = split a (ltb 1432 len) agree refl e
  where
    split : (a long agree : Bool) → ltb 1432 len ≡ long → cond (long || not a) (Some Length) (cond agree None (Some Count)) ≡ Some Count
        → HasCount (Some a) len agree
    split a true agree is e = absurd cc
    split false false agree is e = absurd cc
    split true false true is e = absurd cc
    split true false false is e = record { room = ltb-false 1432 len is; may = refl; other = refl }

count_tells : (allowed : Option Bool) (len : ℕ) (agree : Bool) → HasCount allowed len agree → refusal allowed len agree ≡ Some Count
count_tells allowed len agree has = rw (has.may, has.other, le-ltb 1432 len has.room) refl

-- a count of what stands after the first n bytes disagrees with their number exactly where the bytes are more or fewer than it says
pub miscounted : (n len count : ℕ) → n ≤ len → (eqb count (len - n) ≡ false) ↔ (n + count ≢ len)
miscounted n len count some = (
  λ e same. eqb-false count (len - n) e (omega (arith, same, some)),
  λ apart. false_from_ne_true (eqb count (len - n)) λ e. let same = eqb-true count (len - n) e in apart (omega (arith, same, some)),
)

-- the same for a code whose data, by a count inside them, are n bytes and as many more as the count says
pub counted : (Counts : ℕ → List ℕ → ℕ → Type 0) (code n count : ℕ) (bytes : List ℕ) → n ≤ length bytes
    → ((total : ℕ) → Counts code bytes total ↔ (total ≡ n + count)) → (eqb count (length bytes - n) ≡ false) ↔ CountIsWrong Counts code bytes
counted Counts code n count bytes some says =
    let m = miscounted n (length bytes) count some in (
      λ e. (n + count, ((says (n + count)).1 refl, m.0 e)),
      λ wrong. m.1 λ same. wrong.1.1 ((says wrong.0).0 wrong.1.0 ∙ same),
    )

pub never_agree : (agree : Bool) → agree ≡ true → agree ≡ false → ⊥
never_agree agree same other = true≢false (sym same ∙ other)

-- where the table allows so many data bytes, its count disagrees with them exactly where they are not as many as a count inside them says
abbrev pub Miscounts : (ℕ → ℕ → Option Bool) → (ℕ → List ℕ → Bool) → (ℕ → List ℕ → ℕ → Type 0) → ℕ → Type 0
Miscounts allowed agree Counts code =
    (bytes : List ℕ) → allowed code (length bytes) ≡ Some true → (agree code bytes ≡ false) ↔ CountIsWrong Counts code bytes

-- a code is none of the table's, or some message has it and the table allows some lengths
abbrev pub IsNoneOrKnown : {M : Type 0} → (ℕ → List ℕ → M → Type 0) → (ℕ → ℕ → Option Bool) → ℕ → Type 0
IsNoneOrKnown Is allowed code = ((len : ℕ) → allowed code len ≡ None) ⊎ (IsKnown Is code × ((len : ℕ) → allowed code len ≡ None → ⊥))

module _ {M : Type 0} {Is : ℕ → List ℕ → M → Type 0} (allowed : ℕ → ℕ → Option Bool) (agree : ℕ → List ℕ → Bool) (Counts : ℕ → List ℕ → ℕ → Type 0) {value_at : ℕ → List ℕ → M}
    (table : IsTable Is (λ code bytes. refusal (allowed code (length bytes)) (length bytes) (agree code bytes)) value_at)
    (codes : (code : ℕ) → IsNoneOrKnown Is allowed code) (counts : (code : ℕ) → Miscounts allowed agree Counts code) where
  known : (code len : ℕ) → (allowed code len ≡ None → ⊥) → IsKnown Is code
  known code len some = elim (codes code) [ inl none ↦ absurd (some (none len)) | inr is ↦ is.0 ]

  unknown : (code len : ℕ) → (IsKnown Is code → ⊥) → allowed code len ≡ None
  unknown code len nobody = elim (codes code) [ inl none ↦ none len | inr is ↦ absurd (nobody is.0) ]

  nobody_has : (code len : ℕ) → allowed code len ≡ None → IsKnown Is code → ⊥
  nobody_has code len none is = elim (codes code) [
    | inl nowhere ↦
        (let well = passes (allowed code (length is.0)) (length is.0) (agree code is.0) (table.well code is.0 is.1.0 is.1.1) in
        let some : allowed code (length is.0) ≡ Some true = well.allowed_is in
        let other = nowhere (length is.0) in
        cc)
    | inr has ↦ has.1 len none
  ]

  knows : (code len : ℕ) → allowed code len ≡ Some true → IsKnown Is code
  knows code len may = known code len (λ none. cc)

  pub faults_have_causes : FaultsHaveCauses Is allowed Counts (λ code bytes. refusal (allowed code (length bytes)) (length bytes) (agree code bytes))
  faults_have_causes code bytes =
      let len = length bytes in
      let may = allowed code len in
      let same = agree code bytes in
      record {
        unknown_code = (
          λ e. nobody_has code len (unknown_where may len same e),
          λ nobody. unknown_tells may len same (unknown code len nobody),
        );
        wrong_length = (
          λ e. (known code len (λ none. let other = unknown_tells may len same none in cc), length_cause may len same e),
          λ wrong. length_tells may len same (λ none. nobody_has code len none wrong.0) wrong.1,
        );
        none_so_long = λ e others m is equal.
            let well = passes (allowed code (length others)) (length others) (agree code others) (table.well code others m is) in
            let room : length others ≤ 1432 = well.bound in
            length_where may len same e (ap (allowed code) (sym equal) ∙ well.allowed_is) (omega arith);
        wrong_count = (
          λ e. let has = count_where may len same e in (knows code len has.may, has.room, has.may, (counts code bytes has.may).0 has.other),
          λ wrong. count_tells may len same (record { room = wrong.1; may = wrong.2; other = (counts code bytes wrong.2).1 wrong.3 }),
        );
      }
