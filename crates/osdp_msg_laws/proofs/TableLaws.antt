-- What follows for a table and its texts from its rows.
use Rattle.osdp_msg_laws.proofs.Common.{◌≡◌, ◌≤◌, ◌<◌, ℕ, List, [], ◌∷◌, length, map, Option, None, Result, sym, ◌∙◌, arith, IsBytes, IsBytes-cons, IsTable, one_value, reading, unless_err, unless_fault, AllStandFor, AreWords, Word, plain, printed, text_of, FitsAPacket, HasOneMeaning, HasOneSpelling, HasOneText, HasOneValue, HasPlainWords, ReadsTheFaults, ReadsTheTable}
use Rattle.osdp_msg.specs.declared.fault.MsgFault.{MsgFault}
use Rattle.osdp_msg_laws.proofs.PlainWords.{ArePlainWords}
use Rattle.osdp_msg_laws.proofs.PrintedWords.{plain_words_printed, words_held}
use Rattle.osdp_msg_laws.proofs.TextWords.{text_parts}

-- the laws of a table and of its reading
pub record HasLaws {M : Type 0} (Is : ℕ → List ℕ → M → Type 0) (fault : ℕ → List ℕ → Option MsgFault) (value_of : ℕ → List ℕ → Result M MsgFault) : Type 0 where
  pub reads : ReadsTheTable Is value_of
  pub faults : ReadsTheFaults fault value_of
  pub one_value : HasOneValue Is
  pub one_spelling : HasOneSpelling Is
  pub fits : FitsAPacket Is

-- They hold of a table whose values each have one code and data, which are bytes, and which refuses data that have no room.
pub laws_of : {M : Type 0} {Is : ℕ → List ℕ → M → Type 0} {fault : ℕ → List ℕ → Option MsgFault} {value_at : ℕ → List ℕ → M}
    → IsTable Is fault value_at → (code_of : M → ℕ) (data_of : M → List ℕ) (Fits : M → Type 0)
    → ((code : ℕ) (bytes : List ℕ) (m : M) → Is code bytes m → (code ≡ code_of m) × (bytes ≡ data_of m) × Fits m)
    → ((m : M) → Fits m → (code_of m < 256) × IsBytes (data_of m))
    → ((code : ℕ) (bytes : List ℕ) → fault code bytes ≡ None → length bytes ≤ 1432)
    → HasLaws Is fault (λ code bytes. unless_fault (fault code bytes) (value_at code bytes))
laws_of {M} {Is} {fault} {value_at} table code_of data_of Fits parts spells room = record {
  reads = reading table;
  faults = λ code bytes e. unless_err (fault code bytes) (value_at code bytes) e;
  one_value = one_value table;
  one_spelling = λ code other bytes others m is also.
      let p = parts code bytes m is in
      let q = parts other others m also in
      (p.0 ∙ sym q.0, p.1 ∙ sym q.1);
  fits = λ code bytes m is.
      let p = parts code bytes m is in
      let b = spells m p.2 in
      (rw (p.0, p.1) (IsBytes-cons (code_of m) (data_of m) b.0 b.1), omega (arith, room code bytes (table.well code bytes m is)));
}

-- what is given stands for one value at most of those that have one name
abbrev pub RowsHaveOneMeaning : {M : Type 0} → (M → Type 0) → (M → List ℕ) → (M → List Word) → Type 0
RowsHaveOneMeaning {M} Fits name_of fields_of =
    (given : List (List ℕ)) (m n : M) → name_of m ≡ name_of n → Fits m → Fits n → AllStandFor (fields_of m) given → AllStandFor (fields_of n) given → m ≡ n

-- the laws of the texts of a table: what is given stands for one value at most, and one text is that of one value
pub record HasTexts {M : Type 0} (Fits : M → Type 0) (words_of : M → List Word) (text : M → List ℕ) : Type 0 where
  pub one_meaning : HasOneMeaning Fits words_of
  pub one_text : HasOneText Fits text

held : (ws : List Word) → ArePlainWords ws → AreWords ws
held ws h = words_held ws (plain_words_printed ws h)

-- They hold of plain words where what is given stands for one value at most of those that have one name.
pub texts_of : {M : Type 0} (Fits : M → Type 0) (name_of : M → List ℕ) (fields_of : M → List Word)
    → RowsHaveOneMeaning Fits name_of fields_of → HasPlainWords Fits (λ m. plain (name_of m) ∷ fields_of m)
    → HasTexts Fits (λ m. plain (name_of m) ∷ fields_of m) (λ m. text_of (plain (name_of m) ∷ fields_of m))
texts_of {M} Fits name_of fields_of rows words = record { one_meaning = meaning; one_text = text }
  where
    meaning : HasOneMeaning Fits (λ m. plain (name_of m) ∷ fields_of m)
    meaning [] m n h k s t = absurd s
    meaning (g ∷ given) m n h k s t = rows given m n (sym s.0 ∙ t.0) h k s.1 t.1

    text : HasOneText Fits (λ m. text_of (plain (name_of m) ∷ fields_of m))
    text m n h k e =
        let p = text_parts (plain (name_of m)) (plain (name_of n)) (fields_of m) (fields_of n) (held (plain (name_of m) ∷ fields_of m) (words m h)) (held (plain (name_of n) ∷ fields_of n) (words n k)) e in
        meaning (map printed (plain (name_of m) ∷ fields_of m)) m n h k p.0 p.1
