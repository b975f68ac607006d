-- The values of rows, made of the parts of their texts.
use Rattle.osdp_msg.proofs.Common.{◌≡◌, ◌↔◌, ◌<◌, ◌≤◌, ◌+◌, ◌/◌, ◌==◌, ◌^◌, ℕ, Bool, true, false, IsTrue, List, [], ◌∷◌, ◌++◌, length, map, get_or, Option, Some, None, refl, sym, ap, subst, ◌∙◌, arith, nat_le, then_some, eqb-false, eqb-true, le-leb, append-nil, ArrayVec, IsBytes, ReadsWords, Takes, AllStandFor, Word, bytes, number, IsMadeOf, PairAllowed, front_missing, pair_taken, pair_words, Communication, Formatted, Keypad, MakerMessage, Nak, PdId, Text, BuzzerFits, buzzer_at, buzzer_data, buzzer_words, CommunicationFits, communication_words, MakerFits, maker_words, TextFits, text_words, reason_number, RawCard, raw_card, FormattedFits, formatted_words, KeypadFits, keypad_words, LocalStateFits, local_state_at, local_state_data, local_state_words, NakFits, detail_words, nak_words, PdIdFits, pd_id_words, RawFits, raw_words, StatesFit}
use Rattle.osdp_msg.proofs.Bytes.{IsBytes-cells, IsBytes-each, all_cells}
use Rattle.osdp_msg.proofs.CommandRows.{buzzer_spells}
use Rattle.osdp_msg.proofs.ReplyRows.{local_state_spells, reason_byte}
use Rattle.osdp_msg.proofs.TakenParts.{AreNumbers, IsBelow, IsList, IsVendor, list_words, number_words, numbers_words, two_no_back, two_no_front, two_whole, vendor_words}

pub buzzer_made : IsMadeOf numbers_words (AreNumbers 5) buzzer_words BuzzerFits buzzer_at buzzer_data
buzzer_made = record {
  back = λ b fits. refl;
  parts_allowed = λ b fits. (refl, buzzer_spells b fits);
  parts_words = λ b fits. refl;
  fits = λ ns h. (h.1 0, h.1 1, h.1 2, h.1 3, h.1 4);
  same_words = λ ns h. ap (map number) (sym (all_cells 5 ns h.0));
}

pub local_state_made : IsMadeOf numbers_words (AreNumbers 2) local_state_words LocalStateFits local_state_at local_state_data
local_state_made = record {
  back = λ s fits. refl;
  parts_allowed = λ s fits. (refl, local_state_spells s fits);
  parts_words = λ s fits. refl;
  fits = λ ns h. (h.1 0, h.1 1);
  same_words = λ ns h. ap (map number) (sym (all_cells 2 ns h.0));
}

abbrev pub text_from : List ℕ × ArrayVec ℕ → Text
text_from p = record {
  reader = get_or p.0 0 0;
  command = get_or p.0 1 0;
  time = get_or p.0 2 0;
  row = get_or p.0 3 0;
  column = get_or p.0 4 0;
  characters = p.1;
}

abbrev pub text_parts : Text → List ℕ × ArrayVec ℕ
text_parts t = (t.reader ∷ t.command ∷ t.time ∷ t.row ∷ t.column ∷ [], t.characters)

pub text_made : IsMadeOf (pair_words numbers_words (AreNumbers 5) list_words (IsList 255)) (PairAllowed numbers_words (AreNumbers 5) list_words (IsList 255)) text_words TextFits text_from text_parts
text_made = record {
  back = λ t fits. refl;
  parts_allowed = λ t fits. ((refl, fits.numbers), (fits.room, fits.characters));
  parts_words = λ t fits. refl;
  fits = λ p h. record { numbers = IsBytes-cells 0 5 p.0 h.0.1; room = h.1.0; characters = h.1.1 };
  same_words = λ p h. ap (λ (ns : List ℕ). map number ns ++ (bytes p.1.items ∷ [])) (sym (all_cells 5 p.0 h.0.0));
}

abbrev pub formatted_from : List ℕ × ArrayVec ℕ → Formatted
formatted_from p = record { reader = get_or p.0 0 0; direction = get_or p.0 1 0; digits = p.1 }

abbrev pub formatted_parts : Formatted → List ℕ × ArrayVec ℕ
formatted_parts f = (f.reader ∷ f.direction ∷ [], f.digits)

pub formatted_made : IsMadeOf (pair_words numbers_words (AreNumbers 2) list_words (IsList 255)) (PairAllowed numbers_words (AreNumbers 2) list_words (IsList 255)) formatted_words FormattedFits formatted_from formatted_parts
formatted_made = record {
  back = λ f fits. refl;
  parts_allowed = λ f fits. ((refl, IsBytes-each (f.reader ∷ f.direction ∷ []) (fits.reader, (fits.direction, tt))), (fits.room, fits.digits));
  parts_words = λ f fits. refl;
  fits = λ p h. record { reader = h.0.1 0; direction = h.0.1 1; room = h.1.0; digits = h.1.1 };
  same_words = λ p h. ap (λ (ns : List ℕ). map number ns ++ (bytes p.1.items ∷ [])) (sym (all_cells 2 p.0 h.0.0));
}

abbrev pub keypad_from : ℕ × ArrayVec ℕ → Keypad
keypad_from p = record { reader = p.0; digits = p.1 }

abbrev pub keypad_parts : Keypad → ℕ × ArrayVec ℕ
keypad_parts k = (k.reader, k.digits)

pub keypad_made : IsMadeOf (pair_words number_words (IsBelow (2 ^ 8)) list_words (IsList 255)) (PairAllowed number_words (IsBelow (2 ^ 8)) list_words (IsList 255)) keypad_words KeypadFits keypad_from keypad_parts
keypad_made = record {
  back = λ k fits. refl;
  parts_allowed = λ k fits. (fits.reader, (fits.room, fits.digits));
  parts_words = λ k fits. refl;
  fits = λ p h. record { reader = h.0; room = h.1.0; digits = h.1.1 };
  same_words = λ p h. refl;
}

abbrev pub communication_from : ℕ × ℕ → Communication
communication_from p = record { address = p.0; baud_rate = p.1 }

abbrev pub communication_parts : Communication → ℕ × ℕ
communication_parts c = (c.address, c.baud_rate)

pub communication_made : IsMadeOf (pair_words number_words (IsBelow (2 ^ 8)) number_words (IsBelow (2 ^ 32))) (PairAllowed number_words (IsBelow (2 ^ 8)) number_words (IsBelow (2 ^ 32))) communication_words CommunicationFits communication_from communication_parts
communication_made = record {
  back = λ c fits. refl;
  parts_allowed = λ c fits. (fits.0, fits.1);
  parts_words = λ c fits. refl;
  fits = λ p h. (h.0, h.1);
  same_words = λ p h. refl;
}

abbrev pub maker_from : List ℕ × ArrayVec ℕ → MakerMessage
maker_from p = record { vendor = p.0; bytes = p.1 }

abbrev pub maker_parts : MakerMessage → List ℕ × ArrayVec ℕ
maker_parts m = (m.vendor, m.bytes)

pub maker_made : IsMadeOf (pair_words vendor_words IsVendor list_words (IsList 1429)) (PairAllowed vendor_words IsVendor list_words (IsList 1429)) maker_words MakerFits maker_from maker_parts
maker_made = record {
  back = λ m fits. refl;
  parts_allowed = λ m fits. ((fits.vendor_length, fits.vendor), (fits.room, fits.bytes));
  parts_words = λ m fits. refl;
  fits = λ p h. record { vendor_length = h.0.0; vendor = h.0.1; room = h.1.0; bytes = h.1.1 };
  same_words = λ p h. refl;
}

-- a list that stands alone

pub states_made : IsMadeOf list_words (IsList 1432) (λ (states : ArrayVec ℕ). bytes states.items ∷ []) (λ states. StatesFit states.items) (λ states. states) (λ states. states)
states_made = record {
  back = λ states fits. refl;
  parts_allowed = λ states fits. (fits.room, fits.bytes);
  parts_words = λ states fits. refl;
  fits = λ states h. record { room = h.0; bytes = h.1 };
  same_words = λ states h. refl;
}

-- PDID: vendor, two numbers, a number of four bytes, three numbers

abbrev SerialWords : ℕ × List ℕ → List Word
SerialWords = pair_words number_words (IsBelow (2 ^ 32)) numbers_words (AreNumbers 3)

abbrev IsSerial : ℕ × List ℕ → Type 0
IsSerial = PairAllowed number_words (IsBelow (2 ^ 32)) numbers_words (AreNumbers 3)

abbrev ModelWords : List ℕ × (ℕ × List ℕ) → List Word
ModelWords = pair_words numbers_words (AreNumbers 2) SerialWords IsSerial

abbrev IsModel : List ℕ × (ℕ × List ℕ) → Type 0
IsModel = PairAllowed numbers_words (AreNumbers 2) SerialWords IsSerial

abbrev PdIdParts : Type 0
PdIdParts = List ℕ × (List ℕ × (ℕ × List ℕ))

abbrev PartsWords : PdIdParts → List Word
PartsWords = pair_words vendor_words IsVendor ModelWords IsModel

abbrev AreParts : PdIdParts → Type 0
AreParts = PairAllowed vendor_words IsVendor ModelWords IsModel

abbrev pd_id_from : PdIdParts → PdId
pd_id_from p = record {
  vendor = p.0;
  model = get_or p.1.0 0 0;
  version = get_or p.1.0 1 0;
  serial = p.1.1.0;
  firmware_major = get_or p.1.1.1 0 0;
  firmware_minor = get_or p.1.1.1 1 0;
  firmware_build = get_or p.1.1.1 2 0;
}

abbrev pd_id_parts : PdId → PdIdParts
pd_id_parts p = (p.vendor, (p.model ∷ p.version ∷ [], (p.serial, p.firmware_major ∷ p.firmware_minor ∷ p.firmware_build ∷ [])))

pd_id_same : (p : PdIdParts) → AreParts p → pd_id_words (pd_id_from p) ≡ PartsWords p
pd_id_same p h =
    ap (λ (ns : List ℕ). bytes p.0 ∷ (map number ns ++ (number p.1.1.0 ∷ number (get_or p.1.1.1 0 0) ∷ number (get_or p.1.1.1 1 0) ∷ number (get_or p.1.1.1 2 0) ∷ []))) (sym (all_cells 2 p.1.0 h.1.0.0))
    ∙ ap (λ (ns : List ℕ). bytes p.0 ∷ (map number p.1.0 ++ (number p.1.1.0 ∷ map number ns))) (sym (all_cells 3 p.1.1.1 h.1.1.1.0))

pd_id_made : IsMadeOf PartsWords AreParts pd_id_words PdIdFits pd_id_from pd_id_parts
pd_id_made = record {
  back = λ p fits. refl;
  parts_allowed = λ p fits. (
    (fits.vendor_length, fits.vendor),
    (
      (refl, IsBytes-each (p.model ∷ p.version ∷ []) (fits.model, (fits.version, tt))),
      (fits.serial, (refl, IsBytes-each (p.firmware_major ∷ p.firmware_minor ∷ p.firmware_build ∷ []) (fits.firmware_major, (fits.firmware_minor, (fits.firmware_build, tt))))),
    ),
  );
  parts_words = λ p fits. refl;
  fits = λ p h. record {
    vendor_length = h.0.0;
    vendor = h.0.1;
    model = h.1.0.1 0;
    version = h.1.0.1 1;
    serial = h.1.1.0;
    firmware_major = h.1.1.1.1 0;
    firmware_minor = h.1.1.1.1 1;
    firmware_build = h.1.1.1.1 2;
  };
  same_words = pd_id_same;
}

module _ (given : List (List ℕ)) where
  pub pd_id_no_vendor : (left : List (List ℕ)) (r : Option PdId) → Takes vendor_words IsVendor given left None → r ≡ None → ReadsWords pd_id_words PdIdFits given r
  pd_id_no_vendor left r t e =
      two_no_front vendor_words IsVendor ModelWords IsModel pd_id_words PdIdFits pd_id_from pd_id_parts pd_id_made given left r t e

  pub pd_id_no_model : (m1 left : List (List ℕ)) (v : List ℕ) (r : Option PdId) → Takes vendor_words IsVendor given m1 (Some v)
      → Takes numbers_words (AreNumbers 2) m1 left None → r ≡ None → ReadsWords pd_id_words PdIdFits given r
  pd_id_no_model m1 left v r t u e =
      two_no_back vendor_words IsVendor ModelWords IsModel pd_id_words PdIdFits pd_id_from pd_id_parts pd_id_made given m1 left v r t
      (front_missing numbers_words (AreNumbers 2) SerialWords IsSerial m1 left u) e

  pub pd_id_no_serial : (m1 m2 left : List (List ℕ)) (v ns : List ℕ) (r : Option PdId) → Takes vendor_words IsVendor given m1 (Some v)
      → Takes numbers_words (AreNumbers 2) m1 m2 (Some ns) → Takes number_words (IsBelow (2 ^ 32)) m2 left None → r ≡ None → ReadsWords pd_id_words PdIdFits given r
  pd_id_no_serial m1 m2 left v ns r t u w e =
      two_no_back vendor_words IsVendor ModelWords IsModel pd_id_words PdIdFits pd_id_from pd_id_parts pd_id_made given m1 left v r t
      (pair_taken numbers_words (AreNumbers 2) SerialWords IsSerial m1 m2 left ns None u (front_missing number_words (IsBelow (2 ^ 32)) numbers_words (AreNumbers 3) m2 left w)) e

  pub pd_id_no_firmware : (m1 m2 m3 left : List (List ℕ)) (v ns : List ℕ) (s : ℕ) (r : Option PdId) → Takes vendor_words IsVendor given m1 (Some v)
      → Takes numbers_words (AreNumbers 2) m1 m2 (Some ns) → Takes number_words (IsBelow (2 ^ 32)) m2 m3 (Some s) → Takes numbers_words (AreNumbers 3) m3 left None
      → r ≡ None → ReadsWords pd_id_words PdIdFits given r
  pd_id_no_firmware m1 m2 m3 left v ns s r t u w x e =
      two_no_back vendor_words IsVendor ModelWords IsModel pd_id_words PdIdFits pd_id_from pd_id_parts pd_id_made given m1 left v r t
      (pair_taken numbers_words (AreNumbers 2) SerialWords IsSerial m1 m2 left ns None u (pair_taken number_words (IsBelow (2 ^ 32)) numbers_words (AreNumbers 3) m2 m3 left s None w x)) e

  pub pd_id_whole : (m1 m2 m3 left : List (List ℕ)) (v ns : List ℕ) (s : ℕ) (fw : List ℕ) (ended : Bool) (r : Option PdId) → Takes vendor_words IsVendor given m1 (Some v)
      → Takes numbers_words (AreNumbers 2) m1 m2 (Some ns) → Takes number_words (IsBelow (2 ^ 32)) m2 m3 (Some s) → Takes numbers_words (AreNumbers 3) m3 left (Some fw)
      → (IsTrue ended ↔ (left ≡ [])) → r ≡ then_some ended (pd_id_from (v, (ns, (s, fw)))) → ReadsWords pd_id_words PdIdFits given r
  pd_id_whole m1 m2 m3 left v ns s fw ended r t u w x end e =
      two_whole vendor_words IsVendor ModelWords IsModel pd_id_words PdIdFits pd_id_from pd_id_parts pd_id_made given m1 left v (ns, (s, fw)) ended r t
      (pair_taken numbers_words (AreNumbers 2) SerialWords IsSerial m1 m2 left ns (Some (s, fw)) u (pair_taken number_words (IsBelow (2 ^ 32)) numbers_words (AreNumbers 3) m2 m3 left s (Some fw) w x)) end e

-- RAW: two numbers, a count of bits, and as many bytes as they need

abbrev BitsWords : ℕ × ArrayVec ℕ → List Word
BitsWords = pair_words number_words (IsBelow (2 ^ 16)) list_words (IsList 1428)

abbrev AreBits : ℕ × ArrayVec ℕ → Type 0
AreBits = PairAllowed number_words (IsBelow (2 ^ 16)) list_words (IsList 1428)

abbrev RawParts : Type 0
RawParts = List ℕ × (ℕ × ArrayVec ℕ)

abbrev RawWords : RawParts → List Word
RawWords = pair_words numbers_words (AreNumbers 2) BitsWords AreBits

abbrev AreRaw : RawParts → Type 0
AreRaw = PairAllowed numbers_words (AreNumbers 2) BitsWords AreBits

abbrev raw_from : RawParts → RawCard
raw_from p = record { reader = get_or p.0 0 0; format = get_or p.0 1 0; bits = p.1.0; bytes = p.1.1.items }

abbrev raw_parts : RawCard → RawParts
raw_parts r = (r.reader ∷ r.format ∷ [], (r.bits, record { items = r.bytes }))

raw_allowed : (r : RawCard) → RawFits r → AreRaw (raw_parts r)
raw_allowed r fits = ((refl, IsBytes-each (r.reader ∷ r.format ∷ []) (fits.reader, (fits.format, tt))), (fits.bits, (fits.room, fits.bytes)))

module _ (given : List (List ℕ)) where
  raw_taken : (m1 m2 left : List (List ℕ)) (ns : List ℕ) (bits : ℕ) (list : ArrayVec ℕ) → Takes numbers_words (AreNumbers 2) given m1 (Some ns)
      → Takes number_words (IsBelow (2 ^ 16)) m1 m2 (Some bits) → Takes list_words (IsList 1428) m2 left (Some list)
      → Takes RawWords AreRaw given left (Some (ns, (bits, list)))
  raw_taken m1 m2 left ns bits list t u w =
      pair_taken numbers_words (AreNumbers 2) BitsWords AreBits given m1 left ns (Some (bits, list)) t
      (pair_taken number_words (IsBelow (2 ^ 16)) list_words (IsList 1428) m1 m2 left bits (Some list) u w)

  raw_none : (left : List (List ℕ)) (r : Option RawCard) → Takes RawWords AreRaw given left None → r ≡ None → ReadsWords raw_words RawFits given r
  raw_none left r t e = rw e record {
    value = tt;
    only = λ raw fits stands. let found = t.only (raw_parts raw) given [] (raw_allowed raw fits) (sym (append-nil given)) stands in cc (found.0);
  }

  pub raw_no_reader : (left : List (List ℕ)) (r : Option RawCard) → Takes numbers_words (AreNumbers 2) given left None → r ≡ None → ReadsWords raw_words RawFits given r
  raw_no_reader left r t e = raw_none left r (front_missing numbers_words (AreNumbers 2) BitsWords AreBits given left t) e

  pub raw_no_bits : (m1 left : List (List ℕ)) (ns : List ℕ) (r : Option RawCard) → Takes numbers_words (AreNumbers 2) given m1 (Some ns)
      → Takes number_words (IsBelow (2 ^ 16)) m1 left None → r ≡ None → ReadsWords raw_words RawFits given r
  raw_no_bits m1 left ns r t u e =
      raw_none left r (pair_taken numbers_words (AreNumbers 2) BitsWords AreBits given m1 left ns None t (front_missing number_words (IsBelow (2 ^ 16)) list_words (IsList 1428) m1 left u)) e

  pub raw_no_bytes : (m1 m2 left : List (List ℕ)) (ns : List ℕ) (bits : ℕ) (r : Option RawCard) → Takes numbers_words (AreNumbers 2) given m1 (Some ns)
      → Takes number_words (IsBelow (2 ^ 16)) m1 m2 (Some bits) → Takes list_words (IsList 1428) m2 left None → r ≡ None → ReadsWords raw_words RawFits given r
  raw_no_bytes m1 m2 left ns bits r t u w e =
      raw_none left r (pair_taken numbers_words (AreNumbers 2) BitsWords AreBits given m1 left ns None t (pair_taken number_words (IsBelow (2 ^ 16)) list_words (IsList 1428) m1 m2 left bits None u w)) e

  pub raw_not_whole : (m1 m2 left : List (List ℕ)) (ns : List ℕ) (bits : ℕ) (list : ArrayVec ℕ) → Takes numbers_words (AreNumbers 2) given m1 (Some ns)
      → Takes number_words (IsBelow (2 ^ 16)) m1 m2 (Some bits) → Takes list_words (IsList 1428) m2 left (Some list)
      → (left ≡ [] → length list.items ≡ (bits + 7) / 8 → ⊥) → ReadsWords raw_words RawFits given None
  raw_not_whole m1 m2 left ns bits list t u w not = record {
    value = tt;
    only = λ raw fits stands.
        let found = (raw_taken m1 m2 left ns bits list t u w).only (raw_parts raw) given [] (raw_allowed raw fits) (sym (append-nil given)) stands in
        let same : (ns, (bits, list)) ≡ raw_parts raw = some_same (ns, (bits, list)) (raw_parts raw) found.0 in
        absurd (not found.1 (ap (λ (p : RawParts). length p.1.1.items) same ∙ fits.needed ∙ ap (λ (p : RawParts). (p.1.0 + 7) / 8) (sym same)));
  }
    where
      some_same : (p q : RawParts) → Some p ≡ Some q → p ≡ q
      some_same p q e = cc

  pub raw_whole : (m1 m2 left : List (List ℕ)) (ns : List ℕ) (bits : ℕ) (list : ArrayVec ℕ) → Takes numbers_words (AreNumbers 2) given m1 (Some ns)
      → Takes number_words (IsBelow (2 ^ 16)) m1 m2 (Some bits) → Takes list_words (IsList 1428) m2 left (Some list)
      → left ≡ [] → length list.items ≡ (bits + 7) / 8 → ReadsWords raw_words RawFits given (Some (raw_from (ns, (bits, list))))
  raw_whole m1 m2 left ns bits list t u w end needed =
      let taken = raw_taken m1 m2 left ns bits list t u w in
      let v = taken.value in
      let whole : given ≡ v.0 = v.1 ∙ ap (λ (rest : List (List ℕ)). v.0 ++ rest) end ∙ append-nil v.0 in
      let same : raw_words (raw_from (ns, (bits, list))) ≡ RawWords (ns, (bits, list)) = ap (λ (xs : List ℕ). map number xs ++ (number bits ∷ bytes list.items ∷ [])) (sym (all_cells 2 ns v.3.0.0)) in
      record {
        value = (
          subst (λ (ws : List Word). AllStandFor ws given) (sym same) (subst (λ (texts : List (List ℕ)). AllStandFor (RawWords (ns, (bits, list))) texts) (sym whole) v.2),
          record { reader = v.3.0.1 0; format = v.3.0.1 1; bits = v.3.1.0; needed = needed; room = v.3.1.1.0; bytes = v.3.1.1.1 },
        );
        only = λ raw fits stands.
            let found = taken.only (raw_parts raw) given [] (raw_allowed raw fits) (sym (append-nil given)) stands in
            raw_same raw (ns, (bits, list)) found.0;
      }
    where
      raw_same : (raw : RawCard) (p : RawParts) → Some p ≡ Some (raw_parts raw) → Some (raw_from p) ≡ Some raw
      raw_same raw p e = let same : p ≡ raw_parts raw = cc e in ap (λ (q : RawParts). Some (raw_from q)) same

  pub raw_made : (m1 m2 left : List (List ℕ)) (ns : List ℕ) (bits : ℕ) (list : ArrayVec ℕ) (lent : List ℕ) (r : Option RawCard) → Takes numbers_words (AreNumbers 2) given m1 (Some ns)
      → Takes number_words (IsBelow (2 ^ 16)) m1 m2 (Some bits) → Takes list_words (IsList 1428) m2 left (Some list)
      → left ≡ [] → lent ≡ list.items → r ≡ raw_card (get_or ns 0 0) (get_or ns 1 0) bits lent → ReadsWords raw_words RawFits given r
  raw_made m1 m2 left ns bits list lent r t u w end is e = by_count (length lent == (bits + 7) / 8) refl
    where
      room : length list.items ≤ 1428
      room = w.value.3.0

      few : nat_le (length lent) 1428 ≡ true
      few = le-leb (length lent) 1428 (omega (arith, room, ap length is))

      by_count : (same : Bool) → (length lent == (bits + 7) / 8) ≡ same → ReadsWords raw_words RawFits given r
      by_count true same =
          let whole : raw_card (get_or ns 0 0) (get_or ns 1 0) bits lent ≡ Some (record { reader = get_or ns 0 0; format = get_or ns 1 0; bits = bits; bytes = lent }) = rw (few, same) refl in
          let made = e ∙ whole ∙ ap (λ (xs : List ℕ). let card : RawCard = record { reader = get_or ns 0 0; format = get_or ns 1 0; bits = bits; bytes = xs } in Some card) is in
          rw made (raw_whole m1 m2 left ns bits list t u w end (sym (ap length is) ∙ eqb-true (length lent) ((bits + 7) / 8) same))
      by_count false same =
          let none : raw_card (get_or ns 0 0) (get_or ns 1 0) bits lent ≡ None = rw (few, same) refl in
          rw (e ∙ none) (raw_not_whole m1 m2 left ns bits list t u w (λ ended needed. eqb-false (length lent) ((bits + 7) / 8) same (ap length is ∙ needed)))

-- NAK: a number, and a list where it isn't empty

module _ (given mid : List (List ℕ)) where
  nak_front : (n : Nak) (r : Option ℕ) → NakFits n → AllStandFor (nak_words n) given → Takes number_words (IsBelow (2 ^ 8)) given mid r
      → (r ≡ Some (reason_number n.reason)) × AllStandFor (detail_words n.detail.items) mid
  nak_front n r fits stands t = split given refl stands
    where
      split : (gs : List (List ℕ)) → given ≡ gs → AllStandFor (nak_words n) gs → (r ≡ Some (reason_number n.reason)) × AllStandFor (detail_words n.detail.items) mid
      split [] e s = absurd s
      split (g ∷ gs) e s =
          let found = t.only (reason_number n.reason) (g ∷ []) gs (reason_byte n.reason fits.reason) e (s.0, tt) in
          (found.0, subst (λ (ts : List (List ℕ)). AllStandFor (detail_words n.detail.items) ts) (sym found.1) s.1)

  pub nak_no_reason : (r : Option Nak) → Takes number_words (IsBelow (2 ^ 8)) given mid None → r ≡ None → ReadsWords nak_words NakFits given r
  nak_no_reason r t e = rw e record { value = tt; only = λ n fits stands. let found = (nak_front n None fits stands t).0 in cc found }

  -- the detail that was read
  detail_found : (d : List ℕ) (r : Option (ArrayVec ℕ)) (left : List (List ℕ)) → (mid ≡ [] → ⊥) → length d ≤ 1431 → IsBytes d → AllStandFor (detail_words d) mid
      → Takes list_words (IsList 1431) mid left r → (r ≡ Some (record { items = d })) × (left ≡ []) × (0 < length d)
  detail_found [] r left more room fits stands t = absurd (more (nothing mid stands))
    where
      nothing : (gs : List (List ℕ)) → AllStandFor [] gs → gs ≡ []
      nothing [] h = refl
      nothing (g ∷ gs) h = absurd h
  detail_found (b ∷ bs) r left more room fits stands t =
      let found = t.only (record { items = b ∷ bs }) mid [] (room, fits) (sym (append-nil mid)) stands in
      (found.0, found.1, omega arith)

  pub nak_no_detail : (k : ℕ) (left : List (List ℕ)) (r : Option Nak) → Takes number_words (IsBelow (2 ^ 8)) given mid (Some k) → (mid ≡ [] → ⊥)
      → Takes list_words (IsList 1431) mid left None → r ≡ None → ReadsWords nak_words NakFits given r
  nak_no_detail k left r t more u e = rw e record {
    value = tt;
    only = λ n fits stands.
        let found = detail_found n.detail.items None left more fits.room fits.detail (nak_front n (Some k) fits stands t).1 u in
        cc (found.0);
  }
