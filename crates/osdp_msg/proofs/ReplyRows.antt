-- The data of replies, row by row: bytes that are read are spelled so, and what is spelled so is read.
use Rattle.osdp_msg.proofs.Common.{◌≡◌, ◌<◌, ◌≤◌, ℕ, ◌+◌, ◌-◌, ◌/◌, ◌≢◌, inl, inr, false, eqb, List, [], ◌∷◌, ◌++◌, length, drop, take, get_or, lit<, lit≤, refl, sym, ap, ◌∙◌, arith, AllByRecursion, cases_lt, eqb-false, ne_eqb, length-drop, length-take, take_at, little_bytes, little_number, IsBytes, Formatted, Keypad, Nak, PdId, ReasonFits, reason_number, reason_of, RawCard, NakFits, nak_data, nak_at, PdIdFits, pd_id_data, pd_id_at, CapabilityFits, capability_data, capability_at, LocalStateFits, local_state_data, local_state_at, RawFits, raw_data, raw_at, FormattedFits, formatted_data, formatted_at, KeypadFits, keypad_data, keypad_at, IsRecord}
use Rattle.osdp_msg.specs.declared.nak.NakReason.{NakReason}
use Rattle.osdp_msg.specs.declared.nak.NakReason.TheVariants.{Other}
use Rattle.osdp_msg.specs.declared.reply_fields.LocalState.{LocalState}
use Rattle.osdp_msg.specs.OtherReasons.{IsOtherReason}
use Rattle.osdp_msg.proofs.Bytes.{IsBytes-append, IsBytes-cons, IsBytes-counted, IsBytes-drop, IsBytes-each, IsBytes-little_2, IsBytes-little_4, IsBytes-take, all_cells, bytes_2, bytes_4, cells, number_2_at, number_2_bound, number_4_at, number_4_bound}
use Rattle.osdp_msg.proofs.Table.{by_codes}

-- reasons

-- the reason of a number that has no name
unnamed : (n : ℕ) → IsOtherReason n → reason_of n ≡ Other n
unnamed n o =
    let far : (k : ℕ) → 0 < k → k ≤ 9 → eqb n k ≡ false = λ k low high. ne_eqb n k (λ e. elim o [ inl none ↦ omega arith | inr more ↦ omega arith ]) in
    rw (far 1 (lit< tt) (lit≤ tt), far 2 (lit< tt) (lit≤ tt), far 3 (lit< tt) (lit≤ tt), far 4 (lit< tt) (lit≤ tt), far 5 (lit< tt) (lit≤ tt), far 6 (lit< tt) (lit≤ tt), far 7 (lit< tt) (lit≤ tt), far 8 (lit< tt) (lit≤ tt), far 9 (lit< tt) (lit≤ tt)) refl

pub reason_again : (r : NakReason) → ReasonFits r → reason_of (reason_number r) ≡ r
reason_again (Other n) fits = unnamed n fits.1
reason_again _ fits = refl

-- each number up to 9, and those above
by_number : (P : ℕ → Type 0) → AllByRecursion P (1 ∷ 2 ∷ 3 ∷ 4 ∷ 5 ∷ 6 ∷ 7 ∷ 8 ∷ 9 ∷ []) → ((n : ℕ) → IsOtherReason n → P n) → (n : ℕ) → P n
by_number P named other n =
    by_codes P n (1 ∷ 2 ∷ 3 ∷ 4 ∷ 5 ∷ 6 ∷ 7 ∷ 8 ∷ 9 ∷ []) named λ e1 e2 e3 e4 e5 e6 e7 e8 e9.
    other n (apart n (eqb-false n 1 e1) (eqb-false n 2 e2) (eqb-false n 3 e3) (eqb-false n 4 e4) (eqb-false n 5 e5) (eqb-false n 6 e6) (eqb-false n 7 e7) (eqb-false n 8 e8) (eqb-false n 9 e9))
  where
    apart : (n : ℕ) → (n ≢ 1) → (n ≢ 2) → (n ≢ 3) → (n ≢ 4) → (n ≢ 5) → (n ≢ 6) → (n ≢ 7) → (n ≢ 8) → (n ≢ 9) → IsOtherReason n
    apart n m1 m2 m3 m4 m5 m6 m7 m8 m9 = elim (cases_lt n 1) [ inl none ↦ inl (omega arith) | inr some ↦ inr (omega arith) ]

pub reason_back : (n : ℕ) → reason_number (reason_of n) ≡ n
reason_back = by_number (λ n. reason_number (reason_of n) ≡ n) (refl, (refl, (refl, (refl, (refl, (refl, (refl, (refl, (refl, tt))))))))) λ n o. rw (unnamed n o) refl

pub reason_fits : (n : ℕ) → n < 256 → ReasonFits (reason_of n)
reason_fits = by_number (λ n. n < 256 → ReasonFits (reason_of n)) (λ _. tt, (λ _. tt, (λ _. tt, (λ _. tt, (λ _. tt, (λ _. tt, (λ _. tt, (λ _. tt, (λ _. tt, tt))))))))) λ n o lt. rw (unnamed n o) (lt, o)

pub reason_byte : (r : NakReason) → ReasonFits r → reason_number r < 256
reason_byte (Other n) fits = fits.0
reason_byte _ fits = lit< tt

-- NAK

pub nak_again : (n : Nak) → NakFits n → nak_at (nak_data n) ≡ n
nak_again n fits = ap (λ (r : NakReason). record n { reason = r }) (reason_again n.reason fits.reason)

pub nak_takes : (bs : List ℕ) → 1 ≤ length bs → bs ≡ nak_data (nak_at bs)
nak_takes bs le = cells 1 0 bs le ∙ ap (λ (b : ℕ). b ∷ drop 1 bs) (sym (reason_back (get_or bs 0 0)))

pub nak_fits : (bs : List ℕ) → 1 ≤ length bs → length bs ≤ 1432 → IsBytes bs → NakFits (nak_at bs)
nak_fits bs some room h = record {
  reason = reason_fits (get_or bs 0 0) (h 0);
  room = rw length-drop (omega arith);
  detail = IsBytes-drop 1 bs h;
}

pub nak_spells : (n : Nak) → NakFits n → IsBytes (nak_data n)
nak_spells n fits = IsBytes-cons (reason_number n.reason) n.detail.items (reason_byte n.reason fits.reason) fits.detail

-- PDID

-- a vendor's bytes, one by one
vendor_cells : (v : List ℕ) → length v ≡ 3 → v ≡ get_or v 0 0 ∷ get_or v 1 0 ∷ get_or v 2 0 ∷ []
vendor_cells v e = all_cells 3 v e

abbrev pd_id_cells : List ℕ → PdId → List ℕ
pd_id_cells v p = pd_id_data (record p { vendor = v })

pub pd_id_again : (p : PdId) → PdIdFits p → pd_id_at (pd_id_data p) ≡ p
pd_id_again p fits =
    let v = p.vendor in
    let seen : PdId = record p { vendor = get_or v 0 0 ∷ get_or v 1 0 ∷ get_or v 2 0 ∷ [] } in
    let same : p ≡ seen = ap (λ (w : List ℕ). record p { vendor = w }) (vendor_cells v fits.vendor_length) in
    ap (λ (q : PdId). pd_id_at (pd_id_data q)) same
    ∙ ap (λ (n : ℕ). record seen { serial = n }) (bytes_4 p.serial (p.firmware_major ∷ p.firmware_minor ∷ p.firmware_build ∷ []) fits.serial)
    ∙ sym same

pub pd_id_takes : (bs : List ℕ) → length bs ≡ 12 → IsBytes bs → bs ≡ pd_id_data (pd_id_at bs)
pd_id_takes bs e h =
    let front = get_or bs 0 0 ∷ get_or bs 1 0 ∷ get_or bs 2 0 ∷ [] in
    let split : bs ≡ front ++ drop 3 bs = cells 3 0 bs (omega arith) in
    let vendor : take 3 bs ≡ front = ap (take 3) split ∙ take_at front (drop 3 bs) 3 refl in
    let firmware = get_or bs 9 0 ∷ get_or bs 10 0 ∷ get_or bs 11 0 ∷ [] in
    all_cells 12 bs e
    ∙ ap (λ (serial : List ℕ). ((front ++ (get_or bs 3 0 ∷ get_or bs 4 0 ∷ [])) ++ serial) ++ firmware) (sym (number_4_at 5 bs h))
    ∙ ap (λ (v : List ℕ). ((v ++ (get_or bs 3 0 ∷ get_or bs 4 0 ∷ [])) ++ little_bytes 4 (little_number 4 (drop 5 bs))) ++ firmware) (sym vendor)

pub pd_id_length : (p : PdId) → PdIdFits p → length (pd_id_data p) ≡ 12
pd_id_length p fits = ap (λ (w : List ℕ). length (pd_id_cells w p)) (vendor_cells p.vendor fits.vendor_length)

pub pd_id_fits : (bs : List ℕ) → length bs ≡ 12 → IsBytes bs → PdIdFits (pd_id_at bs)
pd_id_fits bs e h = record {
  vendor_length = rw length-take (omega arith);
  vendor = IsBytes-take 3 bs h;
  model = h 3;
  version = h 4;
  serial = number_4_bound (drop 5 bs) (IsBytes-drop 5 bs h);
  firmware_major = h 9;
  firmware_minor = h 10;
  firmware_build = h 11;
}

pub pd_id_spells : (p : PdId) → PdIdFits p → IsBytes (pd_id_data p)
pd_id_spells p fits =
    let numbers = p.model ∷ p.version ∷ [] in
    let firmware = p.firmware_major ∷ p.firmware_minor ∷ p.firmware_build ∷ [] in
    IsBytes-append ((p.vendor ++ numbers) ++ little_bytes 4 p.serial) firmware
    (IsBytes-append (p.vendor ++ numbers) (little_bytes 4 p.serial) (IsBytes-append p.vendor numbers fits.vendor (IsBytes-each numbers (fits.model, (fits.version, tt)))) (IsBytes-little_4 p.serial))
    (IsBytes-each firmware (fits.firmware_major, (fits.firmware_minor, (fits.firmware_build, tt))))

-- PDCAP

capability_takes : (bs : List ℕ) → 3 ≤ length bs → IsBytes bs → bs ≡ capability_data (capability_at bs) ++ drop 3 bs
capability_takes bs le h = cells 3 0 bs le

pub capabilities : IsRecord 3 capability_data CapabilityFits capability_at
capabilities = record {
  some = lit< tt;
  len = λ r. refl;
  again = λ r rest fits. refl;
  takes = capability_takes;
  fits = λ bs h. (h 0, h 1, h 2);
  spells = λ r fits. IsBytes-each (capability_data r) (fits.0, (fits.1, (fits.2, tt)));
}

-- LSTATR

pub local_state_takes : (bs : List ℕ) → length bs ≡ 2 → bs ≡ local_state_data (local_state_at bs)
local_state_takes bs e = all_cells 2 bs e

pub local_state_spells : (s : LocalState) → LocalStateFits s → IsBytes (local_state_data s)
local_state_spells s fits = IsBytes-each (local_state_data s) (fits.0, (fits.1, tt))

-- RAW

pub raw_again : (r : RawCard) → RawFits r → raw_at (raw_data r) ≡ r
raw_again r fits = ap (λ (n : ℕ). record r { bits = n }) (bytes_2 r.bits r.bytes fits.bits)

pub raw_takes : (bs : List ℕ) → 4 ≤ length bs → IsBytes bs → bs ≡ raw_data (raw_at bs)
raw_takes bs le h =
    cells 4 0 bs le ∙ ap (λ (bits : List ℕ). (get_or bs 0 0 ∷ get_or bs 1 0 ∷ bits) ++ drop 4 bs) (sym (number_2_at 2 bs h))

pub raw_fits : (bs : List ℕ) → 4 ≤ length bs → length bs ≤ 1432 → (little_number 2 (drop 2 bs) + 7) / 8 ≡ length bs - 4 → IsBytes bs → RawFits (raw_at bs)
raw_fits bs some room needed h = record {
  reader = h 0;
  format = h 1;
  bits = number_2_bound (drop 2 bs) (IsBytes-drop 2 bs h);
  needed = length-drop 4 bs ∙ sym needed;
  room = rw length-drop (omega arith);
  bytes = IsBytes-drop 4 bs h;
}

pub raw_spells : (r : RawCard) → RawFits r → IsBytes (raw_data r)
raw_spells r fits =
    IsBytes-append (r.reader ∷ r.format ∷ little_bytes 2 r.bits) r.bytes
    (IsBytes-cons r.reader (r.format ∷ little_bytes 2 r.bits) fits.reader (IsBytes-cons r.format (little_bytes 2 r.bits) fits.format (IsBytes-little_2 r.bits))) fits.bytes

-- FMT

pub formatted_takes : (bs : List ℕ) → 3 ≤ length bs → get_or bs 2 0 ≡ length bs - 3 → bs ≡ formatted_data (formatted_at bs)
formatted_takes bs le count =
    cells 3 0 bs le ∙ ap (λ (n : ℕ). get_or bs 0 0 ∷ get_or bs 1 0 ∷ n ∷ drop 3 bs) (count ∙ sym (length-drop 3 bs))

pub formatted_fits : (bs : List ℕ) → get_or bs 2 0 ≡ length bs - 3 → IsBytes bs → FormattedFits (formatted_at bs)
formatted_fits bs count h = record {
  reader = h 0;
  direction = h 1;
  room = rw length-drop (omega (arith, h 2));
  digits = IsBytes-drop 3 bs h;
}

pub formatted_spells : (f : Formatted) → FormattedFits f → IsBytes (formatted_data f)
formatted_spells f fits = IsBytes-counted (f.reader ∷ f.direction ∷ []) f.digits.items (fits.reader, (fits.direction, tt)) fits.room fits.digits

-- KEYPAD

pub keypad_takes : (bs : List ℕ) → 2 ≤ length bs → get_or bs 1 0 ≡ length bs - 2 → bs ≡ keypad_data (keypad_at bs)
keypad_takes bs le count =
    cells 2 0 bs le ∙ ap (λ (n : ℕ). get_or bs 0 0 ∷ n ∷ drop 2 bs) (count ∙ sym (length-drop 2 bs))

pub keypad_fits : (bs : List ℕ) → get_or bs 1 0 ≡ length bs - 2 → IsBytes bs → KeypadFits (keypad_at bs)
keypad_fits bs count h = record {
  reader = h 0;
  room = rw length-drop (omega (arith, h 1));
  digits = IsBytes-drop 2 bs h;
}

pub keypad_spells : (k : Keypad) → KeypadFits k → IsBytes (keypad_data k)
keypad_spells k fits = IsBytes-counted (k.reader ∷ []) k.digits.items (fits.reader, tt) fits.room fits.digits
