-- What is given stands for one value at most.
use Rattle.osdp_msg_laws.proofs.Common.{◌≡◌, ◌<◌, ◌≤◌, ◌^◌, ℕ, suc, List, [], ◌∷◌, ◌++◌, length, map, get_or, refl, sym, ap, ◌∙◌, arith, All, AllByRecursion, All-head, All-tail, IsBytes, AllStandFor, StandsFor, Word, bytes, number, numbers, has_one_word, is_decimal, parts_at_colons, Capability, MakerMessage, LedRecord, OutputRecord, BuzzerFits, buzzer_at, buzzer_words, CommunicationFits, communication_words, LedFits, led_word, MakerFits, maker_words, OutputFits, output_word, TextFits, text_words, reason_number, reason_of, RawCard, CapabilityFits, capability_at, capability_word, FormattedFits, formatted_words, KeypadFits, keypad_words, LocalStateFits, local_state_at, local_state_words, NakFits, detail_words, nak_words, PdIdFits, pd_id_words, RawFits, raw_words, reason_again, reason_byte}
use Rattle.arrayvec.specs.ArrayVec.{ArrayVec}
use Rattle.osdp_msg.specs.declared.command_fields.Buzzer.{Buzzer}
use Rattle.osdp_msg.specs.declared.command_fields.Communication.{Communication}
use Rattle.osdp_msg.specs.declared.command_fields.Text.{Text}
use Rattle.osdp_msg.specs.declared.nak.NakReason.{NakReason}
use Rattle.osdp_msg.specs.declared.event_fields.Formatted.{Formatted}
use Rattle.osdp_msg.specs.declared.event_fields.Keypad.{Keypad}
use Rattle.osdp_msg.specs.declared.reply_fields.LocalState.{LocalState}
use Rattle.osdp_msg.specs.declared.reply_fields.Nak.{Nak}
use Rattle.osdp_msg.specs.declared.reply_fields.PdId.{PdId}
use Rattle.osdp_msg.proofs.ParsedRows.{communication_from, formatted_from, keypad_from, maker_from, text_from}
use Rattle.osdp_msg.proofs.RecordWordRows.{led_from, led_numbers, output_from, output_numbers}

-- ---- words

abbrev pub AreSmall : List ℕ → Type 0
AreSmall ns = AllByRecursion (λ n. n < 2 ^ 64) ns

pub byte : (n : ℕ) → n < 256 → n < 2 ^ 64
byte n h = omega arith

pub word_2 : (n : ℕ) → n < 2 ^ 16 → n < 2 ^ 64
word_2 n h = omega arith

pub word_4 : (n : ℕ) → n < 2 ^ 32 → n < 2 ^ 64
word_4 n h = omega arith

number_one : (g : List ℕ) (a b : ℕ) → a < 2 ^ 64 → b < 2 ^ 64 → StandsFor (number a) g → StandsFor (number b) g → a ≡ b
number_one g a b ha hb s t = let p = (is_decimal a g ha).0 s in let q = (is_decimal b g hb).0 t in sym p.2 ∙ q.2

bytes_one : (g bs cs : List ℕ) → IsBytes bs → IsBytes cs → StandsFor (bytes bs) g → StandsFor (bytes cs) g → bs ≡ cs
bytes_one g bs cs h k s t = let e = has_one_word g (bytes bs) (bytes cs) h k tt s t in same_bytes bs cs e
  where
    same_bytes : (bs cs : List ℕ) → bytes bs ≡ bytes cs → bs ≡ cs
    same_bytes bs cs e = cc

-- what is left of the words after some numbers
pub record Behind (ns ms : List ℕ) (ws vs : List Word) : Type 0 where
  pub same : ns ≡ ms
  pub rest : List (List ℕ)
  pub first : AllStandFor ws rest
  pub second : AllStandFor vs rest

pub numbers_then : (given : List (List ℕ)) (ns ms : List ℕ) (ws vs : List Word) → length ns ≡ length ms → AreSmall ns → AreSmall ms
    → AllStandFor (map number ns ++ ws) given → AllStandFor (map number ms ++ vs) given → Behind ns ms ws vs
numbers_then given [] [] ws vs e h k s t = record { same = refl; rest = given; first = s; second = t }
numbers_then given [] (m ∷ ms) ws vs e h k s t = absurd (omega arith)
numbers_then given (n ∷ ns) [] ws vs e h k s t = absurd (omega arith)
numbers_then [] (n ∷ ns) (m ∷ ms) ws vs e h k s t = absurd s
numbers_then (g ∷ given) (n ∷ ns) (m ∷ ms) ws vs e h k s t =
    let one = number_one g n m h.0 k.0 s.0 t.0 in
    let more = numbers_then given ns ms ws vs (omega arith) h.1 k.1 s.1 t.1 in
    record { same = ap (λ (x : ℕ). x ∷ ns) one ∙ ap (λ (xs : List ℕ). m ∷ xs) more.same; rest = more.rest; first = more.first; second = more.second }

pub bytes_then : (given : List (List ℕ)) (bs cs : List ℕ) (ws vs : List Word) → IsBytes bs → IsBytes cs
    → AllStandFor (bytes bs ∷ ws) given → AllStandFor (bytes cs ∷ vs) given → Behind bs cs ws vs
bytes_then [] bs cs ws vs h k s t = absurd s
bytes_then (g ∷ given) bs cs ws vs h k s t = record { same = bytes_one g bs cs h k s.0 t.0; rest = given; first = s.1; second = t.1 }

-- a record's numbers
record_one : (g : List ℕ) (n m : ℕ) (ns ms : List ℕ) → length ns ≡ length ms → AreSmall (n ∷ ns) → AreSmall (m ∷ ms)
    → StandsFor (numbers (n ∷ ns)) g → StandsFor (numbers (m ∷ ms)) g → n ∷ ns ≡ m ∷ ms
record_one g n m ns ms e h k s t =
    let p = (parts_at_colons n ns g h).0 s in
    let q = (parts_at_colons m ms g k).0 t in
    (numbers_then _ (n ∷ ns) (m ∷ ms) [] [] (ap suc e) h k (more (n ∷ ns) _ p) (more (m ∷ ms) _ q)).same
  where
    more : (xs : List ℕ) (gs : List (List ℕ)) → AllStandFor (map number xs) gs → AllStandFor (map number xs ++ []) gs
    more [] gs h = h
    more (x ∷ xs) [] h = absurd h
    more (x ∷ xs) (g ∷ gs) h = (h.0, more xs gs h.1)

-- records that their numbers give back
pub records_one : {R : Type 0} (word : R → Word) (Fits : R → Type 0) → ((g : List ℕ) (r o : R) → Fits r → Fits o → StandsFor (word r) g → StandsFor (word o) g → r ≡ o)
    → (given : List (List ℕ)) (rs os : List R) → All Fits rs → All Fits os → AllStandFor (map word rs) given → AllStandFor (map word os) given → rs ≡ os
records_one word Fits one [] [] [] h k s t = refl
records_one word Fits one [] [] (o ∷ os) h k s t = absurd t
records_one word Fits one [] (r ∷ rs) os h k s t = absurd s
records_one word Fits one (g ∷ given) [] os h k s t = absurd s
records_one word Fits one (g ∷ given) (r ∷ rs) [] h k s t = absurd t
records_one {R} word Fits one (g ∷ given) (r ∷ rs) (o ∷ os) h k s t =
    let same = one g r o (All-head Fits r rs h) (All-head Fits o os k) s.0 t.0 in
    let more = records_one word Fits one given rs os (All-tail Fits r rs h) (All-tail Fits o os k) s.1 t.1 in
    ap (λ (x : R). x ∷ rs) same ∙ ap (λ (xs : List R). o ∷ xs) more

-- ---- fields of commands

pub output_small : (r : OutputRecord) → OutputFits r → AreSmall (output_numbers r)
output_small r fits = (byte r.output fits.output, (byte r.control fits.control, (word_2 r.timer fits.timer, tt)))

pub output_one : (g : List ℕ) (r o : OutputRecord) → OutputFits r → OutputFits o → StandsFor (output_word r) g → StandsFor (output_word o) g → r ≡ o
output_one g r o h k s t = ap output_from (record_one g r.output o.output (r.control ∷ r.timer ∷ []) (o.control ∷ o.timer ∷ []) refl (output_small r h) (output_small o k) s t)

pub led_small : (r : LedRecord) → LedFits r → AreSmall (led_numbers r)
led_small r fits =
    (byte r.reader (fits.front 0), (byte r.led (fits.front 1), (byte r.temporary_control (fits.front 2), (byte r.temporary_on_time (fits.front 3), (byte r.temporary_off_time (fits.front 4), (byte r.temporary_on_color (fits.front 5), (byte r.temporary_off_color (fits.front 6), (word_2 r.timer fits.timer, (byte r.permanent_control (fits.later 0), (byte r.permanent_on_time (fits.later 1), (byte r.permanent_off_time (fits.later 2), (byte r.permanent_on_color (fits.later 3), (byte r.permanent_off_color (fits.later 4), tt)))))))))))))

led_rest : LedRecord → List ℕ
led_rest r =
    r.led ∷ r.temporary_control ∷ r.temporary_on_time ∷ r.temporary_off_time ∷ r.temporary_on_color ∷ r.temporary_off_color ∷ r.timer ∷ r.permanent_control ∷ r.permanent_on_time ∷ r.permanent_off_time ∷ r.permanent_on_color ∷ r.permanent_off_color ∷ []

pub led_one : (g : List ℕ) (r o : LedRecord) → LedFits r → LedFits o → StandsFor (led_word r) g → StandsFor (led_word o) g → r ≡ o
unfolding led_rest
led_one g r o h k s t = ap led_from (record_one g r.reader o.reader (led_rest r) (led_rest o) refl (led_small r h) (led_small o k) s t)

-- a value whose words are numbers, which give it back
none_after : {X : Type 0} (given : List (List ℕ)) (numbers_of : X → List ℕ) (from : List ℕ → X) (x y : X) → length (numbers_of x) ≡ length (numbers_of y)
    → AreSmall (numbers_of x) → AreSmall (numbers_of y) → AllStandFor (map number (numbers_of x) ++ []) given → AllStandFor (map number (numbers_of y) ++ []) given
    → from (numbers_of x) ≡ from (numbers_of y)
none_after given numbers_of from x y e h k s t = ap from (numbers_then given (numbers_of x) (numbers_of y) [] [] e h k s t).same

pub buzzer_one : (given : List (List ℕ)) (b c : Buzzer) → BuzzerFits b → BuzzerFits c → AllStandFor (buzzer_words b) given → AllStandFor (buzzer_words c) given → b ≡ c
buzzer_one given b c h k s t =
    none_after given (λ (x : Buzzer). x.reader ∷ x.tone ∷ x.on_time ∷ x.off_time ∷ x.count ∷ []) buzzer_at b c refl (small b h) (small c k) s t
  where
    small : (x : Buzzer) → BuzzerFits x → AreSmall (x.reader ∷ x.tone ∷ x.on_time ∷ x.off_time ∷ x.count ∷ [])
    small x f = (byte x.reader f.0, (byte x.tone f.1, (byte x.on_time f.2, (byte x.off_time f.3, (byte x.count f.4, tt)))))

pub communication_one : (given : List (List ℕ)) (b c : Communication) → CommunicationFits b → CommunicationFits c → AllStandFor (communication_words b) given → AllStandFor (communication_words c) given → b ≡ c
communication_one given b c h k s t =
    none_after given (λ (x : Communication). x.address ∷ x.baud_rate ∷ []) (λ ns. communication_from (get_or ns 0 0, get_or ns 1 0)) b c refl (small b h) (small c k) s t
  where
    small : (x : Communication) → CommunicationFits x → AreSmall (x.address ∷ x.baud_rate ∷ [])
    small x f = (byte x.address f.0, (word_4 x.baud_rate f.1, tt))

pub local_state_one : (given : List (List ℕ)) (b c : LocalState) → LocalStateFits b → LocalStateFits c → AllStandFor (local_state_words b) given → AllStandFor (local_state_words c) given → b ≡ c
local_state_one given b c h k s t =
    none_after given (λ (x : LocalState). x.tamper ∷ x.power ∷ []) local_state_at b c refl (byte b.tamper h.0, (byte b.power h.1, tt)) (byte c.tamper k.0, (byte c.power k.1, tt)) s t

pub byte_one : (given : List (List ℕ)) (a b : ℕ) → a < 256 → b < 256 → AllStandFor (number a ∷ []) given → AllStandFor (number b ∷ []) given → a ≡ b
byte_one given a b h k s t = none_after given (λ (x : ℕ). x ∷ []) (λ ns. get_or ns 0 0) a b refl (byte a h, tt) (byte b k, tt) s t

abbrev numbers_of : Text → List ℕ
numbers_of z = z.reader ∷ z.command ∷ z.time ∷ z.row ∷ z.column ∷ []

pub text_one : (given : List (List ℕ)) (x y : Text) → TextFits x → TextFits y → AllStandFor (text_words x) given → AllStandFor (text_words y) given → x ≡ y
text_one given x y h k s t =
    let front = numbers_then given (numbers_of x) (numbers_of y) (bytes x.characters.items ∷ []) (bytes y.characters.items ∷ []) refl (small x h) (small y k) s t in
    let later = bytes_then front.rest x.characters.items y.characters.items [] [] h.characters k.characters front.first front.second in
    ap (λ (ns : List ℕ). text_from (ns, x.characters)) front.same ∙ ap (λ (cs : List ℕ). text_from (numbers_of y, record { items = cs })) later.same
  where
    small : (z : Text) → TextFits z → AreSmall (z.reader ∷ z.command ∷ z.time ∷ z.row ∷ z.column ∷ [])
    small z f = (byte z.reader (f.numbers 0), (byte z.command (f.numbers 1), (byte z.time (f.numbers 2), (byte z.row (f.numbers 3), (byte z.column (f.numbers 4), tt)))))

pub maker_one : (given : List (List ℕ)) (x y : MakerMessage) → MakerFits x → MakerFits y → AllStandFor (maker_words x) given → AllStandFor (maker_words y) given → x ≡ y
maker_one given x y h k s t =
    let front = bytes_then given x.vendor y.vendor (bytes x.bytes.items ∷ []) (bytes y.bytes.items ∷ []) h.vendor k.vendor s t in
    let later = bytes_then front.rest x.bytes.items y.bytes.items [] [] h.bytes k.bytes front.first front.second in
    ap (λ (v : List ℕ). maker_from (v, x.bytes)) front.same ∙ ap (λ (bs : List ℕ). maker_from (y.vendor, record { items = bs })) later.same

-- ---- fields of replies

pub capability_one : (g : List ℕ) (r o : Capability) → CapabilityFits r → CapabilityFits o → StandsFor (capability_word r) g → StandsFor (capability_word o) g → r ≡ o
capability_one g r o h k s t =
    ap capability_at (record_one g r.function o.function (r.level ∷ r.count ∷ []) (o.level ∷ o.count ∷ []) refl (byte r.function h.0, (byte r.level h.1, (byte r.count h.2, tt))) (byte o.function k.0, (byte o.level k.1, (byte o.count k.2, tt))) s t)

pub states_one : (given : List (List ℕ)) (a b : ArrayVec ℕ) → IsBytes a.items → IsBytes b.items → AllStandFor (bytes a.items ∷ []) given → AllStandFor (bytes b.items ∷ []) given → a ≡ b
states_one given a b h k s t = ap (λ (xs : List ℕ). let made : ArrayVec ℕ = record { items = xs } in made) (bytes_then given a.items b.items [] [] h k s t).same

pub formatted_one : (given : List (List ℕ)) (x y : Formatted) → FormattedFits x → FormattedFits y → AllStandFor (formatted_words x) given → AllStandFor (formatted_words y) given → x ≡ y
formatted_one given x y h k s t =
    let front = numbers_then given (x.reader ∷ x.direction ∷ []) (y.reader ∷ y.direction ∷ []) (bytes x.digits.items ∷ []) (bytes y.digits.items ∷ []) refl (byte x.reader h.reader, (byte x.direction h.direction, tt)) (byte y.reader k.reader, (byte y.direction k.direction, tt)) s t in
    let later = bytes_then front.rest x.digits.items y.digits.items [] [] h.digits k.digits front.first front.second in
    ap (λ (ns : List ℕ). formatted_from (ns, x.digits)) front.same ∙ ap (λ (ds : List ℕ). formatted_from (y.reader ∷ y.direction ∷ [], record { items = ds })) later.same

pub keypad_one : (given : List (List ℕ)) (x y : Keypad) → KeypadFits x → KeypadFits y → AllStandFor (keypad_words x) given → AllStandFor (keypad_words y) given → x ≡ y
keypad_one given x y h k s t =
    let front = numbers_then given (x.reader ∷ []) (y.reader ∷ []) (bytes x.digits.items ∷ []) (bytes y.digits.items ∷ []) refl (byte x.reader h.reader, tt) (byte y.reader k.reader, tt) s t in
    let later = bytes_then front.rest x.digits.items y.digits.items [] [] h.digits k.digits front.first front.second in
    ap (λ (ns : List ℕ). keypad_from (get_or ns 0 0, x.digits)) front.same ∙ ap (λ (ds : List ℕ). keypad_from (y.reader, record { items = ds })) later.same

pub raw_one : (given : List (List ℕ)) (x y : RawCard) → RawFits x → RawFits y → AllStandFor (raw_words x) given → AllStandFor (raw_words y) given → x ≡ y
raw_one given x y h k s t =
    let front = numbers_then given (x.reader ∷ x.format ∷ x.bits ∷ []) (y.reader ∷ y.format ∷ y.bits ∷ []) (bytes x.bytes ∷ []) (bytes y.bytes ∷ []) refl (byte x.reader h.reader, (byte x.format h.format, (word_2 x.bits h.bits, tt))) (byte y.reader k.reader, (byte y.format k.format, (word_2 y.bits k.bits, tt))) s t in
    let later = bytes_then front.rest x.bytes y.bytes [] [] h.bytes k.bytes front.first front.second in
    ap (λ (ns : List ℕ). record x { reader = get_or ns 0 0; format = get_or ns 1 0; bits = get_or ns 2 0 }) front.same ∙ ap (λ (bs : List ℕ). record y { bytes = bs }) later.same

abbrev pd_id_numbers : PdId → List ℕ
pd_id_numbers p = p.model ∷ p.version ∷ p.serial ∷ p.firmware_major ∷ p.firmware_minor ∷ p.firmware_build ∷ []

abbrev pd_id_of : List ℕ → List ℕ → PdId
pd_id_of v ns = record { vendor = v; model = get_or ns 0 0; version = get_or ns 1 0; serial = get_or ns 2 0; firmware_major = get_or ns 3 0; firmware_minor = get_or ns 4 0; firmware_build = get_or ns 5 0 }

pub pd_id_one : (given : List (List ℕ)) (x y : PdId) → PdIdFits x → PdIdFits y → AllStandFor (pd_id_words x) given → AllStandFor (pd_id_words y) given → x ≡ y
pd_id_one given x y h k s t =
    let front = bytes_then given x.vendor y.vendor (map number (pd_id_numbers x)) (map number (pd_id_numbers y)) h.vendor k.vendor s t in
    let later = numbers_then front.rest (pd_id_numbers x) (pd_id_numbers y) [] [] refl (pd_id_small x h) (pd_id_small y k) front.first front.second in
    ap (λ (v : List ℕ). pd_id_of v (pd_id_numbers x)) front.same ∙ ap (λ (ns : List ℕ). pd_id_of y.vendor ns) later.same
  where
    pd_id_small : (p : PdId) → PdIdFits p → AreSmall (p.model ∷ p.version ∷ p.serial ∷ p.firmware_major ∷ p.firmware_minor ∷ p.firmware_build ∷ [])
    pd_id_small p f = (byte p.model f.model, (byte p.version f.version, (word_4 p.serial f.serial, (byte p.firmware_major f.firmware_major, (byte p.firmware_minor f.firmware_minor, (byte p.firmware_build f.firmware_build, tt))))))

details_one : (given : List (List ℕ)) (d e : List ℕ) → IsBytes d → IsBytes e → AllStandFor (detail_words d) given → AllStandFor (detail_words e) given → d ≡ e
details_one given [] [] h k s t = refl
details_one [] [] (b ∷ bs) h k s t = absurd t
details_one (g ∷ given) [] (b ∷ bs) h k s t = absurd s
details_one [] (a ∷ more) [] h k s t = absurd s
details_one (g ∷ given) (a ∷ more) [] h k s t = absurd t
details_one given (a ∷ more) (b ∷ bs) h k s t = (bytes_then given (a ∷ more) (b ∷ bs) [] [] h k s t).same

pub nak_one : (given : List (List ℕ)) (x y : Nak) → NakFits x → NakFits y → AllStandFor (nak_words x) given → AllStandFor (nak_words y) given → x ≡ y
nak_one given x y h k s t =
    let kx = reason_number x.reason in
    let ky = reason_number y.reason in
    let front = numbers_then given (kx ∷ []) (ky ∷ []) (detail_words x.detail.items) (detail_words y.detail.items) refl (byte kx (reason_byte x.reason h.reason), tt) (byte ky (reason_byte y.reason k.reason), tt) s t in
    let detail = details_one front.rest x.detail.items y.detail.items h.detail k.detail front.first front.second in
    let reason : x.reason ≡ y.reason = sym (reason_again x.reason h.reason) ∙ ap (λ (ns : List ℕ). reason_of (get_or ns 0 0)) front.same ∙ reason_again y.reason k.reason in
    ap (λ (r : NakReason). record x { reason = r }) reason ∙ ap (λ (d : List ℕ). record y { detail = record { items = d } }) detail
