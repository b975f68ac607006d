-- The data of commands, row by row: bytes that are read are spelled so, and what is spelled so is read.
use Rattle.osdp_msg.proofs.Common.{◌≡◌, ◌≤◌, ℕ, ◌+◌, ◌-◌, List, [], ◌∷◌, ◌++◌, length, drop, get_or, lit<, refl, sym, ap, ◌∙◌, arith, drop_at, length-append, length-drop, length-take, take-append-drop, take_at, little_bytes, IsBytes, Communication, MakerMessage, Text, LedRecord, OutputFits, output_data, output_at, LedFits, led_data, led_at, BuzzerFits, buzzer_data, buzzer_at, TextFits, text_data, text_at, CommunicationFits, communication_data, communication_at, MakerFits, maker_data, maker_at, IsRecord}
use Rattle.osdp_msg.specs.declared.command_fields.Buzzer.{Buzzer}
use Rattle.osdp_msg.proofs.Bytes.{IsBytes-append, IsBytes-cells, IsBytes-cons, IsBytes-counted, IsBytes-drop, IsBytes-each, IsBytes-little_2, IsBytes-little_4, IsBytes-take, all_cells, bytes_2, bytes_4, cells, number_2_at, number_2_bound, number_4_at, number_4_bound}

-- outputs

output_takes : (bs : List ℕ) → 4 ≤ length bs → IsBytes bs → bs ≡ output_data (output_at bs) ++ drop 4 bs
output_takes bs le h =
    cells 4 0 bs le ∙ ap (λ (timer : List ℕ). (get_or bs 0 0 ∷ get_or bs 1 0 ∷ timer) ++ drop 4 bs) (sym (number_2_at 2 bs h))

pub outputs : IsRecord 4 output_data OutputFits output_at
outputs = record {
  some = lit< tt;
  len = λ r. refl;
  again = λ r rest fits. ap (λ (t : ℕ). record r { timer = t }) (bytes_2 r.timer rest fits.timer);
  takes = output_takes;
  fits = λ bs h. record { output = h 0; control = h 1; timer = number_2_bound (drop 2 bs) (IsBytes-drop 2 bs h) };
  spells = λ r fits. IsBytes-cons r.output (r.control ∷ little_bytes 2 r.timer) fits.output (IsBytes-cons r.control (little_bytes 2 r.timer) fits.control (IsBytes-little_2 r.timer));
}

-- LEDs

led_again : (r : LedRecord) (rest : List ℕ) → LedFits r → led_at (led_data r ++ rest) ≡ r
led_again r rest fits =
    ap (λ (t : ℕ). record r { timer = t }) (bytes_2 r.timer (r.permanent_control ∷ r.permanent_on_time ∷ r.permanent_off_time ∷ r.permanent_on_color ∷ r.permanent_off_color ∷ rest) fits.timer)

led_takes : (bs : List ℕ) → 14 ≤ length bs → IsBytes bs → bs ≡ led_data (led_at bs) ++ drop 14 bs
led_takes bs le h =
    let front = get_or bs 0 0 ∷ get_or bs 1 0 ∷ get_or bs 2 0 ∷ get_or bs 3 0 ∷ get_or bs 4 0 ∷ get_or bs 5 0 ∷ get_or bs 6 0 ∷ [] in
    let later = get_or bs 9 0 ∷ get_or bs 10 0 ∷ get_or bs 11 0 ∷ get_or bs 12 0 ∷ get_or bs 13 0 ∷ [] in
    cells 14 0 bs le ∙ ap (λ (timer : List ℕ). ((front ++ timer) ++ later) ++ drop 14 bs) (sym (number_2_at 7 bs h))

led_spells : (r : LedRecord) → LedFits r → IsBytes (led_data r)
led_spells r fits =
    let front = r.reader ∷ r.led ∷ r.temporary_control ∷ r.temporary_on_time ∷ r.temporary_off_time ∷ r.temporary_on_color ∷ r.temporary_off_color ∷ [] in
    let later = r.permanent_control ∷ r.permanent_on_time ∷ r.permanent_off_time ∷ r.permanent_on_color ∷ r.permanent_off_color ∷ [] in
    IsBytes-append (front ++ little_bytes 2 r.timer) later (IsBytes-append front (little_bytes 2 r.timer) fits.front (IsBytes-little_2 r.timer)) fits.later

pub leds : IsRecord 14 led_data LedFits led_at
leds = record {
  some = lit< tt;
  len = λ r. refl;
  again = led_again;
  takes = led_takes;
  fits = λ bs h. record { front = IsBytes-cells 0 7 bs h; timer = number_2_bound (drop 7 bs) (IsBytes-drop 7 bs h); later = IsBytes-cells 9 5 bs h };
  spells = led_spells;
}

-- buzzers

pub buzzer_takes : (bs : List ℕ) → length bs ≡ 5 → bs ≡ buzzer_data (buzzer_at bs)
buzzer_takes bs e = all_cells 5 bs e

pub buzzer_spells : (b : Buzzer) → BuzzerFits b → IsBytes (buzzer_data b)
buzzer_spells b fits = IsBytes-each (buzzer_data b) (fits.0, (fits.1, (fits.2, (fits.3, (fits.4, tt)))))

-- texts

pub text_takes : (bs : List ℕ) → 6 ≤ length bs → get_or bs 5 0 ≡ length bs - 6 → bs ≡ text_data (text_at bs)
text_takes bs le count =
    cells 6 0 bs le ∙ ap (λ (n : ℕ). get_or bs 0 0 ∷ get_or bs 1 0 ∷ get_or bs 2 0 ∷ get_or bs 3 0 ∷ get_or bs 4 0 ∷ n ∷ drop 6 bs) (count ∙ sym (length-drop 6 bs))

pub text_fits : (bs : List ℕ) → get_or bs 5 0 ≡ length bs - 6 → IsBytes bs → TextFits (text_at bs)
text_fits bs count h = record {
  numbers = IsBytes-cells 0 5 bs h;
  room = rw length-drop (omega (arith, h 5));
  characters = IsBytes-drop 6 bs h;
}

pub text_spells : (t : Text) → TextFits t → IsBytes (text_data t)
text_spells t fits =
    IsBytes-counted (t.reader ∷ t.command ∷ t.time ∷ t.row ∷ t.column ∷ []) t.characters.items (fits.numbers 0, (fits.numbers 1, (fits.numbers 2, (fits.numbers 3, (fits.numbers 4, tt))))) fits.room fits.characters

-- communication

pub communication_again : (c : Communication) → CommunicationFits c → communication_at (communication_data c) ≡ c
communication_again c fits = ap (λ (n : ℕ). record c { baud_rate = n }) (bytes_4 c.baud_rate [] fits.1)

pub communication_takes : (bs : List ℕ) → length bs ≡ 5 → IsBytes bs → bs ≡ communication_data (communication_at bs)
communication_takes bs e h = all_cells 5 bs e ∙ ap (λ (baud : List ℕ). get_or bs 0 0 ∷ baud) (sym (number_4_at 1 bs h))

pub communication_fits : (bs : List ℕ) → IsBytes bs → CommunicationFits (communication_at bs)
communication_fits bs h = (h 0, number_4_bound (drop 1 bs) (IsBytes-drop 1 bs h))

pub communication_spells : (c : Communication) → CommunicationFits c → IsBytes (communication_data c)
communication_spells c fits = IsBytes-cons c.address (little_bytes 4 c.baud_rate) fits.0 (IsBytes-little_4 c.baud_rate)

-- makers' messages

pub maker_again : (m : MakerMessage) → MakerFits m → maker_at (maker_data m) ≡ m
maker_again m fits =
    ap (λ (v : List ℕ). record { vendor = v; bytes = record { items = drop 3 (m.vendor ++ m.bytes.items) } }) (take_at m.vendor m.bytes.items 3 fits.vendor_length)
    ∙ ap (λ (b : List ℕ). record m { bytes = record { items = b } }) (drop_at m.vendor m.bytes.items 3 fits.vendor_length)

pub maker_takes : (bs : List ℕ) → bs ≡ maker_data (maker_at bs)
maker_takes bs = sym (take-append-drop 3 bs)

pub maker_fits : (bs : List ℕ) → 3 ≤ length bs → length bs ≤ 1432 → IsBytes bs → MakerFits (maker_at bs)
maker_fits bs some room h = record {
  vendor_length = rw length-take (omega arith);
  vendor = IsBytes-take 3 bs h;
  room = rw length-drop (omega arith);
  bytes = IsBytes-drop 3 bs h;
}

pub maker_spells : (m : MakerMessage) → MakerFits m → IsBytes (maker_data m)
maker_spells m fits = IsBytes-append m.vendor m.bytes.items fits.vendor fits.bytes

pub maker_length : (m : MakerMessage) → MakerFits m → length (maker_data m) ≡ 3 + length m.bytes.items
maker_length m fits = length-append m.vendor m.bytes.items ∙ ap (λ (k : ℕ). k + length m.bytes.items) fits.vendor_length
