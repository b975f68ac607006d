-- The records of texts, made of the numbers of their words.
use Rattle.osdp_msg.proofs.Common.{◌<◌, ◌≤◌, ◌+◌, ℕ, List, [], ◌∷◌, length, get_or, lit<, refl, sym, ap, arith, AreWithin, numbers, LedRecord, LedFits, OutputFits, led_at, led_word, output_word, CapabilityFits, capability_at, capability_data, capability_word}
use Rattle.osdp_msg.specs.declared.outputs.OutputRecord.{OutputRecord}
use Rattle.osdp_msg.proofs.Bytes.{IsBytes-each, all_cells, cells_from}
use Rattle.osdp_msg.proofs.RecordTexts.{IsMadeOfWord, within_at, within_length}

-- a number that is within its limit
below : (limits ns : List ℕ) (i : ℕ) → AreWithin limits ns → i < length limits → get_or ns i 0 < get_or limits i 0 + 1
below limits ns i h lt = omega (arith, within_at limits ns i h lt)

abbrev pub output_limits : List ℕ
output_limits = 255 ∷ 255 ∷ 65535 ∷ []

abbrev pub output_from : List ℕ → OutputRecord
output_from ns = record { output = get_or ns 0 0; control = get_or ns 1 0; timer = get_or ns 2 0 }

abbrev pub output_numbers : OutputRecord → List ℕ
output_numbers r = r.output ∷ r.control ∷ r.timer ∷ []

pub output_made : IsMadeOfWord numbers (AreWithin output_limits) output_word OutputFits output_from output_numbers
output_made = record {
  back = λ r fits. refl;
  parts_allowed = λ r fits. let o = fits.output in let k = fits.control in let t = fits.timer in (omega arith, (omega arith, (omega arith, tt)));
  parts_word = λ r fits. refl;
  fits = λ ns h. record { output = below output_limits ns 0 h (lit< tt); control = below output_limits ns 1 h (lit< tt); timer = below output_limits ns 2 h (lit< tt) };
  same_word = λ ns h. ap numbers (sym (all_cells 3 ns (within_length output_limits ns h)));
}

abbrev pub capability_limits : List ℕ
capability_limits = 255 ∷ 255 ∷ 255 ∷ []

pub capability_made : IsMadeOfWord numbers (AreWithin capability_limits) capability_word CapabilityFits capability_at capability_data
capability_made = record {
  back = λ r fits. refl;
  parts_allowed = λ r fits. let o = fits.0 in let k = fits.1 in let t = fits.2 in (omega arith, (omega arith, (omega arith, tt)));
  parts_word = λ r fits. refl;
  fits = λ ns h. (
    below capability_limits ns 0 h (lit< tt),
    below capability_limits ns 1 h (lit< tt),
    below capability_limits ns 2 h (lit< tt),
  );
  same_word = λ ns h. ap numbers (sym (all_cells 3 ns (within_length capability_limits ns h)));
}

abbrev pub led_limits : List ℕ
led_limits = 255 ∷ 255 ∷ 255 ∷ 255 ∷ 255 ∷ 255 ∷ 255 ∷ 65535 ∷ 255 ∷ 255 ∷ 255 ∷ 255 ∷ 255 ∷ []

-- the numbers before the timer stand where they stand in the bytes
abbrev pub led_from : List ℕ → LedRecord
led_from ns = record (led_at ns) {
  timer = get_or ns 7 0;
  permanent_control = get_or ns 8 0;
  permanent_on_time = get_or ns 9 0;
  permanent_off_time = get_or ns 10 0;
  permanent_on_color = get_or ns 11 0;
  permanent_off_color = get_or ns 12 0;
}

abbrev pub led_numbers : LedRecord → List ℕ
led_numbers r =
    r.reader ∷ r.led ∷ r.temporary_control ∷ r.temporary_on_time ∷ r.temporary_off_time ∷ r.temporary_on_color ∷ r.temporary_off_color ∷ r.timer ∷ r.permanent_control ∷ r.permanent_on_time ∷ r.permanent_off_time ∷ r.permanent_on_color ∷ r.permanent_off_color ∷ []

within : (n limit : ℕ) → n < limit + 1 → n ≤ limit
within n limit h = omega arith

led_allowed : (r : LedRecord) → LedFits r → AreWithin led_limits (led_numbers r)
led_allowed r fits = (
  within r.reader 255 (fits.front 0),
  (within r.led 255 (fits.front 1), (within r.temporary_control 255 (fits.front 2), (within r.temporary_on_time 255 (fits.front 3), (within r.temporary_off_time 255 (fits.front 4), (within r.temporary_on_color 255 (fits.front 5), (within r.temporary_off_color 255 (fits.front 6), (within r.timer 65535 fits.timer, (within r.permanent_control 255 (fits.later 0), (within r.permanent_on_time 255 (fits.later 1), (within r.permanent_off_time 255 (fits.later 2), (within r.permanent_on_color 255 (fits.later 3), (within r.permanent_off_color 255 (fits.later 4), tt)))))))))))),
)

led_within : (ns : List ℕ) → AreWithin led_limits ns → LedFits (led_from ns)
led_within ns h =
    let at = below led_limits ns in
    record {
      front = IsBytes-each (cells_from 0 7 ns) (at 0 h (lit< tt), (at 1 h (lit< tt), (at 2 h (lit< tt), (at 3 h (lit< tt), (at 4 h (lit< tt), (at 5 h (lit< tt), (at 6 h (lit< tt), tt)))))));
      timer = at 7 h (lit< tt);
      later = IsBytes-each (cells_from 8 5 ns) (at 8 h (lit< tt), (at 9 h (lit< tt), (at 10 h (lit< tt), (at 11 h (lit< tt), (at 12 h (lit< tt), tt)))));
    }

pub led_made : IsMadeOfWord numbers (AreWithin led_limits) led_word LedFits led_from led_numbers
led_made = record {
  back = λ r fits. refl;
  parts_allowed = led_allowed;
  parts_word = λ r fits. refl;
  fits = led_within;
  same_word = λ ns h. ap numbers (sym (all_cells 13 ns (within_length led_limits ns h)));
}
