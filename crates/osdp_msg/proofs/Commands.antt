-- The table of commands.
use Rattle.osdp_msg.proofs.Common.{◌≡◌, ◌<◌, ◌≤◌, ◌+◌, ◌*◌, ◌/◌, ◌%◌, lit<, lit≤, [], ◌∷◌, ◌&&◌, ℕ, true, eqb, leb, List, length, get_or, Option, Some, None, refl, ap, arith, All, flat_map, div-lt_iff_lt-mul, mul-le-mul_left, IsBytes, Command, MsgFault, LedFits, OutputFits, buzzer_at, communication_at, led_at, led_data, maker_at, maker_data, output_at, output_data, text_at, text_data, IsRecord, records_at, refusal}
use Rattle.std.proofs.lemmas.Nat.{le-div}
use Rattle.osdp_msg.specs.declared.command.Command.TheVariants.{Poll, Id, Cap, LocalStatus, InputStatus, OutputStatus, ReaderStatus, Output, Led, Buzzer, Text, Comset, Maker}
use Rattle.osdp_msg.specs.CommandTable.{CommandFits, IsCommand, command_at, command_code, command_counts_agree, command_data, command_fault, command_length_allowed}
use Rattle.osdp_msg.proofs.Bytes.{all_cells}
use Rattle.osdp_msg.proofs.CommandRows.{buzzer_takes, communication_again, communication_fits, communication_takes, leds, maker_again, maker_fits, maker_length, maker_takes, outputs, text_fits, text_takes}
use Rattle.osdp_msg.proofs.RecordLists.{length-flat_map_size, length-records_from, records_again, records_fit, records_take}
use Rattle.osdp_msg.proofs.Table.{IsTable, Takes, are_records, at_least, by_codes, counted, exactly, multiple_allowed, no_data, passed, passed_count, passed_least, table_of, unknown_faults}

-- ---- records of one size: one at least, and no more than there is room for

module _ {R : Type 0} (size most : ℕ) (spelled : R → List ℕ) (Fits : R → Type 0) (first : List ℕ → R) (kind : IsRecord size spelled Fits first) where
  abbrev AreSome : List R → Type 0
  AreSome rs = (0 < length rs) × (length rs ≤ most) × All Fits rs

  abbrev records_fault : List ℕ → Option MsgFault
  records_fault bytes = refusal (Some (leb size (length bytes) && eqb (length bytes % size) 0)) (length bytes) true

  records_well : (rs : List R) → size * most ≤ 1432 → AreSome rs → records_fault (flat_map spelled rs) ≡ None
  records_well rs room fits =
      let len = length-flat_map_size spelled size kind.len rs in
      let few : size * length rs ≤ size * most = mul-le-mul_left size fits.1 in
      passed _ true _ (multiple_allowed size (length rs) (length (flat_map spelled rs)) fits.0 kind.some len) (omega (arith, len, few, room)) refl

  records_read : (bytes : List ℕ) → 1432 < size * (most + 1) → IsBytes bytes → records_fault bytes ≡ None
      → (bytes ≡ flat_map spelled (records_at first size bytes)) × AreSome (records_at first size bytes)
  records_read bytes room h well =
      let p = are_records size bytes well in
      let n = length-records_from first size (length bytes / size) bytes in
      let some : 1 ≤ length bytes / size = le-div 1 (length bytes) size kind.some (omega (arith, p.some)) in
      let few : length bytes / size < most + 1 = (div-lt_iff_lt-mul {k = size} {x = length bytes} {y = most + 1} kind.some).1 (omega (arith, p.room, room)) in
      (records_take size spelled Fits first kind bytes p.whole h, (omega (arith, n, some), omega (arith, n, few), records_fit size spelled Fits first kind bytes h))

-- ---- what has been written is read

command_well : (m : Command) → CommandFits m → command_fault (command_code m) (command_data m) ≡ None
unfolding command_fault
command_well (Output rs) fits = records_well 4 358 output_data OutputFits output_at outputs rs (lit≤ tt) fits
command_well (Led rs) fits = records_well 14 102 led_data LedFits led_at leds rs (lit≤ tt) fits
command_well (Text t) fits = passed_count 6 (length (text_data t)) (length t.characters.items) (omega arith) (omega (arith, fits.room))
command_well (Maker m) fits = passed_least 3 (length (maker_data m)) (omega (arith, maker_length m fits)) (omega (arith, maker_length m fits, fits.room))
command_well _ fits = refl

command_again : (m : Command) → CommandFits m → command_at (command_code m) (command_data m) ≡ m
unfolding command_at
command_again (Output rs) fits = ap Output (records_again 4 output_data OutputFits output_at outputs rs fits.2)
command_again (Led rs) fits = ap Led (records_again 14 led_data LedFits led_at leds rs fits.2)
command_again (Comset c) fits = ap Comset (communication_again c fits)
command_again (Maker m) fits = ap Maker (maker_again m fits)
command_again _ fits = refl

-- ---- what is read has been written

-- data that have been read
taken : (bytes : List ℕ) (m : Command) → (bytes ≡ command_data m) × CommandFits m → IsCommand (command_code m) bytes m
taken bytes m is = record { code_is = refl; data_is = is.0; fits = is.1 }

takes_text : Takes IsCommand command_fault command_at 0x6B
unfolding command_fault command_at
takes_text bytes h well =
    let p = counted 6 (length bytes) (get_or bytes 5 0) well in
    taken bytes (Text (text_at bytes)) (text_takes bytes p.0 p.1, text_fits bytes p.1 h)

takes_maker : Takes IsCommand command_fault command_at 0x80
unfolding command_fault command_at
takes_maker bytes h well =
    let p = at_least 3 (length bytes) true well in
    taken bytes (Maker (maker_at bytes)) (maker_takes bytes, maker_fits bytes p.0 p.1 h)

command_takes : (code : ℕ) → Takes IsCommand command_fault command_at code
unfolding command_fault command_at
command_takes code =
    by_codes (Takes IsCommand command_fault command_at) code (0x60 ∷ 0x61 ∷ 0x62 ∷ 0x64 ∷ 0x65 ∷ 0x66 ∷ 0x67 ∷ 0x68 ∷ 0x69 ∷ 0x6A ∷ 0x6B ∷ 0x6E ∷ 0x80 ∷ []) (
      λ bytes h well. taken bytes Poll (no_data bytes true well, tt),
      (
        λ bytes h well. taken bytes (Id (get_or bytes 0 0)) (all_cells 1 bytes (exactly (length bytes) 1 true well).0, h 0),
        (
          λ bytes h well. taken bytes (Cap (get_or bytes 0 0)) (all_cells 1 bytes (exactly (length bytes) 1 true well).0, h 0),
          (
            λ bytes h well. taken bytes LocalStatus (no_data bytes true well, tt),
            (
              λ bytes h well. taken bytes InputStatus (no_data bytes true well, tt),
              (
                λ bytes h well. taken bytes OutputStatus (no_data bytes true well, tt),
                (
                  λ bytes h well. taken bytes ReaderStatus (no_data bytes true well, tt),
                  (
                    λ bytes h well. taken bytes (Output (records_at output_at 4 bytes)) (records_read 4 358 output_data OutputFits output_at outputs bytes (lit< tt) h well),
                    (
                      λ bytes h well. taken bytes (Led (records_at led_at 14 bytes)) (records_read 14 102 led_data LedFits led_at leds bytes (lit< tt) h well),
                      (
                        λ bytes h well. taken bytes (Buzzer (buzzer_at bytes)) (buzzer_takes bytes (exactly (length bytes) 5 true well).0, (h 0, h 1, h 2, h 3, h 4)),
                        (
                          takes_text,
                          (
                            λ bytes h well. taken bytes (Comset (communication_at bytes)) (communication_takes bytes (exactly (length bytes) 5 true well).0 h, communication_fits bytes h),
                            (takes_maker, tt),
                          ),
                        ),
                      ),
                    ),
                  ),
                ),
              ),
            ),
          ),
        ),
      ),
    )
    λ n0 n1 n2 n4 n5 n6 n7 n8 n9 nA nB nE nF bytes h well.
    let unknown : command_length_allowed code (length bytes) ≡ None = rw (n0, n1, n2, n4, n5, n6, n7, n8, n9, nA, nB, nE, nF) refl in
    absurd (unknown_faults (command_length_allowed code (length bytes)) (length bytes) (command_counts_agree code bytes) unknown well)

pub commands : IsTable IsCommand command_fault command_at
commands = table_of command_fault command_at command_code command_data CommandFits command_takes command_well command_again
