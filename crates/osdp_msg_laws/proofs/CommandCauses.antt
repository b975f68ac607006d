-- Each code of the table of commands is that of some command.
use Rattle.osdp_msg_laws.proofs.Common.{◌≡◌, lit<, lit≤, refl, inl, inr, ℕ, [], ◌∷◌, length, None, slice_index, eqb-false, leb-true, All-cons, All-nil, Command, Poll, Id, Cap, LocalStatus, InputStatus, OutputStatus, ReaderStatus, Output, Led, Buzzer, Text, Comset, Maker, MakerMessage, LedFits, MakerFits, OutputFits, led_at, output_at, IsBytes-each, IsBytes-nil, leds, outputs, commands, by_codes, some_is, CommandCounts, FaultsHaveCauses}
use Rattle.osdp_msg.specs.CommandTable.{CommandFits, IsCommand, command_code, command_counts_agree, command_data, command_fault, command_length_allowed}
use Rattle.osdp_msg_laws.proofs.Causes.{IsNoneOrKnown, Miscounts, counted, faults_have_causes, never_agree}

known : (m : Command) → CommandFits m → ((len : ℕ) → command_length_allowed (command_code m) len ≡ None → ⊥)
    → IsNoneOrKnown IsCommand command_length_allowed (command_code m)
known m fits some = inr ((command_data m, (m, record { code_is = refl; data_is = refl; fits = fits })), some)

-- records that are read of nothing, all zeros
no_output : OutputFits (output_at [])
no_output = outputs.fits [] IsBytes-nil

no_led : LedFits (led_at [])
no_led = leds.fits [] IsBytes-nil

knows_text : IsNoneOrKnown IsCommand command_length_allowed 0x6B
knows_text =
    known (Text (record { reader = 0; command = 0; time = 0; row = 0; column = 0; characters = record { items = [] } }))
    (record { numbers = IsBytes-each (0 ∷ 0 ∷ 0 ∷ 0 ∷ 0 ∷ []) (lit< tt, (lit< tt, (lit< tt, (lit< tt, (lit< tt, tt))))); room = lit≤ tt; characters = IsBytes-nil })
    (λ len e. (cc))

-- a maker's message without bytes
abbrev pub no_message : MakerMessage
no_message = record { vendor = 0 ∷ 0 ∷ 0 ∷ []; bytes = record { items = [] } }

pub no_message_fits : MakerFits no_message
no_message_fits = record { vendor_length = refl; vendor = IsBytes-each (0 ∷ 0 ∷ 0 ∷ []) (lit< tt, (lit< tt, (lit< tt, tt))); room = lit≤ tt; bytes = IsBytes-nil }

codes : (code : ℕ) → IsNoneOrKnown IsCommand command_length_allowed code
codes code =
    by_codes (IsNoneOrKnown IsCommand command_length_allowed) code (0x60 ∷ 0x61 ∷ 0x62 ∷ 0x64 ∷ 0x65 ∷ 0x66 ∷ 0x67 ∷ 0x68 ∷ 0x69 ∷ 0x6A ∷ 0x6B ∷ 0x6E ∷ 0x80 ∷ []) (
      known Poll tt (λ len e. (cc)),
      (
        known (Id 0) (lit< tt) (λ len e. (cc)),
        (
          known (Cap 0) (lit< tt) (λ len e. (cc)),
          (
            known LocalStatus tt (λ len e. (cc)),
            (
              known InputStatus tt (λ len e. (cc)),
              (
                known OutputStatus tt (λ len e. (cc)),
                (
                  known ReaderStatus tt (λ len e. (cc)),
                  (
                    known (Output (output_at [] ∷ [])) (lit< tt, lit≤ tt, All-cons OutputFits (output_at []) [] no_output (All-nil OutputFits)) (λ len e. (cc)),
                    (
                      known (Led (led_at [] ∷ [])) (lit< tt, lit≤ tt, All-cons LedFits (led_at []) [] no_led (All-nil LedFits)) (λ len e. (cc)),
                      (
                        known (Buzzer (record { reader = 0; tone = 0; on_time = 0; off_time = 0; count = 0 })) (lit< tt, lit< tt, lit< tt, lit< tt, lit< tt) (λ len e. (cc)),
                        (knows_text, (known (Comset (record { address = 0; baud_rate = 0 })) (lit< tt, lit< tt) (λ len e. (cc)), (known (Maker no_message) no_message_fits (λ len e. (cc)), tt))),
                      ),
                    ),
                  ),
                ),
              ),
            ),
          ),
        ),
      ),
    )
    λ n0 n1 n2 n3 n4 n5 n6 n7 n8 n9 nA nB nC. inl (λ len. rw (n0, n1, n2, n3, n4, n5, n6, n7, n8, n9, nA, nB, nC) refl)

counts_text : Miscounts command_length_allowed command_counts_agree CommandCounts 0x6B
counts_text bytes may =
    counted CommandCounts 0x6B 6 (slice_index bytes 5) bytes (leb-true 6 (length bytes) (some_is _ _ may)) λ total. (λ is. is.1, λ e. (refl, e))

counts : (code : ℕ) → Miscounts command_length_allowed command_counts_agree CommandCounts code
counts code =
    by_codes (Miscounts command_length_allowed command_counts_agree CommandCounts) code (0x6B ∷ []) (counts_text, tt)
    λ n0 bytes may. (
      λ e. absurd (never_agree (command_counts_agree code bytes) (rw n0 refl) e),
      λ wrong. absurd (eqb-false code 0x6B n0 wrong.1.0.0),
    )

pub command_causes : FaultsHaveCauses IsCommand command_length_allowed CommandCounts command_fault
unfolding command_fault
command_causes = faults_have_causes command_length_allowed command_counts_agree CommandCounts commands codes counts
