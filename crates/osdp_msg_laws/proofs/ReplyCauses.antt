-- Each code of the table of replies is that of some reply.
use Rattle.osdp_msg_laws.proofs.Common.{◌≡◌, ◌+◌, ◌/◌, lit<, lit≤, refl, inl, inr, arith, ℕ, List, [], ◌∷◌, drop, length, None, slice_index, eqb-false, leb-true, All-nil, little_number, Reply, Ack, Nak, PdId, PdCap, LocalState, Inputs, Outputs, Readers, Raw, Formatted, Keypad, Com, Busy, MakerReply, CapabilityFits, IsBytes-each, IsBytes-nil, replies, by_codes, some_is, FaultsHaveCauses, ReplyCounts}
use Rattle.osdp_msg.specs.declared.nak.NakReason.TheVariants.{CheckCharacters}
use Rattle.osdp_msg.specs.ReplyTable.{IsReply, ReplyFits, StatesFit, reply_code, reply_counts_agree, reply_data, reply_fault, reply_length_allowed}
use Rattle.osdp_msg_laws.proofs.CommandCauses.{no_message, no_message_fits}
use Rattle.osdp_msg_laws.proofs.Causes.{IsNoneOrKnown, Miscounts, counted, faults_have_causes, never_agree}

known : (m : Reply) → ReplyFits m → ((len : ℕ) → reply_length_allowed (reply_code m) len ≡ None → ⊥)
    → IsNoneOrKnown IsReply reply_length_allowed (reply_code m)
known m fits some = inr ((reply_data m, (m, record { code_is = refl; data_is = refl; fits = fits })), some)

no_states : StatesFit []
no_states = record { room = lit≤ tt; bytes = IsBytes-nil }

knows_pd_id : IsNoneOrKnown IsReply reply_length_allowed 0x45
knows_pd_id =
    known (PdId (record { vendor = 0 ∷ 0 ∷ 0 ∷ []; model = 0; version = 0; serial = 0; firmware_major = 0; firmware_minor = 0; firmware_build = 0 }))
    (record {
      vendor_length = refl;
      vendor = IsBytes-each (0 ∷ 0 ∷ 0 ∷ []) (lit< tt, (lit< tt, (lit< tt, tt)));
      model = lit< tt;
      version = lit< tt;
      serial = lit< tt;
      firmware_major = lit< tt;
      firmware_minor = lit< tt;
      firmware_build = lit< tt;
    })
    (λ len e. (cc))

knows_raw : IsNoneOrKnown IsReply reply_length_allowed 0x50
knows_raw =
    known (Raw (record { reader = 0; format = 0; bits = 0; bytes = [] }))
    (record { reader = lit< tt; format = lit< tt; bits = lit< tt; needed = refl; room = lit≤ tt; bytes = IsBytes-nil })
    (λ len e. (cc))

knows_formatted : IsNoneOrKnown IsReply reply_length_allowed 0x51
knows_formatted =
    known (Formatted (record { reader = 0; direction = 0; digits = record { items = [] } }))
    (record { reader = lit< tt; direction = lit< tt; room = lit≤ tt; digits = IsBytes-nil })
    (λ len e. (cc))

knows_keypad : IsNoneOrKnown IsReply reply_length_allowed 0x53
knows_keypad =
    known (Keypad (record { reader = 0; digits = record { items = [] } })) (record { reader = lit< tt; room = lit≤ tt; digits = IsBytes-nil })
    (λ len e. (cc))

codes : (code : ℕ) → IsNoneOrKnown IsReply reply_length_allowed code
codes code =
    by_codes (IsNoneOrKnown IsReply reply_length_allowed) code (0x40 ∷ 0x41 ∷ 0x45 ∷ 0x46 ∷ 0x48 ∷ 0x49 ∷ 0x4A ∷ 0x4B ∷ 0x50 ∷ 0x51 ∷ 0x53 ∷ 0x54 ∷ 0x79 ∷ 0x90 ∷ []) (
      known Ack tt (λ len e. (cc)),
      (
        known (Nak (record { reason = CheckCharacters; detail = record { items = [] } })) (record { reason = tt; room = lit≤ tt; detail = IsBytes-nil }) (λ len e. (cc)),
        (
          knows_pd_id,
          (
            known (PdCap (record { capabilities = record { items = [] } })) (lit≤ tt, All-nil CapabilityFits) (λ len e. (cc)),
            (
              known (LocalState (record { tamper = 0; power = 0 })) (lit< tt, lit< tt) (λ len e. (cc)),
              (
                known (Inputs (record { items = [] })) no_states (λ len e. (cc)),
                (
                  known (Outputs (record { items = [] })) no_states (λ len e. (cc)),
                  (
                    known (Readers (record { items = [] })) no_states (λ len e. (cc)),
                    (
                      knows_raw,
                      (
                        knows_formatted,
                        (knows_keypad, (known (Com (record { address = 0; baud_rate = 0 })) (lit< tt, lit< tt) (λ len e. (cc)), (known Busy tt (λ len e. (cc)), (known (MakerReply no_message) no_message_fits (λ len e. (cc)), tt)))),
                      ),
                    ),
                  ),
                ),
              ),
            ),
          ),
        ),
      ),
    )
    λ n0 n1 n2 n3 n4 n5 n6 n7 n8 n9 nA nB nC nD. inl (λ len. rw (n0, n1, n2, n3, n4, n5, n6, n7, n8, n9, nA, nB, nC, nD) refl)

-- which of the three counts a code has
is_raw : (bytes : List ℕ) (total : ℕ) → ReplyCounts 0x50 bytes total → total ≡ 4 + (little_number 2 (drop 2 bytes) + 7) / 8
is_raw bytes total is = elim is [ inl raw ↦ raw.1 | inr others ↦ elim others [ inl f ↦ omega (arith, f.0) | inr k ↦ omega (arith, k.0) ] ]

is_formatted : (bytes : List ℕ) (total : ℕ) → ReplyCounts 0x51 bytes total → total ≡ 3 + slice_index bytes 2
is_formatted bytes total is = elim is [ inl r ↦ omega (arith, r.0) | inr others ↦ elim others [ inl formatted ↦ formatted.1 | inr k ↦ omega (arith, k.0) ] ]

is_keypad : (bytes : List ℕ) (total : ℕ) → ReplyCounts 0x53 bytes total → total ≡ 2 + slice_index bytes 1
is_keypad bytes total is = elim is [ inl r ↦ omega (arith, r.0) | inr others ↦ elim others [ inl f ↦ omega (arith, f.0) | inr keypad ↦ keypad.1 ] ]

counts_raw : Miscounts reply_length_allowed reply_counts_agree ReplyCounts 0x50
counts_raw bytes may =
    counted ReplyCounts 0x50 4 ((little_number 2 (drop 2 bytes) + 7) / 8) bytes (leb-true 4 (length bytes) (some_is _ _ may))
    λ total. (is_raw bytes total, λ e. inl (refl, e))

counts_formatted : Miscounts reply_length_allowed reply_counts_agree ReplyCounts 0x51
counts_formatted bytes may =
    counted ReplyCounts 0x51 3 (slice_index bytes 2) bytes (leb-true 3 (length bytes) (some_is _ _ may))
    λ total. (is_formatted bytes total, λ e. inr (inl (refl, e)))

counts_keypad : Miscounts reply_length_allowed reply_counts_agree ReplyCounts 0x53
counts_keypad bytes may =
    counted ReplyCounts 0x53 2 (slice_index bytes 1) bytes (leb-true 2 (length bytes) (some_is _ _ may))
    λ total. (is_keypad bytes total, λ e. inr (inr (refl, e)))

counts : (code : ℕ) → Miscounts reply_length_allowed reply_counts_agree ReplyCounts code
counts code =
    by_codes (Miscounts reply_length_allowed reply_counts_agree ReplyCounts) code (0x50 ∷ 0x51 ∷ 0x53 ∷ []) (counts_raw, (counts_formatted, (counts_keypad, tt)))
    λ n0 n1 n2 bytes may. (
      λ e. absurd (never_agree (reply_counts_agree code bytes) (rw (n0, n1, n2) refl) e),
      λ wrong. absurd (elim wrong.1.0 [
        | inl raw ↦ eqb-false code 0x50 n0 raw.0
        | inr others ↦ elim others [ inl formatted ↦ eqb-false code 0x51 n1 formatted.0 | inr keypad ↦ eqb-false code 0x53 n2 keypad.0 ]
      ]),
    )

pub reply_causes : FaultsHaveCauses IsReply reply_length_allowed ReplyCounts reply_fault
unfolding reply_fault
reply_causes = faults_have_causes reply_length_allowed reply_counts_agree ReplyCounts replies codes counts
