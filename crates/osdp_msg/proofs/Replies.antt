-- The table of replies.
use Rattle.osdp_msg.proofs.Common.{◌≡◌, ◌+◌, ◌*◌, ◌/◌, ◌%◌, ◌++◌, ℕ, true, eqb, List, [], ◌∷◌, length, get_or, drop, Some, None, refl, sym, ap, ◌∙◌, arith, flat_map, eq-eqb, mul-mod_right, little_bytes, little_number, IsBytes, Reply, communication_at, maker_at, maker_data, records_at, refusal, CapabilityFits, capability_at, capability_data, formatted_at, formatted_data, keypad_at, keypad_data, local_state_at, nak_at, nak_data, pd_id_at, raw_at, raw_data}
use Rattle.osdp_msg.specs.declared.capability.Capability.{Capability}
use Rattle.osdp_msg.specs.declared.reply.Reply.TheVariants.{Ack, Nak, PdId, PdCap, LocalState, Inputs, Outputs, Readers, Raw, Formatted, Keypad, Com, Busy, MakerReply}
use Rattle.osdp_msg.specs.ReplyTable.{IsReply, ReplyFits, StatesFit, reply_at, reply_code, reply_counts_agree, reply_data, reply_fault, reply_length_allowed}
use Rattle.osdp_msg.proofs.Bytes.{bytes_2}
use Rattle.osdp_msg.proofs.CommandRows.{communication_again, communication_fits, communication_takes, maker_again, maker_fits, maker_length, maker_takes}
use Rattle.osdp_msg.proofs.RecordLists.{length-flat_map_size, length-records_from, records_again, records_fit, records_take}
use Rattle.osdp_msg.proofs.ReplyRows.{capabilities, formatted_fits, formatted_takes, keypad_fits, keypad_takes, local_state_takes, nak_again, nak_fits, nak_takes, pd_id_again, pd_id_fits, pd_id_length, pd_id_takes, raw_again, raw_fits, raw_takes}
use Rattle.osdp_msg.proofs.Table.{IsTable, Takes, any_length, at_least, by_codes, counted, exactly, multiple, no_data, passed, passed_count, passed_least, table_of, unknown_faults}

-- ---- what has been written is read

reply_well : (m : Reply) → ReplyFits m → reply_fault (reply_code m) (reply_data m) ≡ None
unfolding reply_fault
reply_well (Nak n) fits = passed_least 1 (length (nak_data n)) (omega arith) (omega (arith, fits.room))
reply_well (PdId p) fits =
    let len = length (reply_data (PdId p)) in
    let twelve : len ≡ 12 = pd_id_length p fits in
    passed (eqb len 12) true len (eq-eqb len 12 twelve) (omega (arith, twelve)) refl
reply_well (PdCap p) fits =
    let rs = p.capabilities.items in
    let len = length (flat_map capability_data rs) in
    let size : len ≡ 3 * length rs = length-flat_map_size capability_data 3 capabilities.len rs in
    let whole : len % 3 ≡ 0 = ap (λ (k : ℕ). k % 3) size ∙ mul-mod_right 3 (length rs) in
    passed (eqb (len % 3) 0) true len (eq-eqb (len % 3) 0 whole) (omega (arith, size, fits.0)) refl
reply_well (Inputs states) fits = passed true true (length states.items) refl fits.room refl
reply_well (Outputs states) fits = passed true true (length states.items) refl fits.room refl
reply_well (Readers states) fits = passed true true (length states.items) refl fits.room refl
reply_well (Raw r) fits =
    let bits : little_number 2 (little_bytes 2 r.bits ++ r.bytes) ≡ r.bits = bytes_2 r.bits r.bytes fits.bits in
    let needed : (little_number 2 (little_bytes 2 r.bits ++ r.bytes) + 7) / 8 ≡ length r.bytes = ap (λ (k : ℕ). (k + 7) / 8) bits ∙ sym fits.needed in
    passed_count 4 (length (raw_data r)) ((little_number 2 (drop 2 (raw_data r)) + 7) / 8) (omega (arith, needed)) (omega (arith, fits.room))
reply_well (Formatted f) fits = passed_count 3 (length (formatted_data f)) (length f.digits.items) (omega arith) (omega (arith, fits.room))
reply_well (Keypad k) fits = passed_count 2 (length (keypad_data k)) (length k.digits.items) (omega arith) (omega (arith, fits.room))
reply_well (MakerReply m) fits = passed_least 3 (length (maker_data m)) (omega (arith, maker_length m fits)) (omega (arith, maker_length m fits, fits.room))
reply_well _ fits = refl

reply_again : (m : Reply) → ReplyFits m → reply_at (reply_code m) (reply_data m) ≡ m
unfolding reply_at
reply_again (Nak n) fits = ap Nak (nak_again n fits)
reply_again (PdId p) fits = ap PdId (pd_id_again p fits)
reply_again (PdCap p) fits =
    ap (λ (rs : List Capability). PdCap (record { capabilities = record { items = rs } })) (records_again 3 capability_data CapabilityFits capability_at capabilities p.capabilities.items fits.1)
reply_again (Raw r) fits = ap Raw (raw_again r fits)
reply_again (Com c) fits = ap Com (communication_again c fits)
reply_again (MakerReply m) fits = ap MakerReply (maker_again m fits)
reply_again _ fits = refl

-- ---- what is read has been written

-- data without a fault pass by the row of their code
pub row_passes : (code k : ℕ) (bytes : List ℕ) → code ≡ k → reply_fault code bytes ≡ None
    → refusal (reply_length_allowed k (length bytes)) (length bytes) (reply_counts_agree k bytes) ≡ None
unfolding reply_fault
row_passes code k bytes is none = rw is at none

-- data that have been read
taken : (bytes : List ℕ) (m : Reply) → bytes ≡ reply_data m → ReplyFits m → IsReply (reply_code m) bytes m
taken bytes m spelled fits = record { code_is = refl; data_is = spelled; fits = fits }

-- one byte for each input, output or reader
takes_states : (bytes : List ℕ) → IsBytes bytes → refusal (Some true) (length bytes) true ≡ None → StatesFit bytes
takes_states bytes h well = record { room = any_length (length bytes) true well; bytes = h }

takes_pd_cap : Takes IsReply reply_fault reply_at 0x46
unfolding reply_fault reply_at
takes_pd_cap bytes h well =
    let p = multiple 3 (length bytes) true well in
    let n = length-records_from capability_at 3 (length bytes / 3) bytes in
    taken bytes (PdCap (record { capabilities = record { items = records_at capability_at 3 bytes } }))
    (records_take 3 capability_data CapabilityFits capability_at capabilities bytes p.0 h)
    (omega (arith, n, p.1), records_fit 3 capability_data CapabilityFits capability_at capabilities bytes h)

takes_raw : Takes IsReply reply_fault reply_at 0x50
unfolding reply_fault reply_at
takes_raw bytes h well =
    let p = counted 4 (length bytes) ((little_number 2 (drop 2 bytes) + 7) / 8) well in
    taken bytes (Raw (raw_at bytes)) (raw_takes bytes p.0 h) (raw_fits bytes p.0 p.2 p.1 h)

takes_formatted : Takes IsReply reply_fault reply_at 0x51
unfolding reply_fault reply_at
takes_formatted bytes h well =
    let p = counted 3 (length bytes) (get_or bytes 2 0) well in
    taken bytes (Formatted (formatted_at bytes)) (formatted_takes bytes p.0 p.1) (formatted_fits bytes p.1 h)

reply_takes : (code : ℕ) → Takes IsReply reply_fault reply_at code
unfolding reply_fault reply_at
reply_takes code =
    by_codes (Takes IsReply reply_fault reply_at) code (0x40 ∷ 0x41 ∷ 0x45 ∷ 0x46 ∷ 0x48 ∷ 0x49 ∷ 0x4A ∷ 0x4B ∷ 0x50 ∷ 0x51 ∷ 0x53 ∷ 0x54 ∷ 0x79 ∷ 0x90 ∷ []) (
      λ bytes h well. taken bytes Ack (no_data bytes true well) tt,
      (
        λ bytes h well. let p = at_least 1 (length bytes) true well in taken bytes (Nak (nak_at bytes)) (nak_takes bytes p.0) (nak_fits bytes p.0 p.1 h),
        (
          λ bytes h well. let p = exactly (length bytes) 12 true well in taken bytes (PdId (pd_id_at bytes)) (pd_id_takes bytes p.0 h) (pd_id_fits bytes p.0 h),
          (
            takes_pd_cap,
            (
              λ bytes h well. taken bytes (LocalState (local_state_at bytes)) (local_state_takes bytes (exactly (length bytes) 2 true well).0) (h 0, h 1),
              (
                λ bytes h well. taken bytes (Inputs (record { items = bytes })) refl (takes_states bytes h well),
                (
                  λ bytes h well. taken bytes (Outputs (record { items = bytes })) refl (takes_states bytes h well),
                  (
                    λ bytes h well. taken bytes (Readers (record { items = bytes })) refl (takes_states bytes h well),
                    (
                      takes_raw,
                      (
                        takes_formatted,
                        (
                          λ bytes h well. let p = counted 2 (length bytes) (get_or bytes 1 0) well in taken bytes (Keypad (keypad_at bytes)) (keypad_takes bytes p.0 p.1) (keypad_fits bytes p.1 h),
                          (
                            λ bytes h well. taken bytes (Com (communication_at bytes)) (communication_takes bytes (exactly (length bytes) 5 true well).0 h) (communication_fits bytes h),
                            (
                              λ bytes h well. taken bytes Busy (no_data bytes true well) tt,
                              (λ bytes h well. let p = at_least 3 (length bytes) true well in taken bytes (MakerReply (maker_at bytes)) (maker_takes bytes) (maker_fits bytes p.0 p.1 h), tt),
                            ),
                          ),
                        ),
                      ),
                    ),
                  ),
                ),
              ),
            ),
          ),
        ),
      ),
    )
    λ n0 n1 n2 n3 n4 n5 n6 n7 n8 n9 nA nB nC nD bytes h well.
    let unknown : reply_length_allowed code (length bytes) ≡ None = rw (n0, n1, n2, n3, n4, n5, n6, n7, n8, n9, nA, nB, nC, nD) refl in
    absurd (unknown_faults (reply_length_allowed code (length bytes)) (length bytes) (reply_counts_agree code bytes) unknown well)

pub replies : IsTable IsReply reply_fault reply_at
replies = table_of reply_fault reply_at reply_code reply_data ReplyFits reply_takes reply_well reply_again
