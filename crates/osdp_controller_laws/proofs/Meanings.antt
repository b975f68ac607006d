-- What a reply means, from what is read.
use Rattle.std.proofs.Common.{◌≡◌, ◌∙◌, ap, subst, sym, refl, arith, ℕ, List, [], ◌∷◌, drop, get_or, Option, Some, None, Result, Ok, Err}
use Rattle.osdp_controller_laws.proofs.Common.{◌≢◌, slice_index, Packet, Reply, Ack, Busy, Nak, meaning_by_reading, meaning_by_reason, meaning_by_reply, NotTaken, Damaged, NumberRefused, Plain, Unreadable}
use Rattle.osdp_msg.specs.declared.fault.MsgFault.{MsgFault}
use Rattle.osdp_msg.specs.declared.nak.NakReason.{NakReason}
use Rattle.osdp_msg.specs.declared.nak.NakReason.TheVariants.{CheckCharacters, UnexpectedSequence}
use Rattle.osdp_msg.specs.declared.reply_fields.Nak.{Nak as NakData}
use Rattle.osdp_msg.specs.NakReasons.{reason_number, reason_of}
use Rattle.osdp_msg.specs.Refusal.{unless_fault}
use Rattle.osdp_msg.specs.ReplyFields.{nak_at}
use Rattle.osdp_msg.specs.ReplyTable.{reply_at, reply_fault, reply_of}
use Rattle.osdp_msg.proofs.ReplyRows.{reason_back}
use Rattle.osdp_msg.proofs.Table.{by_codes}
use Rattle.osdp_controller_laws.specs.Meanings.{IsAnswer, IsNak, MeansWhatIsRead, MeansWhatItSays}

-- ---- the reason of a NAK that is read is that of its number

nak_stands : (code : ℕ) (bytes : List ℕ) (n : NakData) → reply_at code bytes ≡ Nak n → n ≡ nak_at bytes
unfolding reply_at
nak_stands code =
    by_codes (λ c. (bytes : List ℕ) (n : NakData) → reply_at c bytes ≡ Nak n → n ≡ nak_at bytes) code (0x41 ∷ 0x45 ∷ 0x46 ∷ 0x48 ∷ 0x49 ∷ 0x4A ∷ 0x4B ∷ 0x50 ∷ 0x51 ∷ 0x53 ∷ 0x54 ∷ 0x79 ∷ 0x90 ∷ []) (
      λ bytes n e. (cc),
      (
        λ bytes n e. (cc),
        (
          λ bytes n e. (cc),
          (
            λ bytes n e. (cc),
            (
              λ bytes n e. (cc),
              (
                λ bytes n e. (cc),
                (
                  λ bytes n e. (cc),
                  (λ bytes n e. (cc), (λ bytes n e. (cc), (λ bytes n e. (cc), (λ bytes n e. (cc), (λ bytes n e. (cc), (λ bytes n e. (cc), tt)))))),
                ),
              ),
            ),
          ),
        ),
      ),
    )
    λ n1 n2 n3 n4 n5 n6 n7 n8 n9 nA nB nC nD bytes n e.
    let other : reply_at code bytes ≡ Ack = rw (n1, n2, n3, n4, n5, n6, n7, n8, n9, nA, nB, nC, nD) refl in cc

unless_is : (o : Option MsgFault) (x r : Reply) → unless_fault o x ≡ Ok r → x ≡ r
unless_is None x r e = cc
unless_is (Some fault) x r e = cc

-- this one is the reason of its number
abbrev HasItsNumber : NakData → Type 0
HasItsNumber n = n.reason ≡ reason_of (reason_number n.reason)

nak_at_numbered : (bytes : List ℕ) → HasItsNumber (nak_at bytes)
nak_at_numbered bytes = ap reason_of (sym (reason_back (get_or bytes 0 0)))

read_numbered : (code : ℕ) (bytes : List ℕ) (n : NakData) → reply_of code bytes ≡ Ok (Nak n) → HasItsNumber n
unfolding reply_of
read_numbered code bytes n e =
    subst HasItsNumber (sym (nak_stands code bytes n (unless_is (reply_fault code bytes) (reply_at code bytes) (Nak n) e))) (nak_at_numbered bytes)

-- ---- by what is read

number_of : (n : NakData) (k : ℕ) → IsNak k (Ok (Nak n)) → reason_number n.reason ≡ k
number_of n k x =
    let same : n ≡ x.0 = (let e = x.1 in cc) in
    ap (λ (m : NakData). reason_number m.reason) same ∙ x.2

plain_reply : (code : ℕ) (r : Reply) → IsAnswer r → MeansWhatIsRead code (Ok r) (Plain r)
plain_reply code r answer = record {
  not_taken = (λ e. absurd cc, λ e. absurd (answer.taken (cc)));
  damaged = (λ e. absurd cc, λ x. absurd ((answer.heard x.0 (let e = x.1 in cc)).0 x.2));
  refused = (λ e. absurd cc, λ x. absurd ((answer.heard x.0 (let e = x.1 in cc)).1 x.2));
  plain = λ q. (λ e. let same : r ≡ q = cc in (ap Ok same, subst IsAnswer same answer), λ x. let e = x.0 in cc);
  unreadable = λ other. (λ e. absurd cc, λ x. absurd (let e = x.1.1 in cc));
}

busy_reply : (code : ℕ) → MeansWhatIsRead code (Ok Busy) NotTaken
busy_reply code = record {
  not_taken = (λ e. refl, λ e. refl);
  damaged = (λ e. absurd cc, λ x. absurd (let e = x.1 in cc));
  refused = (λ e. absurd cc, λ x. absurd (let e = x.1 in cc));
  plain = λ r. (λ e. absurd cc, λ x. absurd (x.1.taken (let e = x.0 in cc)));
  unreadable = λ other. (λ e. absurd cc, λ x. absurd (let e = x.1.1 in cc));
}

damaged_nak : (code : ℕ) (n : NakData) → reason_number n.reason ≡ 1 → MeansWhatIsRead code (Ok (Nak n)) Damaged
damaged_nak code n is = record {
  not_taken = (λ e. absurd cc, λ e. absurd cc);
  damaged = (λ e. (n, refl, is), λ x. refl);
  refused = (λ e. absurd cc, λ x. absurd (let other = number_of n 4 x in omega arith));
  plain = λ r. (λ e. absurd cc, λ x. absurd ((x.1.heard n (let e = x.0 in cc)).0 is));
  unreadable = λ other. (λ e. absurd cc, λ x. absurd (let e = x.1.1 in cc));
}

refused_nak : (code : ℕ) (n : NakData) → reason_number n.reason ≡ 4 → MeansWhatIsRead code (Ok (Nak n)) NumberRefused
refused_nak code n is = record {
  not_taken = (λ e. absurd cc, λ e. absurd cc);
  damaged = (λ e. absurd cc, λ x. absurd (let other = number_of n 1 x in omega arith));
  refused = (λ e. (n, refl, is), λ x. refl);
  plain = λ r. (λ e. absurd cc, λ x. absurd ((x.1.heard n (let e = x.0 in cc)).1 is));
  unreadable = λ other. (λ e. absurd cc, λ x. absurd (let e = x.1.1 in cc));
}

plain_nak : (n : NakData) → HasItsNumber n → n.reason ≢ CheckCharacters → n.reason ≢ UnexpectedSequence → IsAnswer (Nak n)
plain_nak n numbered undamaged expected = record {
  taken = λ e. absurd cc;
  heard = λ m e.
      let same : n ≡ m = cc in
      subst (λ (k : NakData). (reason_number k.reason ≢ 1) × (reason_number k.reason ≢ 4)) same
      ((λ is. undamaged (numbered ∙ ap reason_of is)), (λ is. expected (numbered ∙ ap reason_of is)));
}

by_reason : (code : ℕ) (n : NakData) (reason : NakReason) → n.reason ≡ reason → HasItsNumber n
    → MeansWhatIsRead code (Ok (Nak n)) (meaning_by_reason reason n)
by_reason code n CheckCharacters is numbered = damaged_nak code n (ap reason_number is)
by_reason code n UnexpectedSequence is numbered = refused_nak code n (ap reason_number is)
by_reason code n reason is numbered = plain_reply code (Nak n) (plain_nak n numbered (λ e. absurd cc) (λ e. absurd cc))

by_reply : (code : ℕ) (r : Reply) → ((n : NakData) → r ≡ Nak n → HasItsNumber n) → MeansWhatIsRead code (Ok r) (meaning_by_reply r)
by_reply code Busy numbered = busy_reply code
by_reply code (Nak n) numbered = by_reason code n n.reason refl (numbered n refl)
by_reply code r numbered = plain_reply code r (record { taken = λ e. absurd cc; heard = λ n e. absurd cc })

by_reading : (code : ℕ) (read : Result Reply MsgFault) → ((n : NakData) → read ≡ Ok (Nak n) → HasItsNumber n)
    → MeansWhatIsRead code read (meaning_by_reading code read)
by_reading code (Ok r) numbered = by_reply code r (λ n e. numbered n (ap Ok e))
by_reading code (Err fault) numbered = record {
  not_taken = (λ e. absurd cc, λ e. absurd cc);
  damaged = (λ e. absurd cc, λ x. absurd (let e = x.1 in cc));
  refused = (λ e. absurd cc, λ x. absurd (let e = x.1 in cc));
  plain = λ r. (λ e. absurd cc, λ x. absurd (let e = x.0 in cc));
  unreadable = λ other. (λ e. let same : other ≡ code = cc in (same, (fault, refl)), λ x. ap Unreadable (sym x.0));
}

pub means_what_it_says : (p : Packet) → MeansWhatItSays p
means_what_it_says p =
    let code = slice_index p.body 0 in
    by_reading code (reply_of code (drop 1 p.body)) (read_numbered code (drop 1 p.body))
