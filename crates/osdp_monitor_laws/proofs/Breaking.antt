-- What an accusation of a first reply comes from: by its name the rule is broken.
use Rattle.osdp_monitor_laws.proofs.Common.{◌≡◌, ◌≢◌, inl, inr, ℕ, true, false, cond, eqb, ◌||◌, not, Some, None, Result, Ok, Err, refl, sym, subst, ap, ◌∙◌, and_parts, cond_both, eqb-false, eqb-true, false≢true, not-false, not-true, or_cases, or_parts, is_some, CheckKind, Sum, Crc, Packet, next_sequence, reply_fits, Command, Poll, MsgFault, Reply, Accusation, AnotherNumber, AnotherCheck, BusyToRepeat, RefusedZero, TakenOutOfTurn, UnreadReply, UnfitReply, EventAtZero, Said, Busy, Damage, Refusal, Answer, Known, Found, Knowledge, found_in, answer_accused, fit_accused, is_event_at_zero, is_plain, reader_accused, reading_accused, repeat_reply, reply_accused, taken_accused, turn_accused, asked, reply_told, said, Breaks, IsEvent, IsInTurn, IsTaken, NamesReaders, same_check}
use Rattle.osdp_msg.specs.declared.command.Command.TheVariants as command
use Rattle.osdp_monitor_laws.proofs.Agreeing.{none_some, same_some}
use Rattle.osdp_monitor_laws.proofs.Missing.{device_of}
use Rattle.osdp_monitor_laws.proofs.Naming.{IsFresh, is_fresh, judged_is, line7, named, new, whole}
use Rattle.osdp_monitor_laws.proofs.Telling.{reply_found}

pub checks_equal : (c d : CheckKind) → same_check c d ≡ true → c ≡ d
checks_equal Sum Sum is = refl
checks_equal Sum Crc is = absurd cc
checks_equal Crc Sum is = absurd cc
checks_equal Crc Crc is = refl

pub checks_other : (c d : CheckKind) → same_check c d ≡ false → c ≢ d
checks_other Sum Sum is same = absurd cc
checks_other Sum Crc is same = absurd cc
checks_other Crc Sum is same = absurd cc
checks_other Crc Crc is same = absurd cc

event_is : (told : Reply) → is_plain told ≡ false → IsEvent told
event_is told plain = record {
  no_ack = λ same. false≢true (sym plain ∙ ap is_plain same);
  no_nak = λ n same. false≢true (sym plain ∙ ap is_plain same);
}

polls : (c : Command) (told : Reply) (number : ℕ) → is_event_at_zero c told number ≡ true → (c ≡ Poll) × (number ≡ 0) × (is_plain told ≡ false)
polls command.Poll told number is =
    let parts = and_parts (eqb number 0) (not (is_plain told)) is in
    (refl, eqb-true number 0 parts.0, not-true (is_plain told) parts.1)
polls c told number is = absurd (false≢true is)

other_than : (s t : Said) (r : Packet) → said r ≡ s → s ≢ t → said r ≢ t
other_than s t r says differs same = differs (sym says ∙ same)

module _ (n : ℕ) (q : Packet) (k : Known) (known : IsFresh n q k) (r : Packet) (other : q.sequence ≢ n) where
  -- the accusation is this one, by which the rule is broken
  by_name : (x accusation : Accusation) → Breaks x n q r → Some x ≡ Some accusation → Breaks accusation n q r
  by_name x accusation breaks is = subst (λ y. Breaks y n q r) (same_some x accusation is) breaks

  busy_only : (accusation : Accusation) → said r ≡ Busy → reply_accused Busy k q r ≡ Some accusation → Breaks accusation n q r
  busy_only accusation says =
      cond_both (not (eqb r.sequence q.sequence || eqb r.sequence 0)) (Some AnotherNumber) (cond (not (same_check r.check q.check)) (Some AnotherCheck) (cond (is_some (repeat_reply k q)) (Some BusyToRepeat) None))
      (λ o. o ≡ Some accusation → Breaks accusation n q r)
      (λ wrong is.
      let parts = or_parts (eqb r.sequence q.sequence) (eqb r.sequence 0) (not-true (eqb r.sequence q.sequence || eqb r.sequence 0) wrong) in
      by_name AnotherNumber accusation
      (other_than Busy Damage r says (λ e. absurd cc), eqb-false r.sequence q.sequence parts.0, λ _. eqb-false r.sequence 0 parts.1) is)
      (λ fits. cond_both (not (same_check r.check q.check)) (Some AnotherCheck) (cond (is_some (repeat_reply k q)) (Some BusyToRepeat) None)
      (λ o. o ≡ Some accusation → Breaks accusation n q r)
      (λ differs is.
      by_name AnotherCheck accusation (
        other_than Busy Damage r says (λ e. absurd cc),
        elim (or_cases (eqb r.sequence q.sequence) (eqb r.sequence 0) (not-false (eqb r.sequence q.sequence || eqb r.sequence 0) fits)) [
          | inl own ↦ inl (eqb-true r.sequence q.sequence own)
          | inr zero ↦ inr (says, eqb-true r.sequence 0 zero)
        ],
        checks_other r.check q.check (not-true (same_check r.check q.check) differs),
        λ answers. absurd cc,
      ) is)
      (λ _ is. absurd (none_some accusation (sym (ap (λ o. cond (is_some o) (Some BusyToRepeat) None) (new n q k known r other)) ∙ is))))

  refusal_only : (accusation : Accusation) → said r ≡ Refusal → reply_accused Refusal k q r ≡ Some accusation → Breaks accusation n q r
  refusal_only accusation says =
      cond_both (not (eqb r.sequence q.sequence)) (Some AnotherNumber) (cond (not (same_check r.check q.check)) (Some AnotherCheck) (cond (eqb q.sequence 0) (Some RefusedZero) None))
      (λ o. o ≡ Some accusation → Breaks accusation n q r)
      (λ wrong is.
      by_name AnotherNumber accusation
      (other_than Refusal Damage r says (λ e. absurd cc), eqb-false r.sequence q.sequence (not-true (eqb r.sequence q.sequence) wrong), λ busy. absurd cc) is)
      (λ own. cond_both (not (same_check r.check q.check)) (Some AnotherCheck) (cond (eqb q.sequence 0) (Some RefusedZero) None)
      (λ o. o ≡ Some accusation → Breaks accusation n q r)
      (λ differs is.
      by_name AnotherCheck accusation (
        other_than Refusal Damage r says (λ e. absurd cc),
        inl (eqb-true r.sequence q.sequence (not-false (eqb r.sequence q.sequence) own)),
        checks_other r.check q.check (not-true (same_check r.check q.check) differs),
        λ answers. absurd cc,
      ) is)
      (λ same. cond_both (eqb q.sequence 0) (Some RefusedZero) None (λ o. o ≡ Some accusation → Breaks accusation n q r)
      (λ zero is.
      by_name RefusedZero accusation (
        says,
        eqb-true q.sequence 0 zero,
        eqb-true r.sequence q.sequence (not-false (eqb r.sequence q.sequence) own),
        checks_equal r.check q.check (not-false (same_check r.check q.check) same),
      ) is)
      (λ _ is. absurd (none_some accusation is))))

  module _ (accusation : Accusation) (says : said r ≡ Answer) (own : r.sequence ≡ q.sequence) where
    fit_only : (asks : Result Command MsgFault) (told : Reply) → IsTaken n q r → reply_told r ≡ Ok told → asked q ≡ asks
        → fit_accused asks told q.sequence ≡ Some accusation → Breaks accusation n q r
    fit_only (Err fault) told taken tells asks = λ is. absurd (none_some accusation is)
    fit_only (Ok c) told taken tells asks =
        cond_both (not (reply_fits c told)) (Some UnfitReply) (cond (is_event_at_zero c told q.sequence) (Some EventAtZero) None)
        (λ o. o ≡ Some accusation → Breaks accusation n q r)
        (λ unfit is. by_name UnfitReply accusation (taken, c, told, asks, tells, not-true (reply_fits c told) unfit) is)
        (λ fits. cond_both (is_event_at_zero c told q.sequence) (Some EventAtZero) None (λ o. o ≡ Some accusation → Breaks accusation n q r)
        (λ event is.
        let parts = polls c told q.sequence event in
        by_name EventAtZero accusation (
          taken,
          told,
          parts.1,
          asks ∙ ap Ok parts.0,
          tells,
          subst (λ x. reply_fits x told ≡ true) parts.0 (not-false (reply_fits c told) fits),
          event_is told parts.2,
        ) is)
        (λ _ is. absurd (none_some accusation is)))

    reading_only : (tells : Result Reply MsgFault) → IsTaken n q r → reply_told r ≡ tells → reading_accused tells q ≡ Some accusation → Breaks accusation n q r
    reading_only (Ok told) taken tells is = fit_only (asked q) told taken tells refl is
    reading_only (Err fault) taken tells is = by_name UnreadReply accusation (taken, fault, tells) is

    taken_only : IsInTurn n q → taken_accused q r ≡ Some accusation → Breaks accusation n q r
    taken_only turn =
        cond_both (same_check r.check q.check) (reading_accused (reply_told r) q) (Some AnotherCheck) (λ o. o ≡ Some accusation → Breaks accusation n q r)
        (λ same is.
        reading_only (reply_told r) (record { says = says; same = own; check = checks_equal r.check q.check same; turn = turn }) refl is)
        (λ differs is.
        by_name AnotherCheck accusation
        (other_than Answer Damage r says (λ e. absurd cc), inl own, checks_other r.check q.check differs, λ _. turn) is)

    turn_only : turn_accused k.taken q r ≡ Some accusation → Breaks accusation n q r
    turn_only = elim known.taken [
      | inl taken ↦ subst (λ o. turn_accused o q r ≡ Some accusation → Breaks accusation n q r) (sym taken)
          (cond_both (eqb q.sequence 0 || eqb q.sequence (next_sequence n)) (taken_accused q r) (cond (eqb q.sequence n) None (Some TakenOutOfTurn))
          (λ o. o ≡ Some accusation → Breaks accusation n q r)
          (λ turn. taken_only (elim (or_cases (eqb q.sequence 0) (eqb q.sequence (next_sequence n)) turn) [
            | inl zero ↦ inl (eqb-true q.sequence 0 zero)
            | inr next ↦ inr (eqb-true q.sequence (next_sequence n) next)
          ]))
          (λ third. cond_both (eqb q.sequence n) None (Some TakenOutOfTurn) (λ o. o ≡ Some accusation → Breaks accusation n q r)
          (λ _ is. absurd (none_some accusation is))
          (λ _ is.
          let parts = or_parts (eqb q.sequence 0) (eqb q.sequence (next_sequence n)) third in
          by_name TakenOutOfTurn accusation (says, own, eqb-false q.sequence 0 parts.0, eqb-false q.sequence (next_sequence n) parts.1) is)))
      | inr zero ↦ subst (λ o. turn_accused o q r ≡ Some accusation → Breaks accusation n q r) (sym zero.1)
          (cond_both (eqb q.sequence 0) (taken_accused q r) None (λ o. o ≡ Some accusation → Breaks accusation n q r) (λ _. taken_only (inl zero.0))
          (λ _ is. absurd (none_some accusation is)))
    ]

  answer_only : (accusation : Accusation) → said r ≡ Answer → reply_accused Answer k q r ≡ Some accusation → Breaks accusation n q r
  answer_only accusation says =
      subst (λ o. answer_accused o k q r ≡ Some accusation → Breaks accusation n q r) (sym (new n q k known r other))
      (cond_both (eqb r.sequence q.sequence) (turn_accused k.taken q r) (Some AnotherNumber) (λ o. o ≡ Some accusation → Breaks accusation n q r)
      (λ own. turn_only accusation says (eqb-true r.sequence q.sequence own))
      (λ differs is.
      by_name AnotherNumber accusation
      (other_than Answer Damage r says (λ e. absurd cc), eqb-false r.sequence q.sequence differs, λ busy. absurd cc) is))

  said_only : (s : Said) (accusation : Accusation) → said r ≡ s → reply_accused s k q r ≡ Some accusation → Breaks accusation n q r
  said_only Busy accusation says is = busy_only accusation says is
  said_only Damage accusation says is = absurd (none_some accusation is)
  said_only Refusal accusation says is = refusal_only accusation says is
  said_only Answer accusation says is = answer_only accusation says is

  only_so : (accusation : Accusation) → reader_accused k q r ≡ Some accusation → Breaks accusation n q r
  only_so accusation is = said_only (said r) accusation refl (sym (judged_is n q k known r) ∙ is)

pub names_readers : NamesReaders
names_readers line a e r accusation is from plain =
    let known = is_fresh line a e is in
    let k = (line7 line a e is).devices a in
    let device = device_of line a e.first is.first_to.1 is.nothing.0 in
    let found : (found_in (line7 line a e is) r).accusation ≡ reader_accused k e.last r =
    reply_found (λ (f : Found). f.accusation ≡ reader_accused k e.last r) (line7 line a e is) a e.last r from device plain known.last refl in
    let all = ap (λ (l : Knowledge). (found_in l r).accusation) (whole line a e is) ∙ found in (
      λ accused. only_so e.second.sequence e.last k known r is.another accusation (sym all ∙ accused),
      λ breaks. all ∙ named e.second.sequence e.last k known r is.another accusation breaks,
    )
